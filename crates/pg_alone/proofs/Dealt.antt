-- Floats that counts deal out.
use Rattle.std.proofs.Common.{◌≡◌, refl, sym, subst, inl, ℕ, zero, suc, ◌+◌, ◌-◌, ◌<◌, ◌≤◌, List, [], ◌∷◌, length, take, drop, true, false, Bool, Some, arith}
use Rattle.std.specs.Prelude.{slice_get, ℤ, nat_le, min, ◌==◌, ◌||◌}
use Rattle.std.specs.List.{range_with_len, sum_by}
use Rattle.std.proofs.lemmas.Bool.{eqb-true, leb-true}
use Rattle.std.proofs.lemmas.List.{length-drop, length-take}
use Rattle.std.proofs.lemmas.List.Sums.{sum_by-cons}
use Rattle.std.proofs.lemmas.Option.{same_Some}
use Rattle.pg_lemmas.proofs.Bools.{both_of}
use Rattle.law_places.proofs.Among.{Among, among_left, among_right}
use Rattle.pg_rules.specs.Floats.{dealt_from, entry, has_all_from, total_count}

-- what the counts deal out of one class is among all that they deal out
pub dealt_has : (lists : List (List ℤ)) (k slot : ℕ) (own : List ℤ) (before counts : List ℕ) (z : ℤ) →
    slice_get lists slot ≡ Some own → Among z (take (entry counts (k + slot)) (drop (entry before (k + slot)) own)) →
    Among z (dealt_from k lists before counts)
dealt_has [] k slot own before counts z e a = absurd cc
dealt_has (x ∷ lists) k zero own before counts z e a =
    let i : k + 0 ≡ k = omega arith in
    among_left z (take (entry counts k) (drop (entry before k) x)) (dealt_from (k + 1) lists before counts)
    (subst (λ (xs : List ℤ). Among z (take (entry counts k) (drop (entry before k) xs))) (sym (same_Some x own e))
    (subst (λ (n : ℕ). Among z (take (entry counts n) (drop (entry before n) own))) i a))
dealt_has (x ∷ lists) k (suc slot) own before counts z e a =
    let i : k + suc slot ≡ (k + 1) + slot = omega arith in
    among_right z (take (entry counts k) (drop (entry before k) x)) (dealt_from (k + 1) lists before counts)
    (dealt_has lists (k + 1) slot own before counts z e
    (subst (λ (n : ℕ). Among z (take (entry counts n) (drop (entry before n) own))) i a))

-- nothing is taken by a count of none
pub none_taken : (n : ℕ) (xs : List ℤ) (z : ℤ) → n ≡ 0 → Among z (take n xs) → ⊥
none_taken zero xs z e a = a
none_taken (suc n) xs z e a = absurd cc

-- a sum has each of its parts
pub sum_has : (f : ℕ → ℕ) (n k slot : ℕ) → slot < n → f (k + slot) ≤ sum_by f (range_with_len k n)
sum_has f zero k slot h = absurd (omega arith)
sum_has f (suc n) k zero h =
    let c : sum_by f (k ∷ range_with_len (k + 1) n) ≡ f k + sum_by f (range_with_len (k + 1) n) =
    sum_by-cons f k (range_with_len (k + 1) n) in
    let i : k + 0 ≡ k = omega arith in
    subst (λ (m : ℕ). f m ≤ sum_by f (range_with_len k (suc n))) (sym i) (omega arith)
sum_has f (suc n) k (suc slot) h =
    let c : sum_by f (k ∷ range_with_len (k + 1) n) ≡ f k + sum_by f (range_with_len (k + 1) n) =
    sum_by-cons f k (range_with_len (k + 1) n) in
    let i : k + suc slot ≡ (k + 1) + slot = omega arith in
    let r : f ((k + 1) + slot) ≤ sum_by f (range_with_len (k + 1) n) = sum_has f n (k + 1) slot (omega arith) in
    subst (λ (m : ℕ). f m ≤ sum_by f (range_with_len k (suc n))) (sym i) (omega arith)

-- where all counts together are none, each is
pub no_count : (counts : List ℕ) (slot : ℕ) → total_count counts ≡ 0 → entry counts slot ≡ 0
no_count [] slot e = refl
no_count (n ∷ counts) zero e =
    let c : sum_by (λ (m : ℕ). m) (n ∷ counts) ≡ n + sum_by (λ (m : ℕ). m) counts = sum_by-cons (λ (m : ℕ). m) n counts in
    omega arith
no_count (n ∷ counts) (suc slot) e =
    let c : sum_by (λ (m : ℕ). m) (n ∷ counts) ≡ n + sum_by (λ (m : ℕ). m) counts = sum_by-cons (λ (m : ℕ). m) n counts in
    no_count counts slot (omega arith)

-- something is taken by a count that is not none
pub some_count : (n : ℕ) (xs : List ℤ) (z : ℤ) → Among z (take n xs) → 0 < n
some_count zero xs z a = absurd a
some_count (suc n) xs z a = omega arith

-- a list that is not empty has something in it
some_among : (xs : List ℤ) → 0 < length xs → (z : ℤ) × Among z xs
some_among [] h = absurd (omega arith)
some_among (x ∷ xs) h = (x, inl refl)

-- a number that is not 0 is above it
pub not_zero : (n : ℕ) → (n == 0) ≡ false → 0 < n
not_zero zero e = absurd cc
not_zero (suc n) e = omega arith

-- where the counts deal out some floats, and all are there, one is dealt out
pub some_dealt : (lists : List (List ℤ)) (k : ℕ) (before counts : List ℕ) →
    has_all_from k lists before counts ≡ true → 0 < sum_by (entry counts) (range_with_len k (length lists)) →
    (z : ℤ) × Among z (dealt_from k lists before counts)
some_dealt [] k before counts all some = absurd (omega arith)
some_dealt (own ∷ lists) k before counts all some = by (entry counts k == 0) refl (some_dealt lists (k + 1) before counts)
  where
    parts : (((entry counts k == 0) || nat_le (entry before k + entry counts k) (length own)) ≡ true)
        × (has_all_from (k + 1) lists before counts ≡ true)
    parts = both_of _ (has_all_from (k + 1) lists before counts) all

    cons : sum_by (entry counts) (k ∷ range_with_len (k + 1) (length lists))
        ≡ entry counts k + sum_by (entry counts) (range_with_len (k + 1) (length lists))
    cons = sum_by-cons (entry counts) k (range_with_len (k + 1) (length lists))

    by : (b : Bool) → (entry counts k == 0) ≡ b → (has_all_from (k + 1) lists before counts ≡ true →
        0 < sum_by (entry counts) (range_with_len (k + 1) (length lists)) →
        (z : ℤ) × Among z (dealt_from (k + 1) lists before counts)) →
        (z : ℤ) × Among z (dealt_from k (own ∷ lists) before counts)
    by true e on =
        let none : entry counts k ≡ 0 = eqb-true (entry counts k) 0 e in
        let rest = on parts.1 (omega (arith, none, cons, some)) in (
          rest.0,
          among_right rest.0 (take (entry counts k) (drop (entry before k) own))
              (dealt_from (k + 1) lists before counts) rest.1,
        )
    by false e on =
        let fits : entry before k + entry counts k ≤ length own =
        leb-true _ _ (subst (λ (b : Bool). (b || nat_le (entry before k + entry counts k) (length own)) ≡ true) e parts.0) in
        let more : 0 < entry counts k = not_zero (entry counts k) e in
        let left : length (drop (entry before k) own) ≡ length own - entry before k = length-drop (entry before k) own in
        let long : length (take (entry counts k) (drop (entry before k) own))
        ≡ min (entry counts k) (length (drop (entry before k) own)) =
        length-take (entry counts k) (drop (entry before k) own) in
        let one = some_among (take (entry counts k) (drop (entry before k) own)) (omega arith) in (
          one.0,
          among_left one.0 (take (entry counts k) (drop (entry before k) own))
              (dealt_from (k + 1) lists before counts) one.1,
        )
