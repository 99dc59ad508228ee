-- No class places more floats than there are.
use Rattle.std.proofs.Common.{◌≡◌, subst, ℕ, zero, suc, ◌+◌, ◌≤◌, ◌<◌, ◌^◌, arith, List, [], ◌∷◌, length, true, inl, inr}
use Rattle.std.specs.Prelude.{◌==◌, ◌||◌, nat_le, nat_lt, ℤ}
use Rattle.std.specs.List.{sum_by}
use Rattle.std.proofs.lemmas.Bool.{eqb-true, leb-true}
use Rattle.std.proofs.lemmas.List.{length-map}
use Rattle.std.proofs.lemmas.List.Sums.{sum_by-cons}
use Rattle.pg_list.specs.Flat.{flat}
use Rattle.pg_rules.specs.Floats.{entry, float_numbers, floats, has_all, has_all_from, plus_counts, sizes_of}
use Rattle.pg_rules.specs.Room.{Document}
use Rattle.law_columns.proofs.BoundCounts.{plus_long}
use Rattle.law_columns.proofs.Waiting.{entry_plus}
use Rattle.pg_floats.specs.AreFloats.{float_total}
use Rattle.pg_lemmas.proofs.Bools.{both_of, by_bool, or_cases}
use Rattle.pg_lemmas.proofs.Numbers.{less_true, not_less}
use Rattle.pg_pages.specs.Printed.{FitTogether}
use Rattle.law_columns.proofs.BoundCounts.{entry_beyond}

-- no class has placed more than a galley may have
abbrev pub AreFewPlaced : List ℕ → Type 0
AreFewPlaced placed = (slot : ℕ) → entry placed slot ≤ 2 ^ 12

within : (most k : ℕ) (lists : List (List ℤ)) (before counts : List ℕ) →
    sum_by (λ (sizes : List ℤ). length sizes) lists ≤ most → ((slot : ℕ) → entry before slot ≤ most) →
    has_all_from k lists before counts ≡ true → (slot : ℕ) → slot < length lists →
    entry before (k + slot) + entry counts (k + slot) ≤ most
within most k [] before counts few less all slot h = absurd (omega (arith, h))
within most k (sizes ∷ lists) before counts few less all zero h =
    let e = sum_by-cons (λ (sizes : List ℤ). length sizes) sizes lists in
    let t = both_of ((entry counts k == 0) || nat_le (entry before k + entry counts k) (length sizes)) _ all in
    let b = less k in
    let z : k ≡ k + 0 = omega arith in
    subst (λ (i : ℕ). entry before i + entry counts i ≤ most) z
    (elim (or_cases (entry counts k == 0) _ t.0) [
      | inl c ↦ (let n : entry counts k ≡ 0 = eqb-true _ _ c in omega (arith, b, n))
      | inr c ↦ (let l : entry before k + entry counts k ≤ length sizes = leb-true _ _ c in omega (arith, e, few, l))
    ])
within most k (sizes ∷ lists) before counts few less all (suc slot) h =
    let e = sum_by-cons (λ (sizes : List ℤ). length sizes) sizes lists in
    let t = both_of ((entry counts k == 0) || nat_le (entry before k + entry counts k) (length sizes)) _ all in
    let z : k + 1 + slot ≡ k + suc slot = omega arith in
    subst (λ (i : ℕ). entry before i + entry counts i ≤ most) z
    (within most (k + 1) lists before counts (omega (arith, e, few)) less t.1 slot (omega (arith, h)))

module _ (doc : Document) (few : float_total doc.blocks doc.style ≤ 2 ^ 12) (before counts : List ℕ)
    (long : length counts ≡ length (float_numbers doc.style)) (less : AreFewPlaced before)
    (all : has_all (floats doc.blocks doc.style) before counts ≡ true) where
  few_together : (slot : ℕ) → entry before slot + entry counts slot ≤ 2 ^ 12
  few_together slot = by_bool (nat_lt slot (length (float_numbers doc.style)))
      (λ t.
      let h = less_true slot _ t in
      let n : length (floats doc.blocks doc.style) ≡ length (float_numbers doc.style) =
      length-map (float_numbers doc.style) (λ number. sizes_of number (flat doc.blocks [])) in
      let z : 0 + slot ≡ slot = omega arith in
      subst (λ (i : ℕ). entry before i + entry counts i ≤ 2 ^ 12) z
      (within (2 ^ 12) 0 (floats doc.blocks doc.style) before counts few less all slot (omega (arith, h, n))))
      (λ f.
      let h = not_less slot _ f in
      let n = entry_beyond counts slot (omega (arith, h, long)) in
      let b = less slot in
      omega (arith, n, b))

  pub fit_together : FitTogether before counts
  fit_together slot = let t = few_together slot in omega (arith, t)

  pub few_behind : AreFewPlaced (plus_counts doc.style before counts)
  few_behind slot = by_bool (nat_lt slot (length (float_numbers doc.style)))
      (λ t.
      let e = entry_plus doc.style before counts slot (less_true slot _ t) in
      let b = few_together slot in
      omega (arith, e, b))
      (λ f.
      let h = not_less slot _ f in
      let l = plus_long doc.style before counts in
      let n = entry_beyond (plus_counts doc.style before counts) slot (omega (arith, h, l)) in
      omega (arith, n))
