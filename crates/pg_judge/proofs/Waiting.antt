-- How long floats waited, page by page from the last.
use Rattle.std.proofs.Common.{◌≡◌, refl, sym, ap, ◌∙◌, ℕ, zero, suc, ◌+◌, ◌-◌, ◌<◌, arith, List, [], ◌∷◌, ◌++◌, length, take, get_or, Bool, true, false, Some, None}
use Rattle.std.specs.Prelude.{if◌then◌else◌, nat_lt, reverse, slice_get, slice_index}
use Rattle.std.proofs.lemmas.List.{reverse-append}
use Rattle.std.proofs.lemmas.Bool.Decides.{nat_tests}
use Rattle.pg_list.specs.declared.galley.Place.{Place}
use Rattle.pg_lemmas.proofs.Bools.{if_false, if_true}
use Rattle.pg_judge.specs.Waits.{waits_in}

-- the last element and those before it
last_of : (xs : List Place) (d : Place) → 0 < length xs → xs ≡ take (length xs - 1) xs ++ get_or xs (length xs - 1) d ∷ []
last_of [] d h = absurd (omega (arith, h))
last_of (y ∷ []) d h = refl
last_of (y ∷ z ∷ xs) d h =
    let n : length (y ∷ z ∷ xs) - 1 ≡ suc (length (z ∷ xs) - 1) = omega arith in
    ap (λ zs. y ∷ zs) (last_of (z ∷ xs) d (omega arith))
    ∙ sym (ap (λ (k : ℕ). take k (y ∷ z ∷ xs) ++ get_or (y ∷ z ∷ xs) k d ∷ []) n)

pub turned : (xs : List Place) (d : Place) → 0 < length xs →
    reverse xs ≡ get_or xs (length xs - 1) d ∷ reverse (take (length xs - 1) xs)
turned xs d h = ap reverse (last_of xs d h)
    ∙ reverse-append (take (length xs - 1) xs) (get_or xs (length xs - 1) d ∷ [])

pub wait_limit : (test : Place → Bool) (left : ℕ) (xs : List Place) → left ≡ 0 → waits_in test left xs ≡ 0
wait_limit test left xs z = ap (λ (n : ℕ). waits_in test n xs) z

pub wait_end : (test : Place → Bool) (left : ℕ) (xs : List Place) → length xs < 1 → waits_in test left (reverse xs) ≡ 0
wait_end test zero [] h = refl
wait_end test (suc left) [] h = refl
wait_end test left (x ∷ xs) h = absurd (omega (arith, h))

module _ (test : Place → Bool) (left : ℕ) (xs : List Place) (d : Place) (some : left ≡ 0 → ⊥)
    (long : 0 < length xs) where
  opened : waits_in test left (reverse xs) ≡ (if test (get_or xs (length xs - 1) d)
      then 1 + waits_in test (left - 1) (reverse (take (length xs - 1) xs)) else 0)
  opened = ap (waits_in test left) (turned xs d long) ∙ by left some
    where
      by : (n : ℕ) → (n ≡ 0 → ⊥) → waits_in test n (get_or xs (length xs - 1) d ∷ reverse (take (length xs - 1) xs))
          ≡ (if test (get_or xs (length xs - 1) d)
          then 1 + waits_in test (n - 1) (reverse (take (length xs - 1) xs)) else 0)
      by zero e = absurd (e refl)
      by (suc n) e = let m : n ≡ suc n - 1 = omega arith in
          ap (λ (k : ℕ). if test (get_or xs (length xs - 1) d)
          then 1 + waits_in test k (reverse (take (length xs - 1) xs)) else 0) m

  pub wait_stop : test (get_or xs (length xs - 1) d) ≡ false → waits_in test left (reverse xs) ≡ 0
  wait_stop f = opened ∙ if_false (test (get_or xs (length xs - 1) d)) _ _ f

  pub wait_on : test (get_or xs (length xs - 1) d) ≡ true →
      waits_in test left (reverse xs) ≡ 1 + waits_in test (left - 1) (reverse (take (length xs - 1) xs))
  wait_on t = opened ∙ if_true (test (get_or xs (length xs - 1) d)) _ _ t

-- ---- a table's entry

pub got_near : (table : List ℕ) (w price : ℕ) → slice_get table w ≡ Some price →
    (nat_lt w (length table) ≡ true) × (price ≡ slice_index table w)
got_near [] w price e = absurd cc
got_near (x ∷ table) zero price e = (less (length table), cc)
  where
    less : (n : ℕ) → nat_lt 0 (suc n) ≡ true
    less n = grind (arith, nat_tests)
got_near (x ∷ table) (suc w) price e =
    let r = got_near table w price e in (more w (length table) r.0, r.1)
  where
    more : (a b : ℕ) → nat_lt a b ≡ true → nat_lt (suc a) (suc b) ≡ true
    more a b e = grind (arith, nat_tests)

pub none_near : (table : List ℕ) (w : ℕ) → slice_get table w ≡ None → nat_lt w (length table) ≡ false
none_near [] w e = none w
  where
    none : (w : ℕ) → nat_lt w 0 ≡ false
    none w = grind (arith, nat_tests)
none_near (x ∷ table) zero e = absurd cc
none_near (x ∷ table) (suc w) e = more w (length table) (none_near table w e)
  where
    more : (a b : ℕ) → nat_lt a b ≡ false → nat_lt (suc a) (suc b) ≡ false
    more a b e = grind (arith, nat_tests)
