-- What floats pay together, from their prices.
use Rattle.std.proofs.Common.{◌≡◌, refl, sym, ap, ◌∙◌, subst, ℕ, zero, suc, ◌+◌, ◌<◌, ◌≤◌, arith, List, [], ◌∷◌, ◌++◌, length, Bool, true, false, Option, Some, None, ℤ, pos, ◌+ℤ◌}
use Rattle.std.specs.Prelude.{◌==◌, ◌&&◌, ◌||◌, min, nat_le, nat_lt, slice_get, slice_index}
use Rattle.std.specs.List.{flat_map, list_all, range_with_len}
use Rattle.std.proofs.lemmas.Bool.{leb-true, le-leb}
use Rattle.std.proofs.lemmas.Bool.Decides.{nat_tests}
use Rattle.std.proofs.lemmas.Int.{ints}
use Rattle.std.proofs.lemmas.Grind.{flat_map-append}
use Rattle.pg_list.specs.Whole.{whole_sum_by}
use Rattle.pg_rules.specs.Floats.{numbered}
use Rattle.pg_lemmas.proofs.Bools.{both, both_of, both_ways}
use Rattle.pg_lemmas.proofs.Lists.{range_more}
use Rattle.pg_lemmas.proofs.Numbers.{less_of, less_true, not_less, suc_not}
use Rattle.pg_judge.specs.Waits.{both_prices, prices_below}
use Rattle.pg_floats.proofs.Ranges.{all_append_is}
use Rattle.pg_judge.proofs.Waiting.{got_near, none_near}

-- all are near and pay so much, or one is not near
abbrev pub ArePriced : (ℕ × ℕ → Bool) → (ℕ × ℕ → ℕ) → List (ℕ × ℕ) → Option ℕ → Type 0
ArePriced near cost floats None = list_all near floats ≡ false
ArePriced near cost floats (Some price) =
    (list_all near floats ≡ true) × (pos price ≡ whole_sum_by (λ (float : ℕ × ℕ). pos (cost float)) floats)

sum_append : (f : ℕ × ℕ → ℤ) (xs ys : List (ℕ × ℕ)) → whole_sum_by f (xs ++ ys) ≡ whole_sum_by f xs +ℤ whole_sum_by f ys
sum_append f [] ys = let e : whole_sum_by f ys ≡ pos 0 +ℤ whole_sum_by f ys = omega (arith, ints) in e
sum_append f (x ∷ xs) ys = ap (λ (z : ℤ). f x +ℤ z) (sum_append f xs ys)
    ∙ grouped (f x) (whole_sum_by f xs) (whole_sum_by f ys)
  where
    grouped : (a b c : ℤ) → a +ℤ (b +ℤ c) ≡ (a +ℤ b) +ℤ c
    grouped a b c = omega (arith, ints)

module _ (near : ℕ × ℕ → Bool) (cost : ℕ × ℕ → ℕ) where
  priced_append : (xs ys : List (ℕ × ℕ)) (o p : Option ℕ) → ArePriced near cost xs o → ArePriced near cost ys p →
      ArePriced near cost (xs ++ ys) (both_prices o p)
  priced_append xs ys None p a b = all_append_is near xs ys ∙ ap (λ (t : Bool). t && list_all near ys) a
  priced_append xs ys (Some n) None a b = all_append_is near xs ys ∙ rw (a.0, b) refl
  priced_append xs ys (Some n) (Some m) a b = (
    all_append_is near xs ys ∙ rw (a.0, b.0) refl,
    (let s : pos (n + m) ≡ pos n +ℤ pos m = omega (arith, ints) in s)
        ∙ (ap (λ (z : ℤ). z +ℤ pos m) a.1 ∙ (ap (λ (z : ℤ). whole_sum_by (λ (float : ℕ × ℕ). pos (cost float)) xs +ℤ z) b.1
        ∙ sym (sum_append (λ (float : ℕ × ℕ). pos (cost float)) xs ys))),
  )

  numbered_more : (slot n k : ℕ) → numbered slot n (suc k) ≡ numbered slot n k ++ (slot, n + k) ∷ []
  numbered_more slot n zero = let e : n ≡ n + 0 = omega arith in ap (λ (i : ℕ). (slot, i) ∷ []) e
  numbered_more slot n (suc k) =
      let e : n + 1 + k ≡ n + suc k = omega arith in
      ap (λ (xs : List (ℕ × ℕ)). (slot, n) ∷ xs) (numbered_more slot (n + 1) k
      ∙ ap (λ (i : ℕ). numbered slot (n + 1) k ++ (slot, i) ∷ []) e)

  pub slot_priced : (price : ℕ × ℕ → Option ℕ) → ((float : ℕ × ℕ) → ArePriced near cost (float ∷ []) (price float)) →
      (slot a k : ℕ) → ArePriced near cost (numbered slot a k) (prices_below (λ (i : ℕ). price (slot, a + i)) k)
  slot_priced price each slot a zero = (refl, refl)
  slot_priced price each slot a (suc k) =
      subst (λ (xs : List (ℕ × ℕ)). ArePriced near cost xs (prices_below (λ (i : ℕ). price (slot, a + i)) (suc k)))
      (sym (numbered_more slot a k))
      (priced_append (numbered slot a k) ((slot, a + k) ∷ []) (prices_below (λ (i : ℕ). price (slot, a + i)) k)
      (price (slot, a + k)) (slot_priced price each slot a k) (each (slot, a + k)))

  pub all_priced : (floats : ℕ → List (ℕ × ℕ)) (price : ℕ → Option ℕ) (n : ℕ) →
      ((slot : ℕ) → slot < n → ArePriced near cost (floats slot) (price slot)) →
      ArePriced near cost (flat_map floats (range_with_len 0 n)) (prices_below price n)
  all_priced floats price zero each = (refl, refl)
  all_priced floats price (suc n) each =
      let z : 0 + n ≡ n = omega arith in
      subst (λ (xs : List (ℕ × ℕ)). ArePriced near cost xs (prices_below price (suc n)))
      (sym (ap (flat_map floats) (range_more 0 n ∙ ap (λ (i : ℕ). range_with_len 0 n ++ i ∷ []) z)
      ∙ flat_map-append floats (range_with_len 0 n) (n ∷ [])))
      (priced_append (flat_map floats (range_with_len 0 n)) (flat_map floats (n ∷ [])) (prices_below price n) (price n)
      (all_priced floats price n (λ slot h. each slot (omega (arith, h))))
      (subst (λ (xs : List (ℕ × ℕ)). ArePriced near cost xs (price n)) (sym (alone (floats n))) (each n (omega arith))))
    where
      alone : (xs : List (ℕ × ℕ)) → xs ++ [] ≡ xs
      alone [] = refl
      alone (x ∷ xs) = ap (λ ys. x ∷ ys) (alone xs)

-- one float, by a table and how long it waited
pub one_priced : (tables : ℕ → List ℕ) (waited : ℕ × ℕ → ℕ) (float : ℕ × ℕ) →
    ArePriced (λ (it : ℕ × ℕ). nat_lt (waited it) (length (tables it.0)))
    (λ (it : ℕ × ℕ). slice_index (tables it.0) (waited it)) (float ∷ [])
    (slice_get (tables float.0) (min (length (tables float.0)) (waited float)))
one_priced tables waited float =
    by (slice_get (tables float.0) (min (length (tables float.0)) (waited float))) refl
  where
    late : (a l : ℕ) → nat_lt (min l a) l ≡ false → nat_lt a l ≡ false
    late a l e = let n = not_less (min l a) l e in no a l (omega (arith, n))
      where
        no : (a b : ℕ) → b ≤ a → nat_lt a b ≡ false
        no a b h = grind (arith, nat_tests)

    early : (a l : ℕ) → nat_lt (min l a) l ≡ true → min l a ≡ a
    early a l e = let n = less_true (min l a) l e in omega (arith, n)

    alone : (b : Bool) → (b && true) ≡ b
    alone true = refl
    alone false = refl

    whole : (z : ℤ) → z ≡ z +ℤ pos 0
    whole z = omega (arith, ints)

    by : (o : Option ℕ) → slice_get (tables float.0) (min (length (tables float.0)) (waited float)) ≡ o →
        ArePriced (λ (it : ℕ × ℕ). nat_lt (waited it) (length (tables it.0)))
        (λ (it : ℕ × ℕ). slice_index (tables it.0) (waited it)) (float ∷ []) o
    by None e = alone (nat_lt (waited float) (length (tables float.0)))
        ∙ late (waited float) (length (tables float.0)) (none_near (tables float.0) _ e)
    by (Some price) e =
        let g = got_near (tables float.0) (min (length (tables float.0)) (waited float)) price e in
        let same = early (waited float) (length (tables float.0)) g.0 in (
          alone (nat_lt (waited float) (length (tables float.0)))
              ∙ (ap (λ (n : ℕ). nat_lt n (length (tables float.0))) (sym same) ∙ g.0),
          ap pos (g.1 ∙ ap (slice_index (tables float.0)) same) ∙ whole _,
        )

-- ---- prices and tests slot by slot

pub prices_same : (f g : ℕ → Option ℕ) (n : ℕ) → ((i : ℕ) → i < n → f i ≡ g i) → prices_below f n ≡ prices_below g n
prices_same f g zero same = refl
prices_same f g (suc n) same =
    ap (λ (o : Option ℕ). both_prices o (f n)) (prices_same f g n (λ i h. same i (omega (arith, h))))
    ∙ ap (both_prices (prices_below g n)) (same n (omega arith))

-- numbers of a slot below the slot's limit
pub all_numbered : (limit : ℕ → ℕ) (slot n k : ℕ) →
    list_all (λ (float : ℕ × ℕ). nat_lt float.1 (limit float.0)) (numbered slot n k)
    ≡ ((k == 0) || nat_le (n + k) (limit slot))
all_numbered limit slot n zero = refl
all_numbered limit slot n (suc k) =
    ap (λ (b : Bool). nat_lt n (limit slot) && b) (all_numbered limit slot (n + 1) k) ∙ by k
  where
    none : nat_lt n (limit slot) ≡ nat_le (n + 1) (limit slot)
    none = both_ways _ _ (λ e. le-leb (n + 1) (limit slot) (let h = less_true n (limit slot) e in omega (arith, h)))
        (λ e. less_of n (limit slot) (let h : n + 1 ≤ limit slot = leb-true _ _ e in omega (arith, h)))

    alone : (b : Bool) → (b && true) ≡ b
    alone true = refl
    alone false = refl

    two : (j : ℕ) → (nat_lt n (limit slot) && nat_le (n + 1 + suc j) (limit slot)) ≡ nat_le (n + suc (suc j)) (limit slot)
    two j = both_ways (nat_lt n (limit slot) && nat_le (n + 1 + suc j) (limit slot)) (nat_le (n + suc (suc j)) (limit slot))
        (λ e. le-leb _ _ (let h : n + 1 + suc j ≤ limit slot = leb-true _ _ (both_of (nat_lt n (limit slot)) _ e).1 in
        omega (arith, h)))
        (λ e. let h : n + suc (suc j) ≤ limit slot = leb-true _ _ e in
        both (nat_lt n (limit slot)) (nat_le (n + 1 + suc j) (limit slot)) (less_of n (limit slot) (omega (arith, h)))
        (le-leb _ _ (omega (arith, h))))

    by : (k : ℕ) → (nat_lt n (limit slot) && ((k == 0) || nat_le (n + 1 + k) (limit slot)))
        ≡ ((suc k == 0) || nat_le (n + suc k) (limit slot))
    by zero = alone (nat_lt n (limit slot)) ∙ (none ∙ sym (ap (λ (b : Bool). b || nat_le (n + 1) (limit slot)) (suc_not 0)))
    by (suc j) = ap (λ (b : Bool). nat_lt n (limit slot) && (b || nat_le (n + 1 + suc j) (limit slot))) (suc_not j)
        ∙ (two j ∙ sym (ap (λ (b : Bool). b || nat_le (n + suc (suc j)) (limit slot)) (suc_not (suc j))))

pub all_flat : (p : ℕ × ℕ → Bool) (floats : ℕ → List (ℕ × ℕ)) (slots : List ℕ) →
    list_all p (flat_map floats slots) ≡ list_all (λ (slot : ℕ). list_all p (floats slot)) slots
all_flat p floats [] = refl
all_flat p floats (slot ∷ slots) =
    all_append_is p (floats slot) (flat_map floats slots)
    ∙ ap (λ (b : Bool). list_all p (floats slot) && b) (all_flat p floats slots)
