-- The items ahead lead to a place just where it stands among them and so many fronts before it.
use Rattle.std.proofs.Common.{◌≡◌, refl, sym, ap, ◌∙◌, ℕ, zero, suc, ◌+◌, ◌-◌, ◌≤◌, ◌<◌, List, [], ◌∷◌, length, arith, Bool, true, false, Option, Some, None}
use Rattle.std.specs.Prelude.{◌==◌, ◌&&◌, cond, not, nat_lt, if◌then◌else◌, option_map}
use Rattle.std.specs.List.{position, position_or_len}
use Rattle.std.specs.Option.{option_map_or}
use Rattle.std.proofs.lemmas.Bool.Decides.{nat_tests}
use Rattle.pg_list.specs.declared.galley.Place.{Place}
use Rattle.pg_list.specs.declared.blocks.Block.{Block}
use Rattle.pg_list.specs.Flat.{FlatItem, end_of, fronts, is_same_place, steps_to}
use Rattle.pg_column.specs.Ahead.{leads_to}
use Rattle.pg_lemmas.proofs.Bools.{both_of, by_bool, if_false, if_true}
use Rattle.pg_lemmas.proofs.Numbers.{less_of, not_less, less_true}
use Rattle.pg_list.proofs.Places.{fronts_cons}

module _ {X : Type 0} (p : X → Bool) where
  first : (x : X) (xs : List X) → p x ≡ true → position_or_len p (x ∷ xs) ≡ 0
  first x xs e = by (p x) e
    where
      by : (b : Bool) → b ≡ true → cond (not b) (1 + position_or_len p xs) 0 ≡ 0
      by true e = refl
      by false e = absurd cc

  later : (x : X) (xs : List X) → p x ≡ false → position_or_len p (x ∷ xs) ≡ suc (position_or_len p xs)
  later x xs e = by (p x) e
    where
      by : (b : Bool) → b ≡ false → cond (not b) (1 + position_or_len p xs) 0 ≡ suc (position_or_len p xs)
      by false e = omega arith
      by true e = absurd cc

  pub position_here : (x : X) (xs : List X) → p x ≡ true → position p (x ∷ xs) ≡ Some 0
  position_here x xs e = at_zero (position_or_len p (x ∷ xs)) (first x xs e)
    where
      at_zero : (m : ℕ) → m ≡ 0 → cond (nat_lt m (length (x ∷ xs))) (Some m) None ≡ Some 0
      at_zero m e = if_true (nat_lt m (length (x ∷ xs))) (Some m) None (less_of m (length (x ∷ xs)) (omega (arith, e)))
          ∙ ap Some e

  pub position_later : (x : X) (xs : List X) → p x ≡ false → position p (x ∷ xs) ≡ option_map suc (position p xs)
  position_later x xs e = by (position_or_len p xs) (position_or_len p (x ∷ xs)) (later x xs e)
    where
      by : (m k : ℕ) → k ≡ suc m →
          cond (nat_lt k (length (x ∷ xs))) (Some k) None ≡ option_map suc (cond (nat_lt m (length xs)) (Some m) None)
      by m k e = by_bool (nat_lt m (length xs))
          (λ t. let h : m < length xs = less_true m (length xs) t in
          if_true (nat_lt k (length (x ∷ xs))) (Some k) None (less_of k (length (x ∷ xs)) (omega (arith, h, e)))
          ∙ (ap Some e ∙ sym (ap (option_map suc) (if_true (nat_lt m (length xs)) (Some m) None t))))
          (λ f. let h : length xs ≤ m = not_less m (length xs) f in
          if_false (nat_lt k (length (x ∷ xs))) (Some k) None (over k (length (x ∷ xs)) (omega (arith, h, e)))
          ∙ sym (ap (option_map suc) (if_false (nat_lt m (length xs)) (Some m) None f)))
        where
          over : (a b : ℕ) → b ≤ a → nat_lt a b ≡ false
          over a b h = by_bool (nat_lt a b) (λ t. let k : a < b = less_true a b t in absurd (omega (arith, h, k)))
              (λ f. f)

abbrev pub is_at : Place → FlatItem → Bool
is_at to x = is_same_place x.place to

-- where a place stands, or the end
abbrev pub stands : Bool → Place → List FlatItem → Option ℕ
stands is_end to xs = if is_end then Some (length xs) else position (is_at to) xs

abbrev pub test : List FlatItem → ℕ → Option ℕ → Bool
test xs left o = option_map_or (λ (n : ℕ). fronts xs n == left) o false

-- one item on
test_on : (x : FlatItem) (xs : List FlatItem) (left : ℕ) (o : Option ℕ) →
    (if x.is_front then nat_lt 0 left && test xs (left - 1) o else test xs left o)
    ≡ test (x ∷ xs) left (option_map suc o)
test_on x xs left None = by x.is_front
  where
    by : (f : Bool) → (if f then nat_lt 0 left && false else false) ≡ false
    by true = none (nat_lt 0 left)
      where
        none : (b : Bool) → (b && false) ≡ false
        none true = refl
        none false = refl
    by false = refl
test_on x xs left (Some n) = by x.is_front (fronts xs n) left ∙ sym (ap (λ (k : ℕ). k == left) (fronts_cons x xs n))
  where
    by : (f : Bool) (k left : ℕ) →
        (if f then nat_lt 0 left && (k == left - 1) else k == left) ≡ (cond f 1 0 + k == left)
    by true k zero = let n : 1 + k ≡ suc k = omega arith in sym (ap (λ (m : ℕ). m == 0) n ∙ grind (arith, nat_tests))
    by true k (suc left) = grind (arith, nat_tests)
    by false k left = let n : 0 + k ≡ k = omega arith in sym (ap (λ (m : ℕ). m == left) n)

pub leads_is : (is_end : Bool) (to : Place) (xs : List FlatItem) (left : ℕ) →
    leads_to is_end to xs left ≡ test xs left (stands is_end to xs)
leads_is true to [] left = turned left
  where
    turned : (left : ℕ) → (left == 0) ≡ (0 == left)
    turned left = grind (arith, nat_tests)
leads_is false to [] left = refl
leads_is true to (x ∷ xs) left =
    both x.is_front _ _ _ _ (leads_is true to xs (left - 1)) (leads_is true to xs left)
    ∙ test_on x xs left (Some (length xs))
  where
    both : (f : Bool) (a a' b b' : Bool) → a ≡ a' → b ≡ b' →
        (if f then nat_lt 0 left && a else b) ≡ (if f then nat_lt 0 left && a' else b')
    both f a a' b b' p q = cc
leads_is false to (x ∷ xs) left = by_bool (is_at to x)
    (λ t. if_true (is_at to x) (left == 0) _ t ∙ (turned left ∙ sym (ap (test (x ∷ xs) left)
    (position_here (is_at to) x xs t))))
    (λ f. if_false (is_at to x) (left == 0) _ f
    ∙ (both x.is_front _ _ _ _ (leads_is false to xs (left - 1)) (leads_is false to xs left)
    ∙ (test_on x xs left (position (is_at to) xs)
    ∙ sym (ap (test (x ∷ xs) left) (position_later (is_at to) x xs f)))))
  where
    turned : (left : ℕ) → (left == 0) ≡ (0 == left)
    turned left = grind (arith, nat_tests)

    both : (f : Bool) (a a' b b' : Bool) → a ≡ a' → b ≡ b' →
        (if f then nat_lt 0 left && a else b) ≡ (if f then nat_lt 0 left && a' else b')
    both f a a' b b' p q = cc

-- the rule's test of a span is that its picks name variants and that what is ahead leads to its end
pub fits_is : (blocks : List Block) (xs : List FlatItem) (to : Place) (picks : ℕ) (named : Bool) →
    option_map_or (λ (n : ℕ). (fronts xs n == picks) && named) (steps_to blocks xs to) false
    ≡ (named && leads_to (is_same_place to (end_of blocks)) to xs picks)
fits_is blocks xs to picks named = by (steps_to blocks xs to)
    ∙ ap (λ (b : Bool). named && b) (sym (leads_is (is_same_place to (end_of blocks)) to xs picks))
  where
    turned : (a b : Bool) → (a && b) ≡ (b && a)
    turned true true = refl
    turned true false = refl
    turned false true = refl
    turned false false = refl

    by : (o : Option ℕ) → option_map_or (λ (n : ℕ). (fronts xs n == picks) && named) o false
        ≡ (named && test xs picks o)
    by None = turned false named
    by (Some n) = turned (fronts xs n == picks) named

pub fits_named : (blocks : List Block) (xs : List FlatItem) (to : Place) (picks : ℕ) (named : Bool) → named ≡ true →
    leads_to (is_same_place to (end_of blocks)) to xs picks
    ≡ option_map_or (λ (n : ℕ). (fronts xs n == picks) && named) (steps_to blocks xs to) false
fits_named blocks xs to picks named e =
    sym (ap (λ (b : Bool). b && leads_to (is_same_place to (end_of blocks)) to xs picks) e)
    ∙ sym (fits_is blocks xs to picks named)

pub named_there : (blocks : List Block) (xs : List FlatItem) (to : Place) (picks : ℕ) (named : Bool) →
    option_map_or (λ (n : ℕ). (fronts xs n == picks) && named) (steps_to blocks xs to) false ≡ true → named ≡ true
named_there blocks xs to picks named e =
    (both_of named (leads_to (is_same_place to (end_of blocks)) to xs picks)
    (sym (fits_is blocks xs to picks named) ∙ e)).0
