-- The numbers of the float classes: counted from 0 on, or taken from the classes in order.
use Rattle.std.proofs.Common.{◌≡◌, ◌≢◌, refl, sym, ap, ◌∙◌, ℕ, zero, suc, ◌+◌, ◌<◌, ◌≤◌, List, [], ◌∷◌, map, arith}
use Rattle.std.proofs.Common.{Bool, true, false, Some, None, ◌⊎◌, inl, inr}
use Rattle.std.specs.Prelude.{◌==◌, if◌then◌else◌, slice_get}
use Rattle.std.specs.Option.{option_map_or}
use Rattle.std.specs.List.{AllByRecursion, filter, range_with_len}
use Rattle.std.proofs.lemmas.Bool.Decides.{nat_tests}
use Rattle.pg_style.specs.Classes.{class_in, is_float_class, is_float_kind, float_numbers_of}
use Rattle.pg_style.specs.Ranges.{AreClasses, AreInOrder, IsClass}
use Rattle.pg_style.specs.Values.{StyleValue}
use Rattle.pg_style.specs.declared.style.Area.{Area}
use Rattle.pg_style.specs.declared.style.Class.{Class}
use Rattle.pg_style.specs.declared.style.Kind.{Kind}
use Rattle.pg_style.specs.declared.style.Kind.TheVariants.{Note, Float}
use Rattle.pg_rules.specs.Floats.{float_kind, float_numbers}

-- a float class has the number
abbrev pub is_float_number : List Class → ℕ → Bool
is_float_number classes number =
    option_map_or (λ (kind : Area × List ℕ). true)
    (option_map_or (λ (class : Class). float_kind class.kind) (class_in classes number) None) false

kind_is : (kind : Kind) →
    option_map_or (λ (kind : Area × List ℕ). true) (float_kind kind) false ≡ is_float_kind kind
kind_is (Note skip limit) = refl
kind_is (Float area distance) = refl

own_number : (class : Class) (classes : List Class) (n : ℕ) → class.number ≡ n →
    is_float_number (class ∷ classes) n ≡ is_float_class class
own_number class classes n e = by (class.number == n) (same class.number n e)
  where
    same : (a b : ℕ) → a ≡ b → (a == b) ≡ true
    same a b e = grind (arith, nat_tests)

    by : (t : Bool) → t ≡ true →
        option_map_or (λ (kind : Area × List ℕ). true)
        (option_map_or (λ (class : Class). float_kind class.kind)
        (if t then Some class else class_in classes n) None) false ≡ is_float_class class
    by true e = kind_is class.kind
    by false e = absurd (cc)

other_number : (class : Class) (classes : List Class) (n : ℕ) → class.number ≢ n →
    is_float_number (class ∷ classes) n ≡ is_float_number classes n
other_number class classes n e = by (class.number == n) (differ class.number n e)
  where
    differ : (a b : ℕ) → a ≢ b → (a == b) ≡ false
    differ a b e = grind (arith, nat_tests)

    by : (t : Bool) → t ≡ false →
        option_map_or (λ (kind : Area × List ℕ). true)
        (option_map_or (λ (class : Class). float_kind class.kind)
        (if t then Some class else class_in classes n) None) false ≡ is_float_number classes n
    by true e = absurd (cc)
    by false e = refl

-- where no class is numbered up to m, no float class is
pub above_number : (m : ℕ) (classes : List Class) (slot n : ℕ) →
    AllByRecursion (λ (later : Class). m < later.number) classes →
    slice_get (float_numbers_of classes) slot ≡ Some n → m < n
above_number m [] slot n all e = absurd (cc)
above_number m (class ∷ classes) slot n all e =
    by (is_float_class class) slot (λ k f. above_number m classes k n all.1 f) e
  where
    by : (t : Bool) (slot : ℕ) → ((k : ℕ) → slice_get (float_numbers_of classes) k ≡ Some n → m < n) →
        slice_get (map (λ (class : Class). class.number)
        (if t then class ∷ filter is_float_class classes else filter is_float_class classes)) slot ≡ Some n → m < n
    by true zero rest e = let same : class.number ≡ n = cc in let h = all.0 in omega (arith, h, same)
    by true (suc slot) rest e = rest slot e
    by false slot rest e = rest slot e

-- a test from one number on
alike_from : (p q : ℕ → Bool) (a k : ℕ) → ((n : ℕ) → a ≤ n → p n ≡ q n) →
    filter p (range_with_len a k) ≡ filter q (range_with_len a k)
alike_from p q a zero same = refl
alike_from p q a (suc k) same =
    let rest = alike_from p q (a + 1) k (λ n h. same n (omega (arith, h))) in
    by (p a) (q a) (same a (omega arith)) rest
  where
    by : (s t : Bool) → s ≡ t → filter p (range_with_len (a + 1) k) ≡ filter q (range_with_len (a + 1) k) →
        (if s then a ∷ filter p (range_with_len (a + 1) k) else filter p (range_with_len (a + 1) k))
        ≡ (if t then a ∷ filter q (range_with_len (a + 1) k) else filter q (range_with_len (a + 1) k))
    by true true e r = ap (λ (xs : List ℕ). a ∷ xs) r
    by true false e r = absurd (cc)
    by false true e r = absurd (cc)
    by false false e r = r

none_from : (a k : ℕ) → filter (is_float_number []) (range_with_len a k) ≡ []
none_from a zero = refl
none_from a (suc k) = none_from (a + 1) k

below : (a : ℕ) (classes : List Class) (n : ℕ) → AllByRecursion (λ (class : Class). n < class.number) classes →
    is_float_number classes n ≡ false
below a [] n all = refl
below a (class ∷ classes) n all =
    other_number class classes n (λ e. omega (arith, all.0, e)) ∙ below a classes n all.1

-- numbers from a on, k of them
pub record Within (a k : ℕ) (class : Class) : Type 0 where
  pub from : a ≤ class.number
  pub to : class.number < a + k

pub above : (a k : ℕ) (classes : List Class) → AllByRecursion (Within a (suc k)) classes →
    AllByRecursion (λ (class : Class). a < class.number) classes → AllByRecursion (Within (a + 1) k) classes
above a k [] all more = tt
above a k (class ∷ classes) all more =
    (record { from = omega (arith, more.0); to = omega (arith, all.0.to) }, above a k classes all.1 more.1)

pub more_than : (m n : ℕ) (classes : List Class) → m ≤ n →
    AllByRecursion (λ (class : Class). n < class.number) classes →
    AllByRecursion (λ (class : Class). m < class.number) classes
more_than m n [] h all = tt
more_than m n (class ∷ classes) h all = (omega (arith, all.0), more_than m n classes h all.1)

pub at_or_above : (a n : ℕ) → a ≤ n → (n ≡ a) ⊎ (a < n)
at_or_above zero zero h = inl refl
at_or_above zero (suc n) h = inr (omega arith)
at_or_above (suc a) zero h = absurd (omega arith)
at_or_above (suc a) (suc n) h =
    elim (at_or_above a n (omega arith)) [ inl e ↦ inl (ap suc e) | inr l ↦ inr (omega (arith, l)) ]

numbers_from : (k a : ℕ) (classes : List Class) → AreInOrder classes → AllByRecursion (Within a k) classes →
    filter (is_float_number classes) (range_with_len a k) ≡ float_numbers_of classes
numbers_from k a [] order all = none_from a k
numbers_from zero a (class ∷ classes) order all = absurd (omega (arith, all.0.from, all.0.to))
numbers_from (suc k) a (class ∷ classes) order all =
    let here : (class.number ≡ a) →
    filter (is_float_number (class ∷ classes)) (range_with_len a (suc k)) ≡ float_numbers_of (class ∷ classes) =
    λ e.
    let later = more_than a class.number classes (omega (arith, e)) order.0 in
    first (is_float_number (class ∷ classes) a) (is_float_class class) (own_number class classes a e) e
    (alike_from (is_float_number (class ∷ classes)) (is_float_number classes) (a + 1) k
    (λ n h. other_number class classes n (λ f. omega (arith, e, f, h)))
    ∙ numbers_from k (a + 1) classes order.1 (above a k classes all.1 later)) in
    let there : (a < class.number) →
    filter (is_float_number (class ∷ classes)) (range_with_len a (suc k)) ≡ float_numbers_of (class ∷ classes) =
    λ l.
    let later : AllByRecursion (λ (it : Class). a < it.number) (class ∷ classes) =
    (l, more_than a class.number classes (omega (arith, l)) order.0) in
    skip (is_float_number (class ∷ classes) a) (below a (class ∷ classes) a later)
    (numbers_from k (a + 1) (class ∷ classes) order (above a k (class ∷ classes) all later)) in
    elim (at_or_above a class.number all.0.from) [ inl e ↦ here e | inr l ↦ there l ]
  where
    first : (s t : Bool) → s ≡ t → class.number ≡ a →
        filter (is_float_number (class ∷ classes)) (range_with_len (a + 1) k) ≡ float_numbers_of classes →
        (if s then a ∷ filter (is_float_number (class ∷ classes)) (range_with_len (a + 1) k) else filter
        (is_float_number (class ∷ classes)) (range_with_len (a + 1) k))
        ≡ map (λ (class : Class). class.number)
        (if t then class ∷ filter is_float_class classes else filter is_float_class classes)
    first true true e n r =
        ap (λ m. m ∷ filter (is_float_number (class ∷ classes)) (range_with_len (a + 1) k)) (sym n)
        ∙ ap (λ (xs : List ℕ). class.number ∷ xs) r
    first true false e n r = absurd (cc)
    first false true e n r = absurd (cc)
    first false false e n r = r

    skip : (s : Bool) → s ≡ false →
        filter (is_float_number (class ∷ classes)) (range_with_len (a + 1) k) ≡ float_numbers_of (class ∷ classes) →
        (if s then a ∷ filter (is_float_number (class ∷ classes)) (range_with_len (a + 1) k) else filter
        (is_float_number (class ∷ classes)) (range_with_len (a + 1) k)) ≡ float_numbers_of (class ∷ classes)
    skip true e r = absurd (cc)
    skip false e r = r

pub all_within : (classes : List Class) → AllByRecursion IsClass classes → AllByRecursion (Within 0 255) classes
all_within [] all = tt
all_within (class ∷ classes) all =
    (record { from = omega arith; to = omega (arith, all.0.number_in) }, all_within classes all.1)

pub numbers_are : (style : StyleValue) → AreClasses style.classes →
    float_numbers style ≡ float_numbers_of style.classes
numbers_are style are = numbers_from 255 0 style.classes are.in_order (all_within style.classes are.each)
