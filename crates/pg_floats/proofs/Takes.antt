-- The slot-th float class is that of the slot-th number.
use Rattle.std.proofs.Common.{◌≡◌, ◌≢◌, refl, sym, ap, ◌∙◌, ℕ, zero, suc, ◌-◌, List, [], ◌∷◌, map, Bool, true, false, Option, Some, None, arith}
use Rattle.std.specs.Prelude.{◌==◌, if◌then◌else◌, slice_get}
use Rattle.std.specs.Option.{option_map_or}
use Rattle.std.specs.List.{filter}
use Rattle.std.proofs.lemmas.Bool.Decides.{nat_tests}
use Rattle.pg_style.specs.Classes.{class_in, is_float_class, is_float_kind, float_numbers_of}
use Rattle.pg_style.specs.Ranges.{AreClasses, AreInOrder}
use Rattle.pg_style.specs.Values.{StyleValue}
use Rattle.pg_style.specs.declared.style.Area.{Area}
use Rattle.pg_style.specs.declared.style.Class.{Class}
use Rattle.pg_style.specs.declared.style.Kind.{Kind}
use Rattle.pg_style.specs.declared.style.Kind.TheVariants.{Note, Float}
use Rattle.pg_rules.specs.Floats.{float_kind}
use Rattle.pg_floats.proofs.Numbers.{above_number, numbers_are}
use Rattle.pg_floats.specs.Spots.{next_takes, takes_in, takes_slot}

module _ (takes : Area → Bool) where
  abbrev takes_number : List Class → ℕ → Bool
  takes_number classes number =
      option_map_or (λ (kind : Area × List ℕ). takes kind.0)
      (option_map_or (λ (class : Class). float_kind class.kind) (class_in classes number) None) false

  own_number : (class : Class) (classes : List Class) →
      takes_number (class ∷ classes) class.number
      ≡ option_map_or (λ (kind : Area × List ℕ). takes kind.0) (float_kind class.kind) false
  own_number class classes = by (class.number == class.number) (same class.number)
    where
      same : (a : ℕ) → (a == a) ≡ true
      same a = grind (arith, nat_tests)

      by : (t : Bool) → t ≡ true →
          option_map_or (λ (kind : Area × List ℕ). takes kind.0)
          (option_map_or (λ (class : Class). float_kind class.kind)
          (if t then Some class else class_in classes class.number) None) false
          ≡ option_map_or (λ (kind : Area × List ℕ). takes kind.0) (float_kind class.kind) false
      by true e = refl
      by false e = absurd (cc)

  other_number : (class : Class) (classes : List Class) (n : ℕ) → class.number ≢ n →
      takes_number (class ∷ classes) n ≡ takes_number classes n
  other_number class classes n e = by (class.number == n) (differ class.number n e)
    where
      differ : (a b : ℕ) → a ≢ b → (a == b) ≡ false
      differ a b e = grind (arith, nat_tests)

      by : (t : Bool) → t ≡ false →
          option_map_or (λ (kind : Area × List ℕ). takes kind.0)
          (option_map_or (λ (class : Class). float_kind class.kind)
          (if t then Some class else class_in classes n) None) false ≡ takes_number classes n
      by true e = absurd (cc)
      by false e = refl

  takes_from : (classes : List Class) (slot : ℕ) → AreInOrder classes →
      takes_in takes classes slot
      ≡ option_map_or (takes_number classes) (slice_get (float_numbers_of classes) slot) true
  takes_from [] slot order = refl
  takes_from (class ∷ classes) slot order = by class.kind slot refl (λ s. takes_from classes s order.1)
    where
      skip : (slot : ℕ) (o : Option ℕ) → slice_get (float_numbers_of classes) slot ≡ o →
          option_map_or (takes_number classes) o true ≡ option_map_or (takes_number (class ∷ classes)) o true
      skip slot None e = refl
      skip slot (Some n) e =
          sym (other_number class classes n
          (λ f. omega (arith, above_number class.number classes slot n order.0 e, f)))

      by : (kind : Kind) (slot : ℕ) → class.kind ≡ kind →
          ((s : ℕ) → takes_in takes classes s
          ≡ option_map_or (takes_number classes) (slice_get (float_numbers_of classes) s) true) →
          next_takes takes kind slot (takes_in takes classes slot) (takes_in takes classes (slot - 1))
          ≡ option_map_or (takes_number (class ∷ classes))
          (slice_get (map (λ (class : Class). class.number)
          (if is_float_kind kind then class ∷ filter is_float_class classes else filter is_float_class classes))
          slot) true
      by (Note s l) slot e ih = ih slot ∙ skip slot (slice_get (float_numbers_of classes) slot) refl
      by (Float a d) zero e ih =
          sym (own_number class classes
          ∙ ap (λ (kind : Kind). option_map_or (λ (kind : Area × List ℕ). takes kind.0) (float_kind kind) false) e)
      by (Float a d) (suc slot) e ih =
          let t : (suc slot == 0) ≡ false = grind (arith, nat_tests) in
          let m : suc slot - 1 ≡ slot = omega arith in
          ap (λ b. if b then takes a else takes_in takes classes (suc slot - 1)) t
          ∙ (ap (takes_in takes classes) m ∙ (ih slot ∙ skip slot (slice_get (float_numbers_of classes) slot) refl))

  pub takes_are : (style : StyleValue) (slot : ℕ) → AreClasses style.classes →
      takes_in takes style.classes slot ≡ takes_slot style takes slot
  takes_are style slot are = takes_from style.classes slot are.in_order
      ∙ ap (λ (numbers : List ℕ). option_map_or (takes_number style.classes) (slice_get numbers slot) true)
      (sym (numbers_are style are))
