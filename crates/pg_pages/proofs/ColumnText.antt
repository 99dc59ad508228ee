-- The text of a column, from its items and its numbers.
use Rattle.std.proofs.Common.{◌≡◌, refl, sym, ap, ◌∙◌, ℕ, zero, suc, ◌+◌, ◌≤◌, ◌<◌, arith, List, [], ◌∷◌, ◌++◌, map, Bool, true, false, Some, inl, inr}
use Rattle.std.specs.Prelude.{◌==◌, if◌then◌else◌}
use Rattle.std.specs.List.{AllByRecursion, filter, flat_map, range_with_len}
use Rattle.std.specs.Option.{option_map_or}
use Rattle.std.proofs.lemmas.Bool.Decides.{nat_tests}
use Rattle.pg_list.specs.declared.blocks.Block.{Block}
use Rattle.pg_list.specs.declared.item.Item.{Item}
use Rattle.pg_style.specs.Classes.{class_in, float_numbers_of, is_float_class}
use Rattle.pg_style.specs.Ranges.{AreClasses, AreInOrder}
use Rattle.pg_style.specs.Values.{StyleValue}
use Rattle.pg_style.specs.declared.style.Class.{Class}
use Rattle.pg_rules.specs.Floats.{float_numbers}
use Rattle.pg_rules.specs.Room.{Document}
use Rattle.pg_floats.proofs.Lists.{flat_first}
use Rattle.pg_floats.proofs.Numbers.{Within, above, all_within, at_or_above, more_than, numbers_are}
use Rattle.pg_floats.specs.Callouts.{first_items}
use Rattle.pg_pages.specs.Bodies.{body_text}
use Rattle.pg_pages.specs.PageText.{float_bodies, inserted, is_note_kind, notes_text}
use Rattle.pg_pages.specs.Printed.{bodies_of, class_notes_text, is_note_class, notes_by}

-- ---- notes

module _ (items : List Item) where
  -- a class of notes has the number
  abbrev is_note_in : List Class → ℕ → Bool
  is_note_in classes number =
      option_map_or (λ (class : Class). is_note_kind class.kind) (class_in classes number) false

  abbrev texts : ℕ → List ℕ
  texts number = flat_map body_text (inserted number items)

  abbrev text_in : List Class → ℕ → List ℕ
  text_in classes number = if is_note_in classes number then texts number else []

  own_class : (class : Class) (classes : List Class) (n : ℕ) → class.number ≡ n →
      text_in (class ∷ classes) n ≡ class_notes_text class items
  own_class class classes n e = by (class.number == n) (same class.number n e)
      ∙ ap (λ (k : ℕ). if is_note_class class then texts k else []) (sym e)
    where
      same : (a b : ℕ) → a ≡ b → (a == b) ≡ true
      same a b e = grind (arith, nat_tests)

      by : (t : Bool) → t ≡ true →
          (if option_map_or (λ (class : Class). is_note_kind class.kind)
          (if t then Some class else class_in classes n) false then texts n else [])
          ≡ (if is_note_class class then texts n else [])
      by true e = refl
      by false e = absurd cc

  other_class : (class : Class) (classes : List Class) (n : ℕ) → (class.number ≡ n → ⊥) →
      text_in (class ∷ classes) n ≡ text_in classes n
  other_class class classes n e = by (class.number == n) (differ class.number n e)
    where
      differ : (a b : ℕ) → (a ≡ b → ⊥) → (a == b) ≡ false
      differ a b e = grind (arith, nat_tests)

      by : (t : Bool) → t ≡ false →
          (if option_map_or (λ (class : Class). is_note_kind class.kind)
          (if t then Some class else class_in classes n) false then texts n else []) ≡ text_in classes n
      by true e = absurd cc
      by false e = refl

  alike : (f g : ℕ → List ℕ) (a k : ℕ) → ((n : ℕ) → a ≤ n → f n ≡ g n) →
      flat_map f (range_with_len a k) ≡ flat_map g (range_with_len a k)
  alike f g a zero same = refl
  alike f g a (suc k) same =
      ap (λ (text : List ℕ). text ++ flat_map f (range_with_len (a + 1) k)) (same a (omega arith))
      ∙ ap (λ (text : List ℕ). g a ++ text) (alike f g (a + 1) k (λ n h. same n (omega (arith, h))))

  nothing : (a k : ℕ) → flat_map (text_in []) (range_with_len a k) ≡ []
  nothing a zero = refl
  nothing a (suc k) = nothing (a + 1) k

  below : (classes : List Class) (n : ℕ) → AllByRecursion (λ (class : Class). n < class.number) classes →
      text_in classes n ≡ []
  below [] n all = refl
  below (class ∷ classes) n all =
      other_class class classes n (λ e. omega (arith, all.0, e)) ∙ below classes n all.1

  notes_from : (k a : ℕ) (classes : List Class) → AreInOrder classes → AllByRecursion (Within a k) classes →
      flat_map (text_in classes) (range_with_len a k) ≡ notes_by classes items
  notes_from k a [] order all = nothing a k
  notes_from zero a (class ∷ classes) order all = absurd (omega (arith, all.0.from, all.0.to))
  notes_from (suc k) a (class ∷ classes) order all =
      let here : (class.number ≡ a) →
      flat_map (text_in (class ∷ classes)) (range_with_len a (suc k)) ≡ notes_by (class ∷ classes) items =
      λ e.
      let later = more_than a class.number classes (omega (arith, e)) order.0 in
      ap (λ (text : List ℕ). text ++ flat_map (text_in (class ∷ classes)) (range_with_len (a + 1) k))
      (own_class class classes a e)
      ∙ ap (λ (text : List ℕ). class_notes_text class items ++ text)
      (alike (text_in (class ∷ classes)) (text_in classes) (a + 1) k
      (λ n h. other_class class classes n (λ f. omega (arith, e, f, h)))
      ∙ notes_from k (a + 1) classes order.1 (above a k classes all.1 later)) in
      let there : (a < class.number) →
      flat_map (text_in (class ∷ classes)) (range_with_len a (suc k)) ≡ notes_by (class ∷ classes) items =
      λ l.
      let later : AllByRecursion (λ (it : Class). a < it.number) (class ∷ classes) =
      (l, more_than a class.number classes (omega (arith, l)) order.0) in
      ap (λ (text : List ℕ). text ++ flat_map (text_in (class ∷ classes)) (range_with_len (a + 1) k))
      (below (class ∷ classes) a later)
      ∙ notes_from k (a + 1) (class ∷ classes) order (above a k (class ∷ classes) all later) in
      elim (at_or_above a class.number all.0.from) [ inl e ↦ here e | inr l ↦ there l ]

pub notes_are : (style : StyleValue) (items : List Item) → AreClasses style.classes →
    notes_by style.classes items ≡ notes_text style items
unfolding notes_text
notes_are style items are = sym (notes_from items 255 0 style.classes are.in_order (all_within style.classes are.each))

-- ---- floats

bodies_in : (blocks : List Block) (classes : List Class) →
    bodies_of blocks classes ≡ map (λ (number : ℕ). inserted number (first_items blocks)) (float_numbers_of classes)
bodies_in blocks [] = refl
bodies_in blocks (class ∷ classes) = by (is_float_class class) (bodies_in blocks classes)
  where
    by : (b : Bool) → bodies_of blocks classes
        ≡ map (λ (number : ℕ). inserted number (first_items blocks)) (float_numbers_of classes) →
        (if b then inserted class.number (first_items blocks) ∷ [] else []) ++ bodies_of blocks classes
        ≡ map (λ (number : ℕ). inserted number (first_items blocks))
        (map (λ (class : Class). class.number)
        (if b then class ∷ filter is_float_class classes else filter is_float_class classes))
    by true rest = ap (λ more. inserted class.number (first_items blocks) ∷ more) rest
    by false rest = rest

pub bodies_are : (doc : Document) → AreClasses doc.style.classes →
    bodies_of doc.blocks doc.style.classes ≡ float_bodies doc
bodies_are doc are = bodies_in doc.blocks doc.style.classes
    ∙ ap (λ (numbers : List ℕ). map (λ (number : ℕ). inserted number (first_items doc.blocks)) numbers)
    (sym (numbers_are doc.style are))
    ∙ ap (λ (items : List Item). map (λ (number : ℕ). inserted number items) (float_numbers doc.style))
    (sym (flat_first doc.blocks))
