-- Floats that the front has are dealt out alike, with the same heights, whatever stands behind it.
use Rattle.std.proofs.Common.{◌≡◌, refl, sym, ap, ◌∙◌, ℕ, ◌+◌, ◌≤◌, inl, inr, List, [], ◌∷◌, ◌++◌, length, length-append, length-drop, map, take, drop, Bool, true, arith}
use Rattle.std.specs.Prelude.{◌&&◌, ◌||◌, ◌==◌, if◌then◌else◌, nat_le, ℤ, pos}
use Rattle.std.proofs.lemmas.Bool.{eqb-true, le-leb, leb-true}
use Rattle.std.proofs.lemmas.List.{drop-append-le, map-append, take-append-le}
use Rattle.std.proofs.lemmas.List.Elements.{filter_map-append}
use Rattle.pg_list.specs.declared.blocks.Block.{Block}
use Rattle.pg_style.specs.Values.{StyleValue, AreaRuleValue}
use Rattle.pg_style.specs.declared.style.Gap.{Gap}
use Rattle.pg_list.specs.Flat.{FlatItem, flat, flat_items_from}
use Rattle.pg_rules.specs.Floats.{area_give, area_height, dealt, dealt_from, entry, float_numbers, floats, has_all, has_all_from, insert_size, sizes_of}
use Rattle.pg_rules.specs.Room.{checked_give, checked_height}
use Rattle.law_places.proofs.Alike.{item_of}
use Rattle.pg_lemmas.proofs.Bools.{both, both_of, or_cases, or_left, or_right}
use Rattle.law_edits.proofs.Fronts.{cut_from, left_by}

-- a class has the floats that counts deal out of it
abbrev pub has_class : List ℕ → List ℕ → ℕ → List ℤ → Bool
has_class before counts slot sizes =
    (entry counts slot == 0) || nat_le (entry before slot + entry counts slot) (length sizes)

-- ---- lists by class, and the same lists with more behind

module _ (f g h : ℕ → List ℤ) (more : (number : ℕ) → h number ≡ f number ++ g number) (before counts : List ℕ) where
  class_more : (slot number : ℕ) → has_class before counts slot (f number) ≡ true →
      has_class before counts slot (h number) ≡ true
  class_more slot number e = elim (or_cases (entry counts slot == 0) _ e) [
    | inl z ↦ or_left (entry counts slot == 0) _ z
    | inr l ↦ or_right (entry counts slot == 0) _
        (let a : entry before slot + entry counts slot ≤ length (f number) = leb-true _ _ l in
        let b : length (h number) ≡ length (f number) + length (g number) =
        ap length (more number) ∙ length-append (f number) (g number) in
        le-leb _ _ (omega (arith, a, b)))
  ]

  class_dealt : (slot number : ℕ) → has_class before counts slot (f number) ≡ true →
      take (entry counts slot) (drop (entry before slot) (h number))
      ≡ take (entry counts slot) (drop (entry before slot) (f number))
  class_dealt slot number e = elim (or_cases (entry counts slot == 0) _ e) [
    | inl z ↦ (let q : entry counts slot ≡ 0 = eqb-true _ _ z in
        ap (λ (n : ℕ). take n (drop (entry before slot) (h number))) q
        ∙ sym (ap (λ (n : ℕ). take n (drop (entry before slot) (f number))) q))
    | inr l ↦ (let a : entry before slot + entry counts slot ≤ length (f number) = leb-true _ _ l in
        let d = length-drop (entry before slot) (f number) in
        ap (λ (sizes : List ℤ). take (entry counts slot) (drop (entry before slot) sizes)) (more number)
        ∙ (ap (take (entry counts slot)) (drop-append-le (entry before slot) (f number) (g number) (omega (arith, a)))
        ∙ take-append-le (entry counts slot) (drop (entry before slot) (f number)) (g number) (omega (arith, a, d))))
  ]

  has_more : (slot : ℕ) (numbers : List ℕ) → has_all_from slot (map f numbers) before counts ≡ true →
      has_all_from slot (map h numbers) before counts ≡ true
  has_more slot [] e = refl
  has_more slot (number ∷ numbers) e =
      let s = both_of (has_class before counts slot (f number)) _ e in
      both (has_class before counts slot (h number)) _ (class_more slot number s.0) (has_more (slot + 1) numbers s.1)

  dealt_more : (slot : ℕ) (numbers : List ℕ) → has_all_from slot (map f numbers) before counts ≡ true →
      dealt_from slot (map h numbers) before counts ≡ dealt_from slot (map f numbers) before counts
  dealt_more slot [] e = refl
  dealt_more slot (number ∷ numbers) e =
      let s = both_of (has_class before counts slot (f number)) _ e in
      ap (λ (sizes : List ℤ). sizes ++ dealt_from (slot + 1) (map h numbers) before counts)
      (class_dealt slot number s.0)
      ∙ ap (λ (sizes : List ℤ). take (entry counts slot) (drop (entry before slot) (f number)) ++ sizes)
      (dealt_more (slot + 1) numbers s.1)

-- ---- each class has its floats in the front, and then those behind

abbrev sizes_behind : List Block → List Block → ℕ → List ℤ
sizes_behind front blocks number =
    sizes_of number (map item_of (flat_items_from (length front) blocks (left_by front [])))

sizes_in : (front blocks : List Block) (number : ℕ) → sizes_of number (flat (front ++ blocks) [])
    ≡ sizes_of number (flat front []) ++ sizes_behind front blocks number
sizes_in front blocks number =
    let e : 0 + length front ≡ length front = omega arith in
    ap (λ (xs : List FlatItem). sizes_of number (map item_of xs)) (cut_from 0 front blocks []
    ∙ ap (λ (k : ℕ). flat_items_from 0 front [] ++ flat_items_from k blocks (left_by front [])) e)
    ∙ (ap (sizes_of number) (map-append item_of (flat_items_from 0 front [])
    (flat_items_from (length front) blocks (left_by front [])))
    ∙ filter_map-append (insert_size number) (map item_of (flat_items_from 0 front []))
    (map item_of (flat_items_from (length front) blocks (left_by front []))))

module _ (front blocks : List Block) (style : StyleValue) (before counts : List ℕ)
    (there : has_all (floats front style) before counts ≡ true) where
  -- what the front has can be dealt out
  pub has_in : has_all (floats (front ++ blocks) style) before counts ≡ true
  has_in = has_more (λ number. sizes_of number (flat front [])) (sizes_behind front blocks)
      (λ number. sizes_of number (flat (front ++ blocks) [])) (sizes_in front blocks) before counts 0
      (float_numbers style) there

  dealt_in : dealt (floats (front ++ blocks) style) before counts ≡ dealt (floats front style) before counts
  dealt_in = dealt_more (λ number. sizes_of number (flat front [])) (sizes_behind front blocks)
      (λ number. sizes_of number (flat (front ++ blocks) [])) (sizes_in front blocks) before counts 0
      (float_numbers style) there

  -- and has the same height
  pub height_in : (allowed : Bool) (rule : AreaRuleValue) →
      checked_height (floats (front ++ blocks) style) allowed rule before counts
      ≡ checked_height (floats front style) allowed rule before counts
  height_in allowed rule =
      ap (λ (b : Bool). if allowed && b then area_height rule (dealt (floats (front ++ blocks) style) before counts)
      else pos 0) (has_in ∙ sym there)
      ∙ ap (λ (sizes : List ℤ). if allowed && has_all (floats front style) before counts
      then area_height rule sizes else pos 0) dealt_in

  -- and its gaps give the same
  pub give_in : (part : Gap → ℤ) (allowed : Bool) (rule : AreaRuleValue) →
      checked_give part (floats (front ++ blocks) style) allowed rule before counts
      ≡ checked_give part (floats front style) allowed rule before counts
  give_in part allowed rule =
      ap (λ (b : Bool). if allowed && b then area_give part rule
      (length (dealt (floats (front ++ blocks) style) before counts)) else pos 0) (has_in ∙ sym there)
      ∙ ap (λ (sizes : List ℤ). if allowed && has_all (floats front style) before counts
      then area_give part rule (length sizes) else pos 0) dealt_in
