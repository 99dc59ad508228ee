-- Callouts in the front: what a column adds is called before its end, and so the front has it.
use Rattle.std.proofs.Common.{◌≡◌, refl, ap, subst, ◌∙◌, ℕ, zero, suc, ◌+◌, ◌-◌, ◌≤◌, ◌<◌, ◌⊎◌, inl, inr, List, [], ◌∷◌, ◌++◌, length, map, take, true, arith}
use Rattle.std.specs.Prelude.{◌==◌, if◌then◌else◌}
use Rattle.std.specs.List.{AllByRecursion}
use Rattle.std.proofs.lemmas.Bool.{le-leb}
use Rattle.std.proofs.lemmas.List.{take-append-le}
use Rattle.pg_list.specs.Places.{items_around}
use Rattle.pg_list.specs.Shapes.{IsBlock}
use Rattle.pg_list.specs.declared.blocks.Block.{Block}
use Rattle.pg_list.specs.declared.galley.Place.{Place}
use Rattle.pg_list.specs.declared.item.Item.{Item}
use Rattle.pg_plan.specs.declared.pages.PageMove.{PageMove}
use Rattle.pg_style.specs.Values.{StyleValue}
use Rattle.pg_list.specs.Flat.{flat, items_before}
use Rattle.pg_rules.specs.Floats.{called, entry, float_numbers, floats, has_all, has_all_from, plus_counts, sizes_of}
use Rattle.pg_rules.specs.History.{is_called, placed_after, with_wide}
use Rattle.pg_rules.specs.Legal.{added, has_callouts}
use Rattle.pg_rules.specs.Room.{Document}
use Rattle.pg_lemmas.proofs.Bools.{both, or_left, or_right}
use Rattle.pg_lemmas.proofs.Numbers.{eq_yes, less_true}
use Rattle.law_places.proofs.Among.{all_at}
use Rattle.law_places.proofs.Callouts.{few_in_all}
use Rattle.law_columns.proofs.Waiting.{between_of, entry_plus}
use Rattle.law_edits.proofs.Floats.{has_class}
use Rattle.law_edits.proofs.Fronts.{around_cut}
use Rattle.law_edits.proofs.Reaches.{document_of}

before_in : (front blocks : List Block) (at : Place) → at.block < length front →
    items_before (front ++ blocks) at ≡ items_before front at
before_in front blocks at h =
    ap (λ (bs : List Block). flat bs [] ++ (if at.index == 0 then []
    else take at.index (items_around (front ++ blocks) at))) (take-append-le at.block front blocks (omega (arith, h)))
    ∙ ap (λ (items : List Item). flat (take at.block front) [] ++ (if at.index == 0 then [] else take at.index items))
    (around_cut at front h blocks)

-- as many floats are called before a place in the front
pub called_in : (front blocks : List Block) (style : StyleValue) (at : Place) → at.block < length front →
    called (front ++ blocks) style at ≡ called front style at
called_in front blocks style at h =
    ap (λ (items : List Item). map (λ number. length (sizes_of number items)) (float_numbers style))
    (before_in front blocks at h)

-- ---- counts that are called before a place can be dealt out

-- the counts deal out none of the class, or no more than are called
abbrev AreCalled : List ℕ → List ℕ → ℕ → ℕ → Type 0
AreCalled before counts slot called = (entry counts slot ≡ 0) ⊎ (entry before slot + entry counts slot ≤ called)

has_called : (front : List Block) → AllByRecursion IsBlock front → (at : Place) (before counts : List ℕ) (slot : ℕ)
    (numbers : List ℕ) → ((i : ℕ) → i < length numbers → AreCalled before counts (slot + i)
    (entry (map (λ number. length (sizes_of number (items_before front at))) numbers) i)) →
    has_all_from slot (map (λ number. sizes_of number (flat front [])) numbers) before counts ≡ true
has_called front each at before counts slot [] h = refl
has_called front each at before counts slot (number ∷ numbers) h =
    let e : slot + 0 ≡ slot = omega arith in
    both (has_class before counts slot (sizes_of number (flat front []))) _
    (first (subst (λ (k : ℕ). AreCalled before counts k (length (sizes_of number (items_before front at)))) e
    (h 0 (omega arith))))
    (has_called front each at before counts (slot + 1) numbers (λ i l.
    let q : slot + suc i ≡ slot + 1 + i = omega arith in
    subst (λ (k : ℕ). AreCalled before counts k
    (entry (map (λ number. length (sizes_of number (items_before front at))) numbers) i)) q (h (suc i) (omega arith))))
  where
    first : AreCalled before counts slot (length (sizes_of number (items_before front at))) →
        has_class before counts slot (sizes_of number (flat front [])) ≡ true
    first (inl z) = or_left (entry counts slot == 0) _ (eq_yes _ 0 z)
    first (inr l) = or_right (entry counts slot == 0) _
        (let few = few_in_all front each number at in le-leb _ _ (omega (arith, l, few)))

has_placed : (front : List Block) → AllByRecursion IsBlock front → (style : StyleValue) (at : Place)
    (before counts : List ℕ) → ((slot : ℕ) → slot < length (float_numbers style) →
    AreCalled before counts slot (entry (called front style at) slot)) →
    has_all (floats front style) before counts ≡ true
has_placed front each style at before counts h = has_called front each at before counts 0 (float_numbers style)
    (λ i l. let e : i ≡ 0 + i = omega arith in
    subst (λ (k : ℕ). AreCalled before counts k (entry (called front style at) i)) e (h i l))

-- ---- the counts of a column

-- the front has the floats that a column adds
pub record DealsIn (front : List Block) (style : StyleValue) (placed : List ℕ) (m : PageMove) : Type 0 where
  pub wide : has_all (floats front style) placed m.wide ≡ true
  pub top : has_all (floats front style) (with_wide style placed m) m.column.top ≡ true
  pub bottom : has_all (floats front style) (plus_counts style (with_wide style placed m) m.column.top)
      m.column.bottom ≡ true

module _ (front blocks : List Block) (each : AllByRecursion IsBlock front) (style : StyleValue) (placed : List ℕ)
    (m : PageMove) (inside : m.column.to.block < length front)
    (callouts : has_callouts (document_of style (front ++ blocks)) placed m ≡ true) where
  abbrev whole : Document
  whole = document_of style (front ++ blocks)

  -- behind the column no more floats of a class are placed than are called, where it adds one
  called_all : (slot : ℕ) → slot < length (float_numbers style) →
      entry placed slot < entry (placed_after style placed m) slot →
      entry (placed_after style placed m) slot ≤ entry (called front style m.column.to) slot
  called_all slot h l =
      let a = all_at (is_called whole m.column.to) (added whole placed m)
      (slot, entry (placed_after style placed m) slot - 1) callouts
      (between_of style placed (placed_after style placed m) (slot, entry (placed_after style placed m) slot - 1)
      (record { slot = h; from = omega (arith, l); to = omega (arith, l) })) in
      let b : entry (placed_after style placed m) slot - 1 < entry (called (front ++ blocks) style m.column.to) slot =
      less_true _ _ a in
      let c = ap (λ (counts : List ℕ). entry counts slot) (called_in front blocks style m.column.to inside) in
      omega (arith, b, c)

  sums : (slot : ℕ) → slot < length (float_numbers style) →
      (entry (with_wide style placed m) slot ≡ entry placed slot + entry m.wide slot)
      × ((entry (plus_counts style (with_wide style placed m) m.column.top) slot
      ≡ entry placed slot + entry m.wide slot + entry m.column.top slot)
      × (entry (placed_after style placed m) slot
      ≡ entry placed slot + entry m.wide slot + entry m.column.top slot + entry m.column.bottom slot))
  sums slot h =
      let a = entry_plus style placed m.wide slot h in
      let b = entry_plus style (with_wide style placed m) m.column.top slot h in
      let c = entry_plus style (plus_counts style (with_wide style placed m) m.column.top) m.column.bottom slot h in
      (a, (omega (arith, a, b), omega (arith, a, b, c)))

  none_or : (n a b : ℕ) → (0 < n → a ≤ b) → (n ≡ 0) ⊎ (a ≤ b)
  none_or zero a b h = inl refl
  none_or (suc n) a b h = inr (h (omega arith))

  pub deals_in : DealsIn front style placed m
  deals_in = record {
    wide = has_placed front each style m.column.to placed m.wide (λ slot h. let s = sums slot h in
        none_or (entry m.wide slot) _ _ (λ k. let c = called_all slot h (omega (arith, k, s.1.1)) in
        omega (arith, c, s.1.1)));
    top = has_placed front each style m.column.to (with_wide style placed m) m.column.top (λ slot h.
        let s = sums slot h in
        none_or (entry m.column.top slot) _ _ (λ k. let c = called_all slot h (omega (arith, k, s.1.1)) in
        omega (arith, c, s.0, s.1.1)));
    bottom = has_placed front each style m.column.to (plus_counts style (with_wide style placed m) m.column.top)
        m.column.bottom (λ slot h. let s = sums slot h in
        none_or (entry m.column.bottom slot) _ _ (λ k. let c = called_all slot h (omega (arith, k, s.1.1)) in
        omega (arith, c, s.1.0, s.1.1)));
  }
