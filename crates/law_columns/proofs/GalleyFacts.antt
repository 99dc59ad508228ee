-- What a galley's blocks give of places and callouts.
use Rattle.std.proofs.Common.{◌≡◌, refl, sym, ap, subst, ◌∙◌, ℕ, zero, suc, ◌+◌, ◌≤◌, ◌<◌, inl, inr, List, [], ◌∷◌, map, length, true, arith}
use Rattle.std.specs.Prelude.{ℤ, ◌==◌}
use Rattle.std.specs.List.{AllByRecursion, list_all, enumerate_from}
use Rattle.pg_list.specs.declared.item.Item.{Item}
use Rattle.pg_list.specs.declared.galley.Place.{Place}
use Rattle.pg_list.specs.Shapes.{IsBlock}
use Rattle.pg_plan.specs.declared.pages.PageMove.{PageMove}
use Rattle.pg_list.specs.Flat.{items_before, flat}
use Rattle.pg_rules.specs.Floats.{sizes_of, entry, called, float_numbers}
use Rattle.pg_rules.specs.History.{place_of, context}
use Rattle.pg_rules.specs.Room.{Document}
use Rattle.pg_rules.specs.IsState.{IsPlace}
use Rattle.law_places.proofs.Callouts.{called_total, entry_less, entry_zero, fit_ends, start_place}
use Rattle.law_places.proofs.Measures.{called_grows}
use Rattle.law_columns.specs.Stands.{Stand}
use Rattle.law_columns.proofs.Beginnings.{Facts}
use Rattle.law_columns.proofs.Push.{HasTables}
use Rattle.pg_lemmas.proofs.Bools.{both_of}
use Rattle.std.proofs.lemmas.Bool.{eqb-true}
use Rattle.pg_list.proofs.Places.{same_place}

-- the columns that stand end at a place of the galley
pub stand_place : (doc : Document) → AllByRecursion IsBlock doc.blocks → (ms : List PageMove) → Stand doc ms →
    IsPlace doc.blocks (place_of ms)
stand_place doc a [] s = start_place doc.blocks a
stand_place doc a (m ∷ ms) (s, rest) =
    let from : m.column.from ≡ place_of ms = same_place m.column.from (place_of ms) s.starts in
    let here : IsPlace doc.blocks m.column.from =
    subst (IsPlace doc.blocks) (sym from) (stand_place doc a ms rest) in
    elim (fit_ends doc (context doc m ms) refl a here s.stands.rules.fits) [
      | inl e ↦ subst (IsPlace doc.blocks) (sym e) here
      | inr q ↦ q.place
    ]

stand_grows : (doc : Document) → AllByRecursion IsBlock doc.blocks →
    (m : PageMove) (ms : List PageMove) (slot : ℕ) → Stand doc (m ∷ ms) →
    entry (called doc.blocks doc.style (place_of ms)) slot ≤ entry (called doc.blocks doc.style m.column.to)
    slot
stand_grows doc a m ms slot (s, rest) =
    let from : m.column.from ≡ place_of ms = same_place m.column.from (place_of ms) s.starts in
    let here : IsPlace doc.blocks m.column.from =
    subst (IsPlace doc.blocks) (sym from) (stand_place doc a ms rest) in
    subst (λ (at : Place). entry (called doc.blocks doc.style at) slot
    ≤ entry (called doc.blocks doc.style m.column.to) slot) from
    (elim (fit_ends doc (context doc m ms) refl a here s.stands.rules.fits) [
      | inl e ↦ subst (λ (at : Place). entry (called doc.blocks doc.style m.column.from) slot
          ≤ entry (called doc.blocks doc.style at) slot) (sym e) (omega arith)
      | inr q ↦ entry_less (λ (number : ℕ). length (sizes_of number (items_before doc.blocks m.column.from)))
          (λ (number : ℕ). length (sizes_of number (items_before doc.blocks m.column.to)))
          (float_numbers doc.style) slot
          (λ number. called_grows number doc.blocks m.column.from m.column.to a here q)
    ])

dealt_entry : (placed : List ℕ) (items : List Item) (k : ℕ) (xs : List ℕ) (slot : ℕ) →
    list_all (λ (it : ℕ × List ℤ). entry placed it.0 == length it.1)
    (enumerate_from k (map (λ (number : ℕ). sizes_of number items) xs)) ≡ true → slot < length xs →
    entry placed (k + slot) ≡ entry (map (λ (number : ℕ). length (sizes_of number items)) xs) slot
dealt_entry placed items k [] slot h l = absurd (omega arith)
dealt_entry placed items k (x ∷ xs) zero h l = let e : k + 0 ≡ k = omega arith in
    ap (entry placed) e ∙ eqb-true _ _ (both_of (entry placed k == length (sizes_of x items)) _ h).0
dealt_entry placed items k (x ∷ xs) (suc n) h l = let e : k + suc n ≡ k + 1 + n = omega arith in
    ap (entry placed) e ∙ dealt_entry placed items (k + 1) xs n
    (both_of (entry placed k == length (sizes_of x items)) _ h).1 (omega arith)

pub facts_of : (doc : Document) → AllByRecursion IsBlock doc.blocks → HasTables doc → Facts doc
facts_of doc a tables = record {
  tables = tables;
  starts = λ slot. entry_zero (float_numbers doc.style) slot;
  total = λ at placed slot h d.
      (let e : 0 + slot ≡ slot = omega arith in
      let q : entry placed slot ≡ entry
      (map (λ (number : ℕ). length (sizes_of number (flat doc.blocks []))) (float_numbers doc.style))
      slot = ap (entry placed) (sym e) ∙ dealt_entry placed (flat doc.blocks []) 0
      (float_numbers doc.style) slot d h in
      let r : entry (called doc.blocks doc.style at) slot
      ≤ entry (map (λ (number : ℕ). length (sizes_of number (flat doc.blocks [])))
      (float_numbers doc.style)) slot =
      entry_less (λ (number : ℕ). length (sizes_of number (items_before doc.blocks at)))
      (λ (number : ℕ). length (sizes_of number (flat doc.blocks []))) (float_numbers doc.style) slot
      (λ number. called_total doc a number at) in
      omega arith);
  grows = stand_grows doc a;
}
