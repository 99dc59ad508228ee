-- How many pages a float waited, from the places at which pages ended.
use Rattle.std.proofs.Common.{◌≡◌, refl, sym, ap, ◌∙◌, subst, ℕ, zero, suc, ◌+◌, ◌≤◌, arith, List, [], ◌∷◌, length, Bool, true, false, inl, inr}
use Rattle.std.specs.Prelude.{◌==◌, if◌then◌else◌, min, nat_lt}
use Rattle.std.specs.List.{AllByRecursion}
use Rattle.std.proofs.lemmas.Bool.Decides.{nat_tests}
use Rattle.pg_list.specs.declared.galley.Place.{Place}
use Rattle.pg_list.specs.Shapes.{IsBlock}
use Rattle.pg_list.specs.Flat.{is_same_place, items_before}
use Rattle.pg_list.proofs.Places.{same_place}
use Rattle.pg_plan.specs.declared.pages.PageMove.{PageMove}
use Rattle.pg_rules.specs.ColumnRules.{does_fit}
use Rattle.pg_rules.specs.Floats.{called, distance_table, entry, float_numbers, sizes_of}
use Rattle.pg_rules.specs.History.{calling_page, context, is_called, next_column, next_page, place_of}
use Rattle.pg_rules.specs.IsState.{IsPlace}
use Rattle.pg_rules.specs.Legal.{distance, is_chained}
use Rattle.pg_rules.specs.Room.{Document}
use Rattle.law_places.proofs.Callouts.{entry_less, entry_zero, fit_ends, start_place}
use Rattle.law_places.proofs.Measures.{called_grows}
use Rattle.law_columns.proofs.Faults.{EachKeeps}
use Rattle.pg_lemmas.proofs.Bools.{both_of, if_false, if_true}
use Rattle.pg_lemmas.proofs.Numbers.{not_less}
use Rattle.pg_judge.specs.Moves.{page_ends}
use Rattle.pg_judge.specs.Waits.{wait_of, waits_in}

module _ (doc : Document) (all : AllByRecursion IsBlock doc.blocks) where
  -- each column starts where the one before ends, and fits
  abbrev pub Chained : List PageMove → Type 0
  Chained ms = EachKeeps (is_chained doc) ms

  pub chained_place : (ms : List PageMove) → Chained ms → IsPlace doc.blocks (place_of ms)
  chained_place [] k = start_place doc.blocks all
  chained_place (m ∷ ms) k =
      let t = both_of (is_same_place m.column.from (place_of ms)) (does_fit (context doc m ms)) k.0 in
      let from = same_place m.column.from (place_of ms) t.0 in
      let here : IsPlace doc.blocks m.column.from = subst (IsPlace doc.blocks) (sym from) (chained_place ms k.1) in
      elim (fit_ends doc (context doc m ms) refl all here t.1) [
        | inl e ↦ subst (IsPlace doc.blocks) (sym e) here
        | inr q ↦ q.place
      ]

  chained_grows : (m : PageMove) (ms : List PageMove) (slot : ℕ) → Chained (m ∷ ms) →
      entry (called doc.blocks doc.style (place_of ms)) slot ≤ entry (called doc.blocks doc.style m.column.to) slot
  chained_grows m ms slot k =
      let t = both_of (is_same_place m.column.from (place_of ms)) (does_fit (context doc m ms)) k.0 in
      let from = same_place m.column.from (place_of ms) t.0 in
      let here : IsPlace doc.blocks m.column.from = subst (IsPlace doc.blocks) (sym from) (chained_place ms k.1) in
      subst (λ (at : Place). entry (called doc.blocks doc.style at) slot
      ≤ entry (called doc.blocks doc.style m.column.to) slot) from
      (elim (fit_ends doc (context doc m ms) refl all here t.1) [
        | inl e ↦ subst (λ (at : Place). entry (called doc.blocks doc.style m.column.from) slot
            ≤ entry (called doc.blocks doc.style at) slot) (sym e) (omega arith)
        | inr q ↦ entry_less (λ (number : ℕ). length (sizes_of number (items_before doc.blocks m.column.from)))
            (λ (number : ℕ). length (sizes_of number (items_before doc.blocks m.column.to)))
            (float_numbers doc.style) slot
            (λ number. called_grows number doc.blocks m.column.from m.column.to all here q)
      ])

  -- ---- without a limit

  lead : (Place → Bool) → List Place → ℕ
  lead test [] = 0
  lead test (turn ∷ turns) = if test turn then 1 + lead test turns else 0

  abbrev calls : ℕ × ℕ → Place → Bool
  calls float turn = is_called doc turn float

  earlier : (m : PageMove) (ms : List PageMove) (float : ℕ × ℕ) → Chained (m ∷ ms) →
      is_called doc m.column.to float ≡ false → is_called doc (place_of ms) float ≡ false
  earlier m ms float k e =
      let g = chained_grows m ms float.0 k in
      no float.1 _ (let n = not_less float.1 (entry (called doc.blocks doc.style m.column.to) float.0) e in
      omega (arith, n, g))
    where
      no : (a b : ℕ) → b ≤ a → nat_lt a b ≡ false
      no a b h = grind (arith, nat_tests)

  uncalled : (ms : List PageMove) (float : ℕ × ℕ) → Chained ms → is_called doc (place_of ms) float ≡ false →
      lead (calls float) (page_ends doc.style ms) ≡ 0
  unfolding lead
  uncalled [] float k e = refl
  uncalled (m ∷ ms) float k e =
      by (next_column doc.style ms == doc.style.columns) (uncalled ms float k.1 (earlier m ms float k e))
    where
      by : (b : Bool) → lead (calls float) (page_ends doc.style ms) ≡ 0 →
          lead (calls float) (if b then m.column.to ∷ page_ends doc.style ms else page_ends doc.style ms) ≡ 0
      by true h = if_false (is_called doc m.column.to float) _ 0 e
      by false h = h

  nothing_called : (float : ℕ × ℕ) → is_called doc (place_of []) float ≡ false
  nothing_called float = none float.1 _ (entry_zero (float_numbers doc.style) float.0)
    where
      none : (a b : ℕ) → b ≡ 0 → nat_lt a b ≡ false
      none a b e = grind (arith, nat_tests)

  lead_is : (m : PageMove) (ms : List PageMove) (float : ℕ × ℕ) → Chained ms →
      calling_page doc (m ∷ ms) float + lead (calls float) (page_ends doc.style ms) ≡ next_page doc.style ms
  unfolding lead
  lead_is m [] float k =
      let e = if_false (is_called doc (place_of []) float) (calling_page doc [] float) (next_page doc.style [])
      (nothing_called float) in
      let z : lead (calls float) (page_ends doc.style []) ≡ 0 = refl in
      omega (arith, e, z)
  lead_is m (m' ∷ ms) float k =
      by (is_called doc m'.column.to float) refl (lead_is m' ms float k.1) (λ e. uncalled (m' ∷ ms) float k e)
    where
      page : (b : Bool) → is_called doc m'.column.to float ≡ true →
          calling_page doc (m' ∷ ms) float + lead (calls float) (page_ends doc.style ms) ≡ next_page doc.style ms →
          calling_page doc (m' ∷ ms) float
          + lead (calls float) (if b then m'.column.to ∷ page_ends doc.style ms else page_ends doc.style ms)
          ≡ (if b then next_page doc.style ms + 1 else next_page doc.style ms)
      page true t h =
          let l = if_true (is_called doc m'.column.to float) (1 + lead (calls float) (page_ends doc.style ms)) 0 t in
          omega (arith, l, h)
      page false t h = h

      by : (b : Bool) → is_called doc m'.column.to float ≡ b →
          calling_page doc (m' ∷ ms) float + lead (calls float) (page_ends doc.style ms) ≡ next_page doc.style ms →
          (is_called doc m'.column.to float ≡ false → lead (calls float) (page_ends doc.style (m' ∷ ms)) ≡ 0) →
          (if b then calling_page doc (m' ∷ ms) float else next_page doc.style (m' ∷ ms))
          + lead (calls float) (page_ends doc.style (m' ∷ ms)) ≡ next_page doc.style (m' ∷ ms)
      by true e h f = page (next_column doc.style ms == doc.style.columns) e h
      by false e h f = let z = f e in omega (arith, z)

  limited : (test : Place → Bool) (limit : ℕ) (turns : List Place) → waits_in test limit turns ≡ min limit (lead test turns)
  unfolding lead
  limited test zero turns = omega arith
  limited test (suc limit) [] = omega arith
  limited test (suc limit) (turn ∷ turns) = by (test turn) (limited test limit turns)
    where
      by : (b : Bool) → waits_in test limit turns ≡ min limit (lead test turns) →
          (if b then 1 + waits_in test limit turns else 0) ≡ min (suc limit) (if b then 1 + lead test turns else 0)
      by true h = omega (arith, h)
      by false h = omega arith

  pub wait_is : (m : PageMove) (ms : List PageMove) (float : ℕ × ℕ) → Chained ms →
      wait_of doc (page_ends doc.style ms) float ≡ min (length (distance_table doc.style float.0)) (distance doc m ms float)
  wait_is m ms float k =
      let l = lead_is m ms float k in
      let d : distance doc m ms float ≡ lead (calls float) (page_ends doc.style ms) = omega (arith, l) in
      limited (calls float) (length (distance_table doc.style float.0)) (page_ends doc.style ms)
      ∙ ap (min (length (distance_table doc.style float.0))) (sym d)
