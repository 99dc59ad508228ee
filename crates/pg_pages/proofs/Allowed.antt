-- Each page of a legal pagination may be printed.
use Rattle.std.proofs.Common.{◌≡◌, refl, sym, ap, subst, ◌∙◌, ℕ, ◌+◌, ◌≤◌, ◌<◌, ◌^◌, arith, List, [], ◌∷◌, ◌++◌, append-nil, map, length, true, false, Option, None, Some}
use Rattle.std.specs.Prelude.{◌==◌, ◌&&◌, reverse, ℤ}
use Rattle.std.specs.List.{AllByRecursion}
use Rattle.std.proofs.lemmas.Bool.{eqb-true}
use Rattle.pg_list.specs.GalleyValue.{GalleyValue}
use Rattle.pg_list.specs.Shapes.{IsBlock}
use Rattle.pg_plan.specs.Order.{columns, columns_of, page_moves}
use Rattle.pg_plan.specs.declared.pages.Column.{Column}
use Rattle.pg_plan.specs.declared.pages.Page.{Page}
use Rattle.pg_plan.specs.declared.pages.PageMove.{PageMove}
use Rattle.pg_plan.specs.declared.pages.Pagination.{Pagination}
use Rattle.pg_style.specs.Ranges.{IsAreaRule}
use Rattle.pg_style.specs.Values.{StyleValue}
use Rattle.pg_rules.specs.ColumnRules.{has_dealable}
use Rattle.pg_rules.specs.Floats.{float_numbers, floats, has_all, plus_counts, slots}
use Rattle.pg_rules.specs.History.{context, made_wide, next_column, placed_of, wide_of, with_wide}
use Rattle.pg_rules.specs.Legal.{Legal, breach, document}
use Rattle.pg_rules.specs.Room.{Document, is_bottom_allowed, is_top_allowed}
use Rattle.law_places.proofs.Callouts.{entry_zero}
use Rattle.law_columns.specs.Stands.{Stand, StandsAfter}
use Rattle.law_columns.proofs.Beginnings.{stand_behind}
use Rattle.law_columns.proofs.Faults.{Sound, sound_of}
use Rattle.law_columns.proofs.PagesLaws.{later, wide_long}
use Rattle.law_columns.proofs.Areas.{IsUpTo, wide_range}
use Rattle.pg_floats.specs.AreFloats.{float_total}
use Rattle.pg_lemmas.proofs.Bools.{both_of, if_false, if_true}
use Rattle.pg_lemmas.proofs.Numbers.{eq_no, eq_yes}
use Rattle.pg_pages.specs.Printed.{FitTogether}
use Rattle.pg_pages.specs.Seated.{IsWide, MayPrint}
use Rattle.pg_pages.specs.Sheets.{AreFilled, MayFrom, MaySheet, MaySheets, context_at, placed_behind}
use Rattle.pg_pages.proofs.Filled.{are_filled}
use Rattle.pg_pages.proofs.Later.{context_is, lists_same, not_one, placed_later}
use Rattle.pg_pages.proofs.Placed.{AreFewPlaced, few_behind, fit_together}
use Rattle.pg_pages.proofs.Whole.{first_apart, first_of, moves_more, sheet_by, turned_by}

high_is : (o : Option ℤ) → ((z : ℤ) → o ≡ Some z → IsUpTo 8589934584 z) → IsWide o
high_is None h = tt
high_is (Some z) h = h z refl

module _ (doc : Document) (all : AllByRecursion IsBlock doc.blocks) (rule : IsAreaRule doc.style.wide)
    (few : float_total doc.blocks doc.style ≤ 2 ^ 12) where
  -- the floats of a column that stands are there, and fit the counts before them
  record AreThere (m : PageMove) (ms : List PageMove) : Type 0 where
    pub deals : has_dealable (context doc m ms) ≡ true
    pub wide_fits : FitTogether (placed_of doc.style ms) m.wide
    pub tops_fit : FitTogether (with_wide doc.style (placed_of doc.style ms) m) m.column.top
    pub bottoms_fit : FitTogether (plus_counts doc.style (with_wide doc.style (placed_of doc.style ms) m) m.column.top)
        m.column.bottom
    pub few_placed : AreFewPlaced (placed_of doc.style (m ∷ ms))

  are_there : (m : PageMove) (ms : List PageMove) → StandsAfter doc m ms → AreFewPlaced (placed_of doc.style ms) →
      AreThere m ms
  are_there m ms s less =
      let it = context doc m ms in
      let lists = floats doc.blocks doc.style in
      let placed = placed_of doc.style ms in
      let before = with_wide doc.style placed m in
      let below = plus_counts doc.style before m.column.top in
      let c = both_of (((length m.column.top == length (float_numbers doc.style))
      && (length m.column.bottom == length (float_numbers doc.style))) && is_top_allowed it) (is_bottom_allowed it)
      s.stands.rules.counts in
      let d = both_of ((length m.column.top == length (float_numbers doc.style))
      && (length m.column.bottom == length (float_numbers doc.style))) (is_top_allowed it) c.0 in
      let l = both_of (length m.column.top == length (float_numbers doc.style))
      (length m.column.bottom == length (float_numbers doc.style)) d.0 in
      let wide : length m.wide ≡ length (float_numbers doc.style) =
      wide_long doc (next_column doc.style ms) m s.stands.wide in
      let top : length m.column.top ≡ length (float_numbers doc.style) = eqb-true _ _ l.0 in
      let bottom : length m.column.bottom ≡ length (float_numbers doc.style) = eqb-true _ _ l.1 in
      let deals = both_of (has_all lists placed m.wide) (has_dealable it) s.stands.deals in
      let own = both_of (has_all lists before m.column.top) (has_all lists below m.column.bottom) deals.1 in
      let few_before = few_behind doc few placed m.wide wide less deals.0 in
      let few_below = few_behind doc few before m.column.top top few_before own.0 in
      record {
        deals = deals.1;
        wide_fits = fit_together doc few placed m.wide wide less deals.0;
        tops_fit = fit_together doc few before m.column.top top few_before own.0;
        bottoms_fit = fit_together doc few below m.column.bottom bottom few_below own.1;
        few_placed = few_behind doc few below m.column.bottom bottom few_below own.1;
      }

  few_stand : (ms : List PageMove) → Stand doc ms → AreFewPlaced (placed_of doc.style ms)
  few_stand [] stand = λ slot. (let z = entry_zero (slots doc.style) slot in omega (arith, z))
  few_stand (m ∷ ms) stand = (are_there m ms stand.0 (few_stand ms stand.1)).few_placed

  may_print : (m : PageMove) (ms : List PageMove) → Stand doc (m ∷ ms) → IsWide (wide_of doc (m ∷ ms)) →
      MayPrint (context doc m ms)
  may_print m ms stand wide =
      let there = are_there m ms stand.0 (few_stand ms stand.1) in
      record {
        rules = stand.0.stands.rules;
        deals = there.deals;
        wide = wide;
        tops_fit = there.tops_fit;
        bottoms_fit = there.bottoms_fit;
      }

  may_later : (run : ℕ) (wide a b : List ℕ) (number : ℕ) (columns : List Column) (ms : List PageMove) →
      placed_of doc.style ms ≡ plus_counts doc.style a b → 2 ≤ number →
      number + length columns ≤ doc.style.columns + 1 → (0 < length columns → next_column doc.style ms ≡ number) →
      IsWide (wide_of doc ms) → Stand doc (reverse (map (later run wide) columns) ++ ms) →
      MayFrom doc run (wide_of doc ms) (placed_of doc.style ms) columns
  may_later run wide a b number [] ms p two most next high stand = tt
  may_later run wide a b number (column ∷ columns) ms p two most next high stand =
      let m = later run wide column in
      let is : next_column doc.style ms ≡ number = next (omega arith) in
      let other : (next_column doc.style ms == 1) ≡ false = not_one (next_column doc.style ms) number is two in
      let same : wide_of doc (m ∷ ms) ≡ wide_of doc ms =
      if_false (next_column doc.style ms == 1) _ (wide_of doc ms) other in
      let behind = placed_later doc run wide a b column ms p in
      let more : 0 < length columns → next_column doc.style (m ∷ ms) ≡ number + 1 =
      λ some. if_false (next_column doc.style ms == doc.style.columns) 1 (next_column doc.style ms + 1)
      (eq_no (next_column doc.style ms) doc.style.columns (omega (arith, is, most, some)))
      ∙ ap (λ (n : ℕ). n + 1) is in
      let stands : Stand doc (reverse (map (later run wide) columns) ++ (m ∷ ms)) =
      subst (Stand doc) (lists_same run wide column columns ms) stand in
      let high' : IsWide (wide_of doc (m ∷ ms)) = subst IsWide (sym same) high in
      let here = may_print m ms (stand_behind doc (reverse (map (later run wide) columns)) (m ∷ ms) stands) high' in
      let rest = may_later run wide (plus_counts doc.style (placed_of doc.style ms) column.top) column.bottom
      (number + 1) columns (m ∷ ms) behind (omega (arith, two)) (omega (arith, most)) more high' stands in (
        subst MayPrint (context_is doc run wide a b column ms p other) here,
        subst (λ (counts : List ℕ). MayFrom doc run (wide_of doc ms) counts columns) behind
            (subst (λ (high : Option ℤ). MayFrom doc run high (placed_of doc.style (m ∷ ms)) columns) same rest),
      )

  may_sheet : (page : Page) (column : Column) (columns : List Column) (ms : List PageMove) →
      next_column doc.style ms ≡ 1 → 1 + length columns ≤ doc.style.columns →
      Stand doc (reverse (page_moves page (column ∷ columns)) ++ ms) →
      MaySheet doc (placed_of doc.style ms) (record { run = page.run; wide = page.wide; columns = column ∷ columns })
  may_sheet page column columns ms first most stand =
      let m = first_of page column in
      let placed = placed_of doc.style ms in
      let before = plus_counts doc.style placed page.wide in
      let one : (next_column doc.style ms == 1) ≡ true = eq_yes _ _ first in
      let same : wide_of doc (m ∷ ms) ≡ made_wide doc placed page.wide =
      if_true (next_column doc.style ms == 1) _ _ one in
      let more : 0 < length columns → next_column doc.style (m ∷ ms) ≡ 2 =
      λ some. if_false (next_column doc.style ms == doc.style.columns) 1 (next_column doc.style ms + 1)
      (eq_no (next_column doc.style ms) doc.style.columns (omega (arith, first, most, some)))
      ∙ ap (λ (n : ℕ). n + 1) first in
      let stands : Stand doc (reverse (map (later page.run page.wide) columns) ++ (m ∷ ms)) =
      subst (Stand doc) (first_apart page column columns ms) stand in
      let here : Stand doc (m ∷ ms) =
      stand_behind doc (reverse (map (later page.run page.wide) columns)) (m ∷ ms) stands in
      let there = are_there m ms here.0 (few_stand ms here.1) in
      let high : IsWide (made_wide doc placed page.wide) =
      high_is (made_wide doc placed page.wide) (wide_range doc placed page.wide all rule) in
      let high' : IsWide (wide_of doc (m ∷ ms)) = subst IsWide (sym same) high in
      let t = both_of (length page.wide == length (float_numbers doc.style)) _ here.0.stands.wide in
      let rest = may_later page.run page.wide (plus_counts doc.style before column.top) column.bottom 2 columns
      (m ∷ ms) refl (omega arith) (omega (arith, most)) more high' stands in
      record {
        wide = sym (if_true (next_column doc.style ms == 1) _ _ one) ∙ t.1;
        wide_fits = there.wide_fits;
        high = high;
        columns = (
          subst (λ (high : Option ℤ). MayPrint (context_at doc page.run high before column)) same
              (may_print m ms here high'),
          subst (λ (high : Option ℤ). MayFrom doc page.run high (placed_behind doc.style before column) columns) same rest,
        );
      }

  may_sheet_by : (page : Page) (columns : List Column) (ms : List PageMove) → 1 ≤ length columns →
      length columns ≤ doc.style.columns → next_column doc.style ms ≡ 1 →
      Stand doc (reverse (page_moves page columns) ++ ms) →
      MaySheet doc (placed_of doc.style ms) (record { run = page.run; wide = page.wide; columns = columns })
  may_sheet_by page [] ms some most first stand = absurd (omega (arith, some))
  may_sheet_by page (column ∷ columns) ms some most first stand =
      may_sheet page column columns ms first (omega (arith, most)) stand

  may_sheets : (pages : List Page) (ms : List PageMove) → AreFilled doc.style.columns pages →
      next_column doc.style ms ≡ 1 → Stand doc (columns_of (reverse pages) ++ ms) →
      MaySheets doc (placed_of doc.style ms) pages
  may_sheets [] ms filled first stand = tt
  may_sheets (page ∷ []) ms filled first stand =
      (may_sheet_by page page.columns ms filled.0 filled.1 first (subst (Stand doc) (moves_more page [] ms) stand), tt)
  may_sheets (page ∷ next ∷ pages) ms filled first stand =
      let more = reverse (page_moves page page.columns) ++ ms in
      let stands : Stand doc (columns_of (reverse (next ∷ pages)) ++ more) =
      subst (Stand doc) (moves_more page (next ∷ pages) ms) stand in
      let few_columns : length page.columns ≤ doc.style.columns = omega (arith, filled.1) in
      let sheet = sheet_by doc page page.columns ms filled.0 few_columns first in
      let turned = turned_by doc page page.columns ms filled.0 filled.1 first in (
        may_sheet_by page page.columns ms filled.0 few_columns first
            (stand_behind doc (columns_of (reverse (next ∷ pages))) more stands),
        subst (λ (placed : List ℕ). MaySheets doc placed (next ∷ pages)) sheet.placed
            (may_sheets (next ∷ pages) more filled.2 turned.column stands),
      )

-- what the printing of pages asks
pub record ArePrintable (galley : GalleyValue) (style : StyleValue) (plan : Pagination) : Type 0 where
  pub filled : AreFilled style.columns plan.pages
  pub may : MaySheets (document galley style) (placed_of style []) plan.pages

pub are_printable : (galley : GalleyValue) (style : StyleValue) (plan : Pagination) →
    AllByRecursion IsBlock galley.blocks → IsAreaRule style.wide → float_total galley.blocks style ≤ 2 ^ 12 →
    Legal galley style plan → ArePrintable galley style plan
unfolding breach
are_printable galley style plan all rule few legal =
    let doc = document galley style in
    let s : Sound doc (reverse plan.pages) (columns plan) _ _ =
    sound_of doc (reverse plan.pages) (columns plan) _ _ legal.unbroken in
    let filled = are_filled style.columns plan.pages s.filled in
    record {
      filled = filled;
      may = may_sheets doc all rule few plan.pages [] filled refl
          (subst (Stand doc) (sym (append-nil (columns_of (reverse plan.pages)))) s.stand);
    }
