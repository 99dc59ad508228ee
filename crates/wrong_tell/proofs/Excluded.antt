-- Answers that the clauses of what tells in words exclude.
use Rattle.std.proofs.Common.{◌≡◌, ◌≢◌, ◌∙◌, refl, sym, ap, ap₂, subst, arith, ℕ, ◌+◌, Bool, true, false, List, [], ◌∷◌, length, codes, Option, Some, None}
use Rattle.std.specs.Prelude.{◌||◌, slice_get}
use Rattle.std.specs.declared.cmp.Ordering.TheVariants.{Less}
use Rattle.pg_lemmas.proofs.Bools.{not_both}
use Rattle.pg_alone.specs.Alone.{FindsAlone, IsAlone, has_no_place, is_above_all}
use Rattle.pg_alone.specs.declared.alone.Alone.{Alone}
use Rattle.pg_column.specs.Numbers.{text_room}
use Rattle.pg_column.specs.declared.cost.TextRoom.{TextRoom}
use Rattle.pg_command.specs.Lines.{status_of}
use Rattle.pg_command.specs.declared.status.Status.TheVariants.{Done, Usage}
use Rattle.pg_fault_lines.specs.Spots.{line_at, tells_of}
use Rattle.pg_furthest.specs.Furthest.{Begins, ComesTo, StandsAt, StandsFurthest, page_behind}
use Rattle.pg_furthest.specs.Pages.{TellsBestPages}
use Rattle.pg_furthest.specs.declared.standing.Standing.{Standing}
use Rattle.pg_list.specs.GalleyValue.{GalleyValue}
use Rattle.pg_list.specs.declared.galley.Place.{Place}
use Rattle.pg_outside.specs.Outside.{Held, OverSink}
use Rattle.pg_parts.specs.Priced.{ArePriced}
use Rattle.pg_plan.specs.Order.{place_cmp}
use Rattle.pg_plan.specs.declared.pages.PageMove.{PageMove}
use Rattle.pg_plan.specs.declared.pages.Pagination.{Pagination}
use Rattle.pg_plan.specs.declared.states.State.{State}
use Rattle.pg_reasons.specs.Reasons.{TellsFault}
use Rattle.pg_rules.specs.ColumnRules.{does_fit}
use Rattle.pg_rules.specs.Legal.{Legal, document}
use Rattle.pg_rules.specs.Room.{ColumnContext, Document, is_text}
use Rattle.pg_scan.specs.Lines.{joined, lines_of, trimmed}
use Rattle.pg_style.specs.Values.{StyleValue}
use Rattle.pg_table.specs.declared.table.Entry.{Entry}
use Rattle.pg_tell.specs.Course.{Serves}

module _ (galley : GalleyValue) (style : StyleValue) where
  -- ---- what forbids pages

  -- a float that no column can hold is not passed over
  no_float_passed_over : (it : Alone) → IsAlone galley style it → FindsAlone galley style None → ⊥
  no_float_passed_over it alone none =
      let forbids : (is_above_all style it.size || has_no_place style it.slot) ≡ true =
      sym (ap₂ (λ (a b : Bool). a || b) alone.high alone.placeless) ∙ alone.some in
      not_both (is_above_all style it.size || has_no_place style it.slot) forbids
      (none it.slot it.number it.size alone.size)

  -- of a column that stands there one rule is told
  no_other_rule : (from to : Place) (picks : List ℕ) (held : TextRoom) (told other : Option ℕ) (it : ColumnContext) →
      it.document ≡ document galley style → it.column.from ≡ from → it.column.picks ≡ picks → it.column.to ≡ to →
      text_room it ≡ held → does_fit it ≡ true → is_text it ≡ true → told ≢ other →
      TellsFault galley style from picks to held told → TellsFault galley style from picks to held other → ⊥
  no_other_rule from to picks held told other it doc starts picked ends high fits text differ one two =
      differ (sym (one it doc starts picked ends high fits text) ∙ two it doc starts picked ends high fits text)

  -- ---- pages, and how far beginnings come

  -- none is not told beside a legal pagination
  no_none_beside_a_legal_one : (plan : Pagination) → Legal galley style plan → TellsBestPages galley style None → ⊥
  no_none_beside_a_legal_one plan legal none = none plan legal

  -- no label stands furthest in front of a place where a beginning ends
  no_furthest_in_front : (labels : List (Entry State PageMove)) (at : ℕ) (label : Entry State PageMove) (place : Place) →
      slice_get labels at ≡ Some label → ComesTo galley style place → place_cmp label.state.place place ≡ Less →
      StandsFurthest galley style labels at → ⊥
  no_furthest_in_front labels at label place is comes behind furthest = (furthest label is).last place comes behind

  -- no beginning leaves the states of two labels that differ
  no_beginning_of_two : (labels : List (Entry State PageMove)) (one two : ℕ) (a b : Entry State PageMove)
      (plan : Pagination) → slice_get labels one ≡ Some a → slice_get labels two ≡ Some b → a.state ≢ b.state →
      Begins galley style labels one plan → Begins galley style labels two plan → ⊥
  no_beginning_of_two labels one two a b plan first second differ begins again =
      differ (sym (begins a first).state ∙ (again b second).state)

  -- no column begins a page in front of the first one
  no_page_zero : (standing : Standing) → standing.column ≡ 1 → standing.page ≡ 0 → StandsAt galley style standing → ⊥
  no_page_zero standing first zero_is stands =
      let at : standing.page ≡ length stands.plan.pages + 1 =
      subst (λ (column : ℕ). standing.page ≡ page_behind column (length stands.plan.pages)) first stands.page in
      omega (arith, at, zero_is)

-- a column is not left without its price
no_column_unpriced : (doc : Document) (m : PageMove) (ms : List PageMove) → ArePriced doc (m ∷ ms) [] → ⊥
no_column_unpriced doc m ms priced = priced

-- ---- the line of a key, and the program

-- the first line is not that of a key of the second
no_first_line_for_a_later_key : tells_of (codes "runs") (codes "line") (codes "version = 1\nline = 10\n") 1 ≡ false
unfolding line_at joined lines_of trimmed
no_first_line_for_a_later_key = refl

done_is_not_usage : Done ≡ Usage → ⊥
done_is_not_usage e = absurd cc

-- words that ask for nothing do not end as done
no_telling_for_nothing : (told : Option Held) (out say : OverSink) → Serves told None out say Done → ⊥
no_telling_for_nothing told out say serves = done_is_not_usage (serves.status ∙ ap status_of serves.tells.0)
