-- The columns of a legal pagination print numbers in range.
use Rattle.std.proofs.Common.{◌≡◌, refl, sym, ap, subst, ◌≤◌, ◌+◌, ◌^◌, ◌-◌, ℕ, suc, Bool, true, false, List, [], ◌∷◌, length, take, arith, length-take}
use Rattle.std.proofs.lemmas.Bool.Decides.{nat_tests}
use Rattle.std.specs.Prelude.{◌==◌, is_some, slice_get, Option, Some, None, ℤ, pos, negsuc, nat_abs, int_le, int_lt, if◌then◌else◌}
use Rattle.std.specs.List.{AllByRecursion}
use Rattle.std.specs.Option.{option_map_or}
use Rattle.pg_lemmas.proofs.Bools.{both}
use Rattle.pg_lemmas.proofs.Bools.{both_of}
use Rattle.pg_list.proofs.Places.{same_place}
use Rattle.pg_list.specs.declared.item.Item.{Item}
use Rattle.pg_list.specs.declared.item.Item.TheVariants.{BoxItem, Rule, Glue, Kern, Penalty, Insert, Carry}
use Rattle.pg_list.specs.Counts.{item_count, item_limit}
use Rattle.pg_list.specs.Ranges.{IsItemInRange}
use Rattle.pg_list.specs.Shapes.{IsBlock}
use Rattle.pg_plan.specs.declared.pages.PageMove.{PageMove}
use Rattle.pg_style.specs.Ranges.{IsStyle}
use Rattle.pg_list.specs.Break.{break_penalty, item_break, follows_solid, has_at, is_glue, is_spent}
use Rattle.pg_rules.specs.ColumnRules.{text_goal, text_total, text_badness, segment}
use Rattle.pg_rules.specs.Cost.{text_demerits}
use Rattle.pg_rules.specs.History.{next_column, next_run, place_of, context}
use Rattle.pg_rules.specs.Room.{Document, ColumnContext, flat_items_of, items_of, is_top_allowed, is_bottom_allowed}
use Rattle.pg_pages.specs.PageText.{end_penalty}
use Rattle.pg_pages.proofs.TextColumn.{trimmed_few}
use Rattle.law_columns.proofs.Prices.{text_badness_few, text_few}
use Rattle.pg_column.proofs.Spans.{ahead_few}
use Rattle.law_columns.specs.Stands.{Stand}
use Rattle.law_columns.proofs.GalleyFacts.{stand_place}
use Rattle.law_words.specs.Ranges.{IsPrintedPlace, is_wide}
use Rattle.law_read_back.specs.PageRanges.{IsPrintedNumbers, IsPrintedMove, ArePrintedMoves}
use Rattle.law_read_back.proofs.Ranges.{wide_few, top_few, bottom_few, run_few, column_picks_few, size_there}
use Rattle.law_read_back.proofs.Places.{place_printed}
use Rattle.pg_lemmas.proofs.Lists.{get_all}
use Rattle.law_read_back.proofs.Items.{at_all, all_take, trimmed_all, blocks_items, total_few}
use Rattle.law_read_back.proofs.Rooms.{goal_few, wide_height_few}
use Rattle.pg_column.proofs.Steps.{map_length}

pub few_is_wide : (z : ℤ) → nat_abs z ≤ 2 ^ 126 → is_wide z ≡ true
few_is_wide (pos n) h = by n h
  where
    by : (n : ℕ) → n ≤ 2 ^ 126 → is_wide (pos n) ≡ true
    by n h = grind (arith, nat_tests)
few_is_wide (negsuc n) h = both (int_le (negsuc (2 ^ 127 - 1)) (negsuc n)) true (by n (omega (arith, h))) refl
  where
    by : (n : ℕ) → suc n ≤ 2 ^ 126 → int_le (negsuc (2 ^ 127 - 1)) (negsuc n) ≡ true
    by n h = grind (arith, nat_tests)

-- ---- the penalty of an end

abbrev IsFew : Option ℤ → Type 0
IsFew o = nat_abs (option_map_or (λ (penalty : ℤ). penalty) o (pos 0)) ≤ 2 ^ 31

few_if : (b : Bool) (x y : Option ℤ) → IsFew x → IsFew y → IsFew (if b then x else y)
few_if true x y h k = h
few_if false x y h k = k

none_few : IsFew None
none_few = omega arith

zero_few : IsFew (Some (pos 0))
zero_few = omega arith

item_few : (flat : List Item) (k : ℕ) (item : Item) → IsItemInRange item → IsFew (item_break flat k item)
item_few flat k (BoxItem h d body) a = none_few
item_few flat k (Rule h d body) a = none_few
item_few flat k (Glue w s o t body) a = few_if (follows_solid flat k) (Some (pos 0)) None zero_few none_few
item_few flat k (Kern w body) a = few_if (has_at is_glue flat (k + 1)) (Some (pos 0)) None zero_few none_few
item_few flat k (Penalty value body) a = few_if (int_lt value (pos 10000)) (Some value) None a none_few
item_few flat k (Insert c s body) a = none_few
item_few flat k (Carry body) a = none_few

break_few : (flat : List Item) (k : ℕ) → AllByRecursion IsItemInRange flat → IsFew (break_penalty flat k)
break_few flat k a = few_if (k == length flat) (Some (pos 0)) _ zero_few (by (slice_get flat k) refl)
  where
    by : (o : Option Item) → o ≡ slice_get flat k → IsFew (option_map_or (item_break flat k) o None)
    by None e = none_few
    by (Some item) e = item_few flat k item (get_all IsItemInRange flat k item a (sym e))

-- ---- one column

module _ (doc : Document) (range : IsStyle doc.style) (a : AllByRecursion IsBlock doc.blocks)
    (limit : item_count doc.blocks ≤ item_limit) where
  segment_long : (it : ColumnContext) → it.document ≡ doc → (n : ℕ) → length (segment it n) ≤ 2 ^ 21
  segment_long it is n =
      let t = trimmed_few (take n (items_of it)) in
      let l = length-take n (items_of it) in
      let m = map_length (flat_items_of it) in
      let f = ahead_few it.document.blocks it.column.from it.column.picks in
      let c : item_count it.document.blocks ≤ item_limit =
      subst (λ (d : Document). item_count d.blocks ≤ item_limit) (sym is) limit in
      omega (arith, t, l, m, f, c)

  items_all : (m : PageMove) (ms : List PageMove) → AllByRecursion IsItemInRange (items_of (context doc m ms))
  items_all m ms = at_all IsItemInRange doc.blocks m.column.from m.column.picks (blocks_items doc.blocks a)

  segment_all : (m : PageMove) (ms : List PageMove) (n : ℕ) →
      AllByRecursion IsItemInRange (segment (context doc m ms) n)
  segment_all m ms n = trimmed_all IsItemInRange (take n (items_of (context doc m ms)))
      (all_take IsItemInRange n (items_of (context doc m ms)) (items_all m ms))

  numbers_printed : (m : PageMove) (ms : List PageMove) (n : ℕ) → let it = context doc m ms in
      IsPrintedNumbers (text_goal it n) (text_total it n) (text_badness it n) (end_penalty it n) (text_demerits it n)
  numbers_printed m ms n =
      let it = context doc m ms in
      let long = segment_long it refl n in
      let b = text_badness_few it n in
      let p = break_few (items_of it) n (items_all m ms) in
      let d = text_few it range.line_in n in
      record {
        goal_in = goal_few it range a (wide_height_few doc (m ∷ ms) range.wide_in a) n (segment_all m ms n) long;
        total_in = total_few doc.style.topskip doc.style.maxdepth (segment it n) range.topskip_in.1 range.maxdepth_in.1
            (segment_all m ms n) long;
        badness_in = omega (arith, b);
        penalty_in = few_is_wide (end_penalty it n) (omega (arith, p));
        demerits_in = few_is_wide (text_demerits it n) (omega (arith, d));
      }

  move_printed : (m : PageMove) (ms : List PageMove) → Stand doc (m ∷ ms) → IsPrintedMove doc m ms
  move_printed m ms s =
      let it = context doc m ms in
      let rules = s.0.stands.rules in
      let from : m.column.from ≡ place_of ms = same_place m.column.from (place_of ms) s.0.starts in
      let c = both_of _ (is_bottom_allowed it) rules.counts in
      let t = both_of _ (is_top_allowed it) c.0 in
      let size = size_there it _ rules.fits in
      record {
        column = record {
          from = subst IsPrintedPlace (sym from) (place_printed doc.blocks (place_of ms) a limit
              (stand_place doc a ms s.1));
          to = place_printed doc.blocks m.column.to a limit (stand_place doc a (m ∷ ms) s);
          top = top_few it range t.1;
          bottom = bottom_few it range c.1;
          picks = column_picks_few it a rules.fits;
        };
        run = run_few doc.style range (next_run doc.style ms) m s.0.stands.takes_run;
        wide = wide_few doc (next_column doc.style ms) m range.wide_in.count_in s.0.stands.wide;
        body = record {
          sized = λ _. ap is_some size.1.0;
          numbers = λ n _. numbers_printed m ms n;
          demerits = (let d = range.float_column_in.demerits_to in omega (arith, d));
        };
      }

  pub moves_printed : (ms : List PageMove) → Stand doc ms → ArePrintedMoves doc ms
  moves_printed [] s = tt
  moves_printed (m ∷ ms) s = (move_printed m ms s, moves_printed ms s.1)
