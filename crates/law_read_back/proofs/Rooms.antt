-- The goal of a column's text, in range.
use Rattle.std.proofs.Common.{◌≡◌, refl, sym, ap, ℕ, suc, ◌+◌, ◌*◌, ◌^◌, ◌≤◌, List, [], ◌∷◌, map, length, Bool, true, false, Some, None, arith}
use Rattle.std.specs.Prelude.{◌&&◌, ◌==◌, if◌then◌else◌, nat_abs, nat_le, ℤ, pos, ◌+ℤ◌}
use Rattle.std.specs.List.{AllByRecursion, sum_by, range_with_len, cons_option}
use Rattle.pg_list.specs.Ranges.{IsItemInRange}
use Rattle.pg_list.specs.Shapes.{IsBlock}
use Rattle.pg_list.specs.declared.blocks.Block.{Block}
use Rattle.pg_list.specs.declared.item.Item.{Item}
use Rattle.pg_list.specs.declared.item.Item.TheVariants.{BoxItem, Rule, Glue, Kern, Penalty, Insert, Carry}
use Rattle.pg_style.specs.Ranges.{IsAreaRule}
use Rattle.pg_style.specs.Values.{AreaRuleValue}
use Rattle.pg_list.specs.Flat.{flat, flat_items_from}
use Rattle.pg_list.specs.Whole.{whole_sum_by}
use Rattle.pg_rules.specs.Floats.{entry, sizes_of, floats, float_numbers, float_count, total_count, dealt, has_all, area_height, is_area_allowed}
use Rattle.pg_rules.specs.History.{made_wide}
use Rattle.pg_rules.specs.Room.{Document, checked_height}
use Rattle.pg_lemmas.proofs.Bools.{both_of}
use Rattle.std.proofs.lemmas.Bool.{eqb-true}
use Rattle.std.proofs.lemmas.Bool.{leb-true}
use Rattle.law_columns.proofs.BoundCounts.{float_total}
use Rattle.std.specs.Option.{option_map_or}
use Rattle.std.specs.Prelude.{◌-ℤ◌, slice_get, unwrap_or, Option}
use Rattle.pg_style.specs.Ranges.{IsStyle, IsRun, IsClass, IsKind}
use Rattle.pg_style.specs.Values.{StyleValue}
use Rattle.pg_style.specs.declared.style.Run.{Run}
use Rattle.pg_style.specs.declared.style.Area.{Area}
use Rattle.pg_style.specs.declared.style.Class.{Class}
use Rattle.pg_style.specs.declared.style.Kind.{Kind}
use Rattle.pg_style.specs.declared.style.Kind.TheVariants.{Note, Float}
use Rattle.pg_list.specs.Whole.{whole_sum}
use Rattle.pg_plan.specs.declared.pages.PageMove.{PageMove}
use Rattle.pg_rules.specs.Floats.{takes_top, takes_bottom, takes_in_column}
use Rattle.pg_rules.specs.ColumnRules.{segment, text_goal}
use Rattle.pg_rules.specs.History.{next_column, placed_of, wide_of}
use Rattle.pg_rules.specs.Room.{ColumnContext, is_text, extra, full_height, wide_height, top_height, bottom_height, room, notes, class_notes, before_bottom}
use Rattle.law_columns.proofs.Areas.{IsSize, area_range, wide_range}
use Rattle.law_columns.proofs.Prices.{add_few}
use Rattle.pg_lemmas.proofs.Lists.{get_all}
use Rattle.law_read_back.proofs.Items.{all_map, from_all, blocks_items, less_few}
use Rattle.law_columns.proofs.Areas.{dealt_long, dealt_range, floats_range, sizes_range}

-- ---- heights

lists_long : (blocks : List Block) (numbers : List ℕ) →
    length (map (λ (number : ℕ). sizes_of number (flat blocks [])) numbers) ≡ length numbers
lists_long blocks [] = refl
lists_long blocks (x ∷ xs) = ap suc (lists_long blocks xs)

-- the height of an area
height_few : (doc : Document) (takes : Area → Bool) (limit : ℕ) (rule : AreaRuleValue) (before counts : List ℕ) →
    limit ≤ 4 →
    IsAreaRule rule → AllByRecursion IsBlock doc.blocks →
    (allowed : Bool) → (allowed ≡ true → is_area_allowed doc.style takes limit counts ≡ true) →
    nat_abs (checked_height (floats doc.blocks doc.style) allowed rule before counts) ≤ 8589934584
height_few doc takes limit rule before counts small range a allowed h =
    by (allowed && has_all (floats doc.blocks doc.style) before counts) refl
  where
    few : is_area_allowed doc.style takes limit counts ≡ true →
        length (dealt (floats doc.blocks doc.style) before counts) ≤ 4
    few t =
        let p = both_of ((length counts == length (float_numbers doc.style)) && nat_le (total_count counts) limit) _ t
        in
        let q = both_of (length counts == length (float_numbers doc.style)) (nat_le (total_count counts) limit) p.0 in
        let l : length counts ≡ length (float_numbers doc.style) = eqb-true _ _ q.0 in
        let n : total_count counts ≤ limit = leb-true _ _ q.1 in
        let d : length (dealt (floats doc.blocks doc.style) before counts) ≤ sum_by (entry counts)
        (range_with_len 0 (length (floats doc.blocks doc.style))) =
        dealt_long 0 (floats doc.blocks doc.style) before counts in
        let k : length (floats doc.blocks doc.style) ≡ length (float_numbers doc.style) =
        lists_long doc.blocks (float_numbers doc.style) in
        let r : sum_by (entry counts) (range_with_len 0 (length (floats doc.blocks doc.style)))
        ≡ float_count doc.style counts = ap (λ (i : ℕ). sum_by (entry counts) (range_with_len 0 i)) k in
        let f : float_count doc.style counts ≡ total_count counts = float_total doc.style counts l in
        omega (arith, n, d, r, f)

    by : (b : Bool) → b ≡ (allowed && has_all (floats doc.blocks doc.style) before counts) →
        nat_abs (if b then area_height rule (dealt (floats doc.blocks doc.style) before counts) else pos 0) ≤ 8589934584
    by false e = omega arith
    by true e =
        let t = both_of allowed (has_all (floats doc.blocks doc.style) before counts) (sym e) in
        (area_range rule range (dealt (floats doc.blocks doc.style) before counts)
        (dealt_range 0 (floats doc.blocks doc.style) before counts
        (floats_range doc.blocks (float_numbers doc.style) a))
        (few (h t.0))).1

module _ (it : ColumnContext) (range : IsStyle it.document.style) (a : AllByRecursion IsBlock it.document.blocks) where
  top_few : nat_abs (top_height it) ≤ 8589934584
  top_few = by (is_text it)
    where
      style : StyleValue
      style = it.document.style

      by : (b : Bool) → nat_abs (checked_height (floats it.document.blocks style)
          (if b then is_area_allowed style takes_top style.top.count it.column.top
          else is_area_allowed style takes_in_column style.float_column.count
          it.column.top) style.top it.before it.column.top)
          ≤ 8589934584
      by true = height_few it.document takes_top style.top.count style.top it.before it.column.top range.top_in.count_in
          range.top_in a (is_area_allowed style takes_top style.top.count it.column.top) (λ e. e)
      by false = height_few it.document takes_in_column style.float_column.count style.top it.before it.column.top
          range.float_column_in.count_in range.top_in a
          (is_area_allowed style takes_in_column style.float_column.count it.column.top) (λ e. e)

  bottom_few : nat_abs (bottom_height it) ≤ 8589934584
  bottom_few = by (is_text it)
    where
      style : StyleValue
      style = it.document.style

      by : (b : Bool) → nat_abs (checked_height (floats it.document.blocks style)
          (if b then is_area_allowed style takes_bottom style.bottom.count it.column.bottom
          else is_area_allowed style takes_in_column style.float_column.count it.column.bottom) style.bottom
          (before_bottom it) it.column.bottom) ≤ 8589934584
      by true = height_few it.document takes_bottom style.bottom.count style.bottom (before_bottom it) it.column.bottom
          range.bottom_in.count_in range.bottom_in a
          (is_area_allowed style takes_bottom style.bottom.count it.column.bottom) (λ e. e)
      by false = height_few it.document takes_in_column style.float_column.count style.bottom (before_bottom it)
          it.column.bottom range.float_column_in.count_in range.bottom_in a
          (is_area_allowed style takes_in_column style.float_column.count it.column.bottom) (λ e. e)

  extra_few : nat_abs (extra it.document.style it.run) ≤ 2 ^ 30
  extra_few = by (slice_get it.document.style.runs it.run) refl
    where
      by : (o : Option Run) → o ≡ slice_get it.document.style.runs it.run →
          nat_abs (option_map_or (λ (r : Run). r.extra) o (pos 0)) ≤ 2 ^ 30
      by None e = omega arith
      by (Some r) e =
          let k : IsRun r = get_all IsRun it.document.style.runs it.run r range.runs_in.each (sym e) in
          omega (arith, k.extra_in)

  full_few : nat_abs (full_height it) ≤ 2 ^ 31
  full_few = add_few it.document.style.height (extra it.document.style it.run) (2 ^ 30) (2 ^ 30)
      (omega (arith, range.height_to)) extra_few

  -- notes
  sum_few : (sizes : List ℤ) → AllByRecursion IsSize sizes → nat_abs (whole_sum sizes) ≤ 2 ^ 30 * length sizes
  sum_few [] h = omega arith
  sum_few (z ∷ zs) h =
      let r = sum_few zs h.1 in
      let s = add_few z (whole_sum zs) (2 ^ 30) (2 ^ 30 * length zs) (omega (arith, h.0.1)) r in
      omega (arith, s)

  sizes_long : (number : ℕ) (items : List Item) → length (sizes_of number items) ≤ length items
  sizes_long number [] = omega arith
  sizes_long number (BoxItem h d body ∷ items) = let r = sizes_long number items in omega (arith, r)
  sizes_long number (Rule h d body ∷ items) = let r = sizes_long number items in omega (arith, r)
  sizes_long number (Glue w s o k body ∷ items) = let r = sizes_long number items in omega (arith, r)
  sizes_long number (Kern w body ∷ items) = let r = sizes_long number items in omega (arith, r)
  sizes_long number (Penalty v body ∷ items) = let r = sizes_long number items in omega (arith, r)
  sizes_long number (Carry body ∷ items) = let r = sizes_long number items in omega (arith, r)
  sizes_long number (Insert class size body ∷ items) =
      by (class == number) (sizes_of number items) (sizes_long number items)
    where
      by : (b : Bool) (rest : List ℤ) → length rest ≤ length items →
          length (cons_option (if b then Some size else None) rest) ≤ suc (length items)
      by true rest h = omega arith
      by false rest h = omega arith

  kind_few : (items : List Item) → AllByRecursion IsItemInRange items → length items ≤ 2 ^ 21 →
      (number : ℕ) (kind : Kind) → IsKind kind → nat_abs (class_notes items number kind) ≤ 2 ^ 52
  kind_few items b few number (Float area distance) k = omega arith
  kind_few items b few number (Note skip limit) k = by (length (sizes_of number items) == 0)
    where
      sum : nat_abs (whole_sum (sizes_of number items)) ≤ 2 ^ 51
      sum =
          let s = sum_few (sizes_of number items) (sizes_range number items b) in
          let l = sizes_long number items in omega (arith, s, l)

      by : (c : Bool) → nat_abs (if c then pos 0 else (skip.size +ℤ whole_sum (sizes_of number items))) ≤ 2 ^ 52
      by true = omega arith
      by false =
          let r = add_few skip.size (whole_sum (sizes_of number items)) (2 ^ 30) (2 ^ 51) (omega (arith, k.0.size_in.1)) sum in
          omega (arith, r)

  notes_few : (items : List Item) → AllByRecursion IsItemInRange items → length items ≤ 2 ^ 21 →
      (classes : List Class) → AllByRecursion IsClass classes →
      nat_abs (whole_sum_by (λ (class : Class). class_notes items class.number class.kind) classes) ≤ 2 ^ 52 * length
      classes
  notes_few items b few [] c = omega arith
  notes_few items b few (x ∷ xs) c =
      let r = notes_few items b few xs c.1 in
      let s = add_few (class_notes items x.number x.kind)
      (whole_sum_by (λ (class : Class). class_notes items class.number class.kind) xs) (2 ^ 52) (2 ^ 52 * length xs)
      (kind_few items b few x.number x.kind c.0.kind_in) r in
      omega (arith, s)

  pub goal_few : nat_abs (wide_height it) ≤ 8589934584 → (n : ℕ) → AllByRecursion IsItemInRange (segment it n) →
      length (segment it n) ≤ 2 ^ 21 → nat_abs (text_goal it n) ≤ 2 ^ 60
  goal_few wide n b few =
      let one = less_few (full_height it) (wide_height it) (2 ^ 31) 8589934584 full_few wide in
      let two = less_few (full_height it -ℤ wide_height it) (top_height it) (2 ^ 31 + 8589934584) 8589934584 one
      top_few in
      let three = less_few ((full_height it -ℤ wide_height it) -ℤ top_height it) (bottom_height it)
      (2 ^ 31 + 8589934584 + 8589934584) 8589934584 two bottom_few in
      let own = notes_few (segment it n) b few it.document.style.classes range.classes_in.each in
      let all = less_few (room it) (notes it.document.style (segment it n))
      (2 ^ 31 + 8589934584 + 8589934584 + 8589934584)
      (2 ^ 52 * length it.document.style.classes) three own in
      omega (arith, all, range.classes_in.few)

pub wide_height_few : (doc : Document) (ms : List PageMove) → IsAreaRule doc.style.wide →
    AllByRecursion IsBlock doc.blocks →
    nat_abs (unwrap_or (wide_of doc ms) (pos 0)) ≤ 8589934584
wide_height_few doc [] range a = omega arith
wide_height_few doc (m ∷ ms) range a = by (next_column doc.style ms == 1) (wide_height_few doc ms range a)
  where
    made : (o : Option ℤ) → o ≡ made_wide doc (placed_of doc.style ms) m.wide →
        nat_abs (unwrap_or o (pos 0)) ≤ 8589934584
    made None e = omega arith
    made (Some z) e = (wide_range doc (placed_of doc.style ms) m.wide a range z (sym e)).1

    by : (b : Bool) → nat_abs (unwrap_or (wide_of doc ms) (pos 0)) ≤ 8589934584 →
        nat_abs (unwrap_or (if b then made_wide doc (placed_of doc.style ms) m.wide else wide_of doc ms) (pos 0))
        ≤ 8589934584
    by true h = made (made_wide doc (placed_of doc.style ms) m.wide) refl
    by false h = h
