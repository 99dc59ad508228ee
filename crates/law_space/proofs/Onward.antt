-- A column that may follow a state ends at a place that the state's place reaches.
use Rattle.std.proofs.Common.{◌≡◌, refl, sym, subst, ℕ, zero, suc, ◌-◌, List, [], ◌∷◌, length, take, Bool, true, false, Option, Some, None, arith}
use Rattle.std.specs.Prelude.{◌&&◌, ◌||◌, ◌==◌, not, if◌then◌else◌, nat_lt, ◌^◌, is_some, slice_get, unwrap_or, ℤ, pos, ◌+ℤ◌, ◌-ℤ◌, ◌≤ℤ◌, ◌<ℤ◌, int_le, int_lt}
use Rattle.std.specs.Int.{int_max}
use Rattle.std.specs.List.{AllByRecursion, list_all, list_any, range_with_len}
use Rattle.std.specs.Option.{option_map_or}
use Rattle.std.proofs.lemmas.Int.{int_max_is, ints}
use Rattle.pg_list.specs.Ranges.{IsItemInRange}
use Rattle.pg_list.specs.Shapes.{IsBlock, is_box}
use Rattle.pg_list.specs.declared.item.Item.{Item}
use Rattle.pg_plan.specs.declared.pages.PageMove.{PageMove}
use Rattle.pg_plan.specs.declared.states.State.{State}
use Rattle.pg_style.specs.Ranges.{IsStyle}
use Rattle.pg_style.specs.declared.style.Run.{Run}
use Rattle.pg_list.specs.Badness.{is_over}
use Rattle.pg_list.specs.Break.{break_penalty, is_forced, passes_between}
use Rattle.pg_list.specs.Flat.{fronts}
use Rattle.pg_list.specs.Totals.{shrink, total}
use Rattle.pg_rules.specs.ColumnRules.{column_variants, passes_breaks, segment, tallest_goal, text_is_over, text_total}
use Rattle.pg_rules.specs.Floats.{float_count, floats, gap_shrink, is_area_allowed, takes_bottom, takes_top, takes_wide}
use Rattle.pg_rules.specs.Follow.{Follow, context_in}
use Rattle.pg_rules.specs.History.{made_wide}
use Rattle.pg_rules.specs.IsState.{IsState, not_first}
use Rattle.pg_rules.specs.Reach.{Reaches, greatest_areas, greatest_extra, greatest_give, greatest_skips, is_over_at_most}
use Rattle.pg_rules.specs.Room.{ColumnContext, Document, areas_give, before_bottom, bottom_height, extra, flat_items_of, is_bottom_allowed, is_text, is_top_allowed, items_of, notes, room, size_of, skips_give, top_height, wide_height}
use Rattle.pg_column.proofs.Passing.{at_ranges}
use Rattle.pg_lemmas.proofs.Bools.{both, both_of}
use Rattle.pg_lemmas.proofs.Lists.{all_take}
use Rattle.law_places.proofs.Tests.{int_le_of, int_less, le_int, less_int, int_le_trans}
use Rattle.law_columns.proofs.Gives.{checked_to, dealt_within, shrink_part, skips_to}
use Rattle.law_space.proofs.Lengths.{NotNegative, all_items, height_up, smallest_up, trimmed_all}

-- ---- the tallest room

max_left : (x y : ℤ) → x ≤ℤ int_max x y
max_left x y = omega (arith, ints, int_max_is x y)

max_right : (x y : ℤ) → y ≤ℤ int_max x y
max_right x y = omega (arith, ints, int_max_is x y)

-- a run that exists has no more extra than the greatest
pub extra_low : (runs : List Run) (run : ℕ) → is_some (slice_get runs run) ≡ true →
    option_map_or (λ (it : Run). it.extra) (slice_get runs run) (pos 0) ≤ℤ greatest_extra runs
extra_low [] run h = absurd cc
extra_low (x ∷ []) zero h = omega (arith, ints)
extra_low (x ∷ []) (suc run) h = absurd cc
extra_low (x ∷ y ∷ runs) zero h = max_left x.extra (greatest_extra (y ∷ runs))
extra_low (x ∷ y ∷ runs) (suc run) h = int_le_trans _ _ _ (extra_low (y ∷ runs) run h)
    (max_right x.extra (greatest_extra (y ∷ runs)))

-- what is over in a room is over in each lower one
over_lower : (total shrink g h : ℤ) → g ≤ℤ h → is_over total shrink h ≡ true → is_over total shrink g ≡ true
over_lower total shrink g h l e =
    let s = both_of (int_le h total) (int_lt shrink (total -ℤ h)) e in
    let p : h ≤ℤ total = le_int h total s.0 in
    let q : shrink <ℤ (total -ℤ h) = less_int shrink (total -ℤ h) s.1 in
    both (int_le g total) (int_lt shrink (total -ℤ g)) (int_le_of g total (omega (arith, ints)))
    (int_less shrink (total -ℤ g) (omega (arith, ints)))

-- fewer breaks are due where fewer are over
passes_lower : (xs : List Item) (over high : ℕ → Bool) (n : ℕ) → ((k : ℕ) → high k ≡ true → over k ≡ true) →
    passes_between xs over n ≡ true → passes_between xs high n ≡ true
passes_lower xs over high n h e = by (range_with_len 1 (n - 1)) e
  where
    one : (a b c d : Bool) → (d ≡ true → c ≡ true) → (not a || not (b || c)) ≡ true → (not a || not (b || d)) ≡ true
    one false b c d i p = refl
    one true true c d i p = absurd cc
    one true false true d i p = absurd cc
    one true false false false i p = refl
    one true false false true i p = let z : false ≡ true = i refl in absurd cc

    by : (ks : List ℕ) → list_all (λ (k : ℕ). not (is_some (break_penalty xs k) && list_any is_box (take k xs))
        || not (is_forced xs k || over k)) ks ≡ true →
        list_all (λ (k : ℕ). not (is_some (break_penalty xs k) && list_any is_box (take k xs))
        || not (is_forced xs k || high k)) ks ≡ true
    by [] e = refl
    by (k ∷ ks) e =
        let s = both_of (not (is_some (break_penalty xs k) && list_any is_box (take k xs))
        || not (is_forced xs k || over k)) _ e in
        both (not (is_some (break_penalty xs k) && list_any is_box (take k xs)) || not (is_forced xs k || high k)) _
        (one (is_some (break_penalty xs k) && list_any is_box (take k xs)) (is_forced xs k) (over k) (high k) (h k) s.0)
        (by ks s.1)

module _ (doc : Document) (blocks : AllByRecursion IsBlock doc.blocks) (ranges : IsStyle doc.style) (u : State)
    (own : IsState doc u) (m : PageMove) (v : State) (c : ℤ) (f : Follow doc u m v c) where
  abbrev it : ColumnContext
  it = context_in doc u m

  wide_up : NotNegative (wide_height it)
  wide_up = by (u.column == 1)
    where
      made : (b : Bool) (h : ℤ) → NotNegative h → NotNegative (unwrap_or (if b then Some h else None) (pos 0))
      made true h l = l
      made false h l = omega (arith, ints)

      kept : (o : Option ℤ) → option_map_or (λ (z : ℤ). not_first u.column && (int_le (pos 0) z && int_lt z (pos (2 ^ 33))))
          o true ≡ true → NotNegative (unwrap_or o (pos 0))
      kept None e = omega (arith, ints)
      kept (Some z) e = le_int (pos 0) z (both_of (int_le (pos 0) z) (int_lt z (pos (2 ^ 33)))
          (both_of (not_first u.column) _ e).1).0

      by : (b : Bool) → NotNegative (unwrap_or (if b then made_wide doc u.placed m.wide else u.wide) (pos 0))
      by true = made (nat_lt 0 (float_count doc.style m.wide)) _ (height_up doc.blocks doc.style
          (is_area_allowed doc.style takes_wide doc.style.wide.count m.wide) doc.style.wide u.placed m.wide blocks
          ranges.wide_in)
      by false = kept u.wide own.wide

  room_low : room it ≤ℤ (doc.style.height +ℤ greatest_extra doc.style.runs)
  room_low =
      let e : extra doc.style m.run ≤ℤ greatest_extra doc.style.runs =
      extra_low doc.style.runs m.run (both_of (is_some (slice_get doc.style.runs m.run)) _ f.stands.takes_run).0 in
      lower doc.style.height (extra doc.style m.run) (greatest_extra doc.style.runs) (wide_height it) (top_height it)
      (bottom_height it) e wide_up
      (height_up doc.blocks doc.style _ doc.style.top it.before it.column.top blocks ranges.top_in)
      (height_up doc.blocks doc.style _ doc.style.bottom _ it.column.bottom blocks ranges.bottom_in)
    where
      lower : (h x g w t b : ℤ) → x ≤ℤ g → pos 0 ≤ℤ w → pos 0 ≤ℤ t → pos 0 ≤ℤ b →
          ((((h +ℤ x) -ℤ w) -ℤ t) -ℤ b) ≤ℤ (h +ℤ g)
      lower h x g w t b i j k l = omega (arith, ints)

  -- the gaps of its areas give no more than those of full ones
  areas_low : is_text it ≡ true → areas_give gap_shrink it ≤ℤ greatest_areas gap_shrink doc.style
  areas_low t = add _ _ _ _
      (checked_to gap_shrink shrink_part (floats doc.blocks doc.style) (is_top_allowed it) doc.style.top it.before
      it.column.top ranges.top_in (λ e. dealt_within doc.blocks doc.style takes_top doc.style.top.count it.before
      it.column.top (allowed (is_text it) _ _ t e))).1
      (checked_to gap_shrink shrink_part (floats doc.blocks doc.style) (is_bottom_allowed it) doc.style.bottom
      (before_bottom it) it.column.bottom ranges.bottom_in (λ e. dealt_within doc.blocks doc.style takes_bottom
      doc.style.bottom.count (before_bottom it) it.column.bottom (allowed (is_text it) _ _ t e))).1
    where
      add : (a b c d : ℤ) → a ≤ℤ b → c ≤ℤ d → (a +ℤ c) ≤ℤ (b +ℤ d)
      add a b c d p q = omega (arith, ints)

      allowed : (b x y : Bool) → b ≡ true → (if b then x else y) ≡ true → x ≡ true
      allowed true x y t e = e
      allowed false x y t e = absurd cc

  goal_low : is_text it ≡ true → (k : ℕ) →
      tallest_goal it k ≤ℤ ((doc.style.height +ℤ greatest_extra doc.style.runs) +ℤ greatest_give gap_shrink doc.style)
  goal_low t k =
      let all = skips_to gap_shrink shrink_part (segment it k) doc.style.classes ranges.classes_in.each in
      lower (room it) (areas_give gap_shrink it) (notes doc.style (segment it k))
      (skips_give gap_shrink doc.style (segment it k)) _ (greatest_areas gap_shrink doc.style)
      (greatest_skips gap_shrink doc.style) room_low (areas_low t)
      (smallest_up doc.style.classes (segment it k) ranges.classes_in.each
      (trimmed_all IsItemInRange (take k (items_of it)) (all_take IsItemInRange k (items_of it)
      (all_items IsItemInRange (flat_items_of it) (at_ranges doc.blocks m.column.from m.column.picks blocks)))))
      all.0 all.1
    where
      lower : (r a n s g b c : ℤ) → r ≤ℤ g → a ≤ℤ b → s ≤ℤ n → pos 0 ≤ℤ s → s ≤ℤ c →
          ((r +ℤ a) -ℤ (n -ℤ s)) ≤ℤ (g +ℤ (b +ℤ c))
      lower r a n s g b c i j k l m = omega (arith, ints)

  pub reaches_next : is_text it ≡ true → Reaches doc m.column.from m.column.to
  reaches_next t = by (size_of it) refl f.stands.rules.fits
    where
      passed : (n : ℕ) → size_of it ≡ Some n → passes_breaks it ≡ true →
          passes_between (items_of it) (text_is_over it) n ≡ true
      passed n e h = at_text (is_text it) t
          (subst (λ (o : Option ℕ). (not (is_text it)
          || option_map_or (passes_between (items_of it) (text_is_over it)) o false) ≡ true) e h)
        where
          at_text : (b : Bool) → b ≡ true →
              (not b || passes_between (items_of it) (text_is_over it) n) ≡ true →
              passes_between (items_of it) (text_is_over it) n ≡ true
          at_text true e h = h
          at_text false e h = absurd cc

      by : (o : Option ℕ) → o ≡ size_of it →
          option_map_or (λ n. (fronts (flat_items_of it) n == length m.column.picks)
          && (length (column_variants it) == length m.column.picks)) o false ≡ true →
          Reaches doc m.column.from m.column.to
      by None e h = absurd cc
      by (Some n) e h = record {
        picks = m.column.picks;
        size = n;
        leads = sym e;
        picked = h;
        passes = passes_lower (items_of it) (text_is_over it) (is_over_at_most doc.style (items_of it)) n
            (λ k. over_lower (text_total it k) (shrink (segment it k)) (tallest_goal it k) _ (goal_low t k))
            (passed n (sym e) f.stands.rules.passes);
      }
