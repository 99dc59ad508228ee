-- A float that is higher than every column forbids every pagination.
use Rattle.std.proofs.Common.{◌≡◌, sym, ap, subst, ◌∙◌, ◌⊎◌, inl, inr, ℕ, ◌+◌, ◌<◌, ◌≤◌, List, [], ◌∷◌, ◌++◌, length, take, drop, true, false, Bool, Option, Some, None, arith}
use Rattle.std.specs.Prelude.{◌==◌, ◌&&◌, nat_lt, if◌then◌else◌, slice_get, ℤ, pos, ◌+ℤ◌, ◌-ℤ◌, ◌≤ℤ◌, ◌<ℤ◌, is_some, unwrap_or}
use Rattle.std.specs.List.{range_with_len, sum_by}
use Rattle.std.specs.Option.{option_map_or}
use Rattle.std.proofs.Math.Seq.{take-length}
use Rattle.std.proofs.lemmas.Bool.{eqb-true}
use Rattle.std.proofs.lemmas.Int.{ints}
use Rattle.std.proofs.lemmas.List.{length-map}
use Rattle.std.proofs.lemmas.Option.{slice_get_within}
use Rattle.pg_lemmas.proofs.Bools.{both_of, by_bool, if_false, if_true, or_cases}
use Rattle.pg_lemmas.proofs.Lists.{some_is}
use Rattle.pg_lemmas.proofs.Numbers.{less_of}
use Rattle.pg_list.specs.Flat.{flat}
use Rattle.pg_list.specs.GalleyValue.{GalleyValue}
use Rattle.pg_plan.specs.Order.{columns}
use Rattle.pg_plan.specs.declared.pages.PageMove.{PageMove}
use Rattle.pg_style.specs.Values.{StyleValue}
use Rattle.pg_style.specs.declared.style.Run.{Run}
use Rattle.pg_rules.specs.ColumnRules.{has_dealable, is_idle}
use Rattle.pg_rules.specs.Floats.{dealt, entry, float_count, float_numbers, floats, has_all, is_area_allowed, plus_counts, sizes_of, takes_wide, total_count}
use Rattle.pg_rules.specs.History.{context, made_wide, next_column, placed_of, wide_of, with_wide}
use Rattle.pg_rules.specs.Legal.{document}
use Rattle.pg_rules.specs.Ranges.{AreInRange}
use Rattle.pg_rules.specs.Room.{ColumnContext, Document, before_bottom, bottom_height, checked_height, full_height, is_bottom_allowed, is_text, is_top_allowed, room, top_height, wide_height}
use Rattle.law_places.proofs.Among.{Among, among_cases}
use Rattle.law_places.proofs.Members.{contains_among}
use Rattle.law_places.proofs.Tests.{le_int}
use Rattle.law_columns.specs.BeginningLaws.{KeepsRules}
use Rattle.law_columns.specs.Stands.{Stand, StandsAfter}
use Rattle.law_columns.proofs.Areas.{dealt_range, floats_range}
use Rattle.law_columns.proofs.BeginningContracts.{unbroken_keep_rules}
use Rattle.law_texts.specs.Texts.{column_floats, dealt_floats, next_floats}
use Rattle.law_texts.proofs.Once.{all_dealt, dealt_take}
use Rattle.pg_alone.specs.Alone.{HighFloatsForbid, is_above_all}
use Rattle.pg_alone.proofs.Runs.{above_run}
use Rattle.pg_alone.proofs.Dealt.{dealt_has, no_count, none_taken, not_zero, some_count, some_dealt, sum_has}
use Rattle.pg_alone.proofs.Heights.{AreSizes, among_low, checked_above, checked_low}

-- ---- sums of heights

in_text : (full wide top bottom least z : ℤ) → pos 0 ≤ℤ least → least ≤ℤ (((full -ℤ wide) -ℤ top) -ℤ bottom) →
    pos 0 ≤ℤ wide → pos 0 ≤ℤ top → pos 0 ≤ℤ bottom → (z ≤ℤ wide) ⊎ ((z ≤ℤ top) ⊎ (z ≤ℤ bottom)) → z ≤ℤ full
in_text full wide top bottom least z a b c d e (inl h) = omega (arith, ints)
in_text full wide top bottom least z a b c d e (inr (inl h)) = omega (arith, ints)
in_text full wide top bottom least z a b c d e (inr (inr h)) = omega (arith, ints)

less_gap : (z gap height : ℤ) → pos 0 ≤ℤ gap → (z +ℤ gap) ≤ℤ height → z ≤ℤ height
less_gap z gap height a h = omega (arith, ints)

below : (y gap height : ℤ) → pos 0 ≤ℤ y → (y +ℤ gap) ≤ℤ height → gap ≤ℤ height
below y gap height a h = omega (arith, ints)

wide_alone : (full wide top gap z : ℤ) → ((wide +ℤ top) -ℤ gap) ≤ℤ full → pos 0 ≤ℤ top → (z +ℤ gap) ≤ℤ wide → z ≤ℤ full
wide_alone full wide top gap z r a h = omega (arith, ints)

wide_above : (full wide top gap skip z : ℤ) → ((wide +ℤ top) -ℤ skip) ≤ℤ full → pos 0 ≤ℤ gap → skip ≤ℤ top →
    (z +ℤ gap) ≤ℤ wide → z ≤ℤ full
wide_above full wide top gap skip z r a b h = omega (arith, ints)

top_alone : (full wide top gap z : ℤ) → ((wide +ℤ top) -ℤ gap) ≤ℤ full → pos 0 ≤ℤ wide → (z +ℤ gap) ≤ℤ top → z ≤ℤ full
top_alone full wide top gap z r a h = omega (arith, ints)

too_high : (height extra z : ℤ) → (height +ℤ extra) <ℤ z → z ≤ℤ (height +ℤ extra) → ⊥
too_high height extra z a h = omega (arith, ints)

module _ (g : GalleyValue) (s : StyleValue) (range : AreInRange g s) where
  abbrev doc : Document
  doc = document g s

  abbrev lists : List (List ℤ)
  lists = floats g.blocks s

  in_range : AreSizes lists
  in_range = floats_range g.blocks (float_numbers s) range.blocks

  lists_long : length lists ≡ length (float_numbers s)
  lists_long = length-map (float_numbers s) (λ (number : ℕ). sizes_of number (flat g.blocks []))

  -- ---- wide areas

  made_low : (placed counts : List ℕ) → pos 0 ≤ℤ unwrap_or (made_wide doc placed counts) (pos 0)
  made_low placed counts = by (nat_lt 0 (float_count s counts))
    where
      height : ℤ
      height = checked_height lists (is_area_allowed s takes_wide s.wide.count counts) s.wide placed counts

      low : pos 0 ≤ℤ checked_height lists (is_area_allowed s takes_wide s.wide.count counts) s.wide placed counts
      low = checked_low lists (is_area_allowed s takes_wide s.wide.count counts) s.wide placed counts in_range
          range.style_in.wide_in

      by : (b : Bool) → pos 0 ≤ℤ unwrap_or (if b then Some (checked_height lists
          (is_area_allowed s takes_wide s.wide.count counts) s.wide placed counts) else None) (pos 0)
      by true = low
      by false = omega (arith, ints)

  wide_low : (ms : List PageMove) → pos 0 ≤ℤ unwrap_or (wide_of doc ms) (pos 0)
  wide_low [] = omega (arith, ints)
  wide_low (m ∷ ms) = by (next_column s ms == 1) (wide_low ms)
    where
      by : (b : Bool) → pos 0 ≤ℤ unwrap_or (wide_of doc ms) (pos 0) → pos 0 ≤ℤ unwrap_or (if b then made_wide doc (placed_of s ms) m.wide else wide_of doc ms) (pos 0)
      by true low = made_low (placed_of s ms) m.wide
      by false low = low

  -- ---- a float in a column

  module _ (slot : ℕ) (own : List ℤ) (within : slot < length (float_numbers s)) (at : slice_get lists slot ≡ Some own)
      (z : ℤ) where
    abbrev InArea : List ℕ → List ℕ → Type 0
    InArea before counts = Among z (next_floats own slot before counts)

    in_dealt : (before counts : List ℕ) → InArea before counts → Among z (dealt lists before counts)
    in_dealt before counts a =
        let i : 0 + slot ≡ slot = omega arith in
        dealt_has lists 0 slot own before counts z at
        (subst (λ (n : ℕ). Among z (take (entry counts n) (drop (entry before n) own))) (sym i) a)

    some_float : (before counts : List ℕ) → InArea before counts → 0 < float_count s counts
    some_float before counts a =
        let i : 0 + slot ≡ slot = omega arith in
        let n : 0 < entry counts slot = some_count (entry counts slot) (drop (entry before slot) own) z a in
        let p : entry counts (0 + slot) ≤ sum_by (entry counts) (range_with_len 0 (length (float_numbers s))) =
        sum_has (entry counts) (length (float_numbers s)) 0 slot within in
        let q : entry counts slot ≤ sum_by (entry counts) (range_with_len 0 (length (float_numbers s))) =
        subst (λ (k : ℕ). entry counts k ≤ sum_by (entry counts) (range_with_len 0 (length (float_numbers s)))) i p in
        omega arith

    module _ (m : PageMove) (ms : List PageMove) (stands : StandsAfter doc m ms) where
      abbrev it : ColumnContext
      it = context doc m ms

      abbrev placed : List ℕ
      placed = placed_of s ms

      deals : (has_all lists placed m.wide ≡ true) × (has_dealable it ≡ true)
      deals = both_of (has_all lists placed m.wide) (has_dealable it) stands.stands.deals

      dealable : (has_all lists it.before it.column.top ≡ true) × (has_all lists (before_bottom it) it.column.bottom ≡ true)
      dealable = both_of (has_all lists it.before it.column.top) (has_all lists (before_bottom it) it.column.bottom) deals.1

      bottom_allowed : is_bottom_allowed it ≡ true
      bottom_allowed = (both_of _ (is_bottom_allowed it) stands.stands.rules.counts).1

      top_allowed : is_top_allowed it ≡ true
      top_allowed = (both_of _ (is_top_allowed it) (both_of _ (is_bottom_allowed it) stands.stands.rules.counts).0).1

      top_low : pos 0 ≤ℤ top_height it
      top_low = checked_low lists (is_top_allowed it) s.top it.before it.column.top in_range range.style_in.top_in

      bottom_low : pos 0 ≤ℤ bottom_height it
      bottom_low =
          checked_low lists (is_bottom_allowed it) s.bottom (before_bottom it) it.column.bottom in_range
          range.style_in.bottom_in

      in_top : InArea (with_wide s placed m) m.column.top → (z +ℤ s.top.gap.size) ≤ℤ top_height it
      in_top a = checked_above lists (is_top_allowed it) s.top it.before it.column.top z in_range range.style_in.top_in
          top_allowed dealable.0 (in_dealt it.before it.column.top a)

      in_bottom : InArea (plus_counts s (with_wide s placed m) m.column.top) m.column.bottom →
          (z +ℤ s.bottom.gap.size) ≤ℤ bottom_height it
      in_bottom a = checked_above lists (is_bottom_allowed it) s.bottom (before_bottom it) it.column.bottom z in_range
          range.style_in.bottom_in bottom_allowed dealable.1 (in_dealt (before_bottom it) it.column.bottom a)

      in_wide : InArea placed m.wide → (z +ℤ s.wide.gap.size) ≤ℤ wide_height it
      in_wide a = by_bool (next_column s ms == 1) first later
        where
          counts : (if next_column s ms == 1 then is_area_allowed s takes_wide s.wide.count m.wide
              else total_count m.wide == 0) ≡ true
          counts = (both_of (length m.wide == length (float_numbers s)) _ stands.stands.wide).1

          first : (next_column s ms == 1) ≡ true → (z +ℤ s.wide.gap.size) ≤ℤ wide_height it
          first is_it =
              let allowed : is_area_allowed s takes_wide s.wide.count m.wide ≡ true =
              sym (if_true (next_column s ms == 1) _ _ is_it) ∙ counts in
              let some : nat_lt 0 (float_count s m.wide) ≡ true = less_of 0 (float_count s m.wide) (some_float placed m.wide a) in
              let made : wide_of doc (m ∷ ms) ≡ Some (checked_height lists
              (is_area_allowed s takes_wide s.wide.count m.wide) s.wide placed m.wide) =
              if_true (next_column s ms == 1) _ _ is_it ∙ if_true (nat_lt 0 (float_count s m.wide)) _ _ some in
              subst (λ (h : Option ℤ). (z +ℤ s.wide.gap.size) ≤ℤ unwrap_or h (pos 0)) (sym made)
              (checked_above lists (is_area_allowed s takes_wide s.wide.count m.wide) s.wide placed m.wide z in_range
              range.style_in.wide_in allowed deals.0 (in_dealt placed m.wide a))

          later : (next_column s ms == 1) ≡ false → (z +ℤ s.wide.gap.size) ≤ℤ wide_height it
          later no_first =
              let none : (total_count m.wide == 0) ≡ true = sym (if_false (next_column s ms == 1) _ _ no_first) ∙ counts in
              absurd (none_taken (entry m.wide slot) (drop (entry placed slot) own) z
              (no_count m.wide slot (eqb-true (total_count m.wide) 0 none)) a)

      -- with text
      text_high : (z ≤ℤ wide_height it) ⊎ ((z ≤ℤ top_height it) ⊎ (z ≤ℤ bottom_height it)) → is_text it ≡ true →
          z ≤ℤ full_height it
      text_high where_it text = in_text (full_height it) (wide_height it) (top_height it) (bottom_height it) s.min_text z
          range.style_in.min_text_in.0
          (le_int s.min_text (room it) (sym (if_true (is_text it) _ _ text) ∙ stands.stands.rules.room))
          (wide_low (m ∷ ms)) top_low bottom_low where_it

      -- without text
      float_room : is_text it ≡ false → ((wide_height it +ℤ top_height it)
          -ℤ (if float_count s it.column.top == 0 then s.wide.gap.size else s.top.gap.size)) ≤ℤ full_height it
      float_room bare = le_int _ (full_height it) (sym (if_false (is_text it) _ _ bare) ∙ stands.stands.rules.room)

      bare_bottom : is_text it ≡ false → float_count s it.column.bottom ≡ 0
      bare_bottom bare =
          let f = both_of (length it.column.picks == 0) _ (sym (if_false (is_text it) _ _ bare) ∙ stands.stands.rules.well_formed) in
          elim (or_cases (nat_lt 0 (float_count s it.column.top) && (float_count s it.column.bottom == 0)) (is_idle it) f.1) [
            | inl h ↦ eqb-true (float_count s it.column.bottom) 0
                (both_of (nat_lt 0 (float_count s it.column.top)) (float_count s it.column.bottom == 0) h).1
            | inr h ↦ eqb-true (float_count s it.column.bottom) 0
                (both_of (float_count s it.column.top == 0) (float_count s it.column.bottom == 0)
                (both_of _ (is_some it.wide) h).0).1
          ]

      -- a top area with floats is no lower than its gap
      gap_fits : (float_count s it.column.top == 0) ≡ false → s.top.gap.size ≤ℤ top_height it
      gap_fits some =
          let more : 0 < float_count s it.column.top = not_zero (float_count s it.column.top) some in
          let one = some_dealt lists 0 it.before it.column.top dealable.0
          (subst (λ (n : ℕ). 0 < sum_by (entry it.column.top) (range_with_len 0 n)) (sym lists_long) more) in
          below one.0 s.top.gap.size (top_height it)
          (among_low (dealt lists it.before it.column.top) one.0 (dealt_range 0 lists it.before it.column.top in_range) one.1)
          (checked_above lists (is_top_allowed it) s.top it.before it.column.top one.0 in_range range.style_in.top_in
          top_allowed dealable.0 one.1)

      bare_wide : InArea placed m.wide → is_text it ≡ false → z ≤ℤ full_height it
      bare_wide a bare = by_bool (float_count s it.column.top == 0)
          (λ none. wide_alone (full_height it) (wide_height it) (top_height it) s.wide.gap.size z
          (subst (λ (gap : ℤ). ((wide_height it +ℤ top_height it) -ℤ gap) ≤ℤ full_height it)
          (if_true (float_count s it.column.top == 0) _ _ none) (float_room bare)) top_low (in_wide a))
          (λ some. wide_above (full_height it) (wide_height it) (top_height it) s.wide.gap.size s.top.gap.size z
          (subst (λ (gap : ℤ). ((wide_height it +ℤ top_height it) -ℤ gap) ≤ℤ full_height it)
          (if_false (float_count s it.column.top == 0) _ _ some) (float_room bare)) range.style_in.wide_in.gap_in.size_in.0
          (gap_fits some) (in_wide a))

      bare_top : InArea (with_wide s placed m) m.column.top → is_text it ≡ false → z ≤ℤ full_height it
      bare_top a bare =
          let more : 0 < float_count s it.column.top = some_float (with_wide s placed m) m.column.top a in
          let some : (float_count s it.column.top == 0) ≡ false =
          by_bool (float_count s it.column.top == 0)
          (λ is. absurd (let none : float_count s it.column.top ≡ 0 = eqb-true (float_count s it.column.top) 0 is in omega arith))
          (λ off. off) in
          top_alone (full_height it) (wide_height it) (top_height it) s.top.gap.size z
          (subst (λ (gap : ℤ). ((wide_height it +ℤ top_height it) -ℤ gap) ≤ℤ full_height it)
          (if_false (float_count s it.column.top == 0) _ _ some) (float_room bare)) (wide_low (m ∷ ms)) (in_top a)

      -- a float that the column deals out is no higher than the column
      column_high : Among z (column_floats s own slot placed m) → z ≤ℤ full_height it
      column_high a = by_bool (is_text it) text bare
        where
          text : is_text it ≡ true → z ≤ℤ full_height it
          text is = elim (among_cases z (next_floats own slot placed m.wide)
              (next_floats own slot (with_wide s placed m) m.column.top
              ++ next_floats own slot (plus_counts s (with_wide s placed m) m.column.top) m.column.bottom) a) [
                | inl h ↦ text_high (inl (less_gap z s.wide.gap.size (wide_height it) range.style_in.wide_in.gap_in.size_in.0 (in_wide h))) is
                | inr h ↦ elim (among_cases z (next_floats own slot (with_wide s placed m) m.column.top)
                    (next_floats own slot (plus_counts s (with_wide s placed m) m.column.top) m.column.bottom) h) [
                      | inl i ↦ text_high
                          (inr (inl (less_gap z s.top.gap.size (top_height it) range.style_in.top_in.gap_in.size_in.0 (in_top i)))) is
                      | inr i ↦ text_high
                          (inr (inr (less_gap z s.bottom.gap.size (bottom_height it) range.style_in.bottom_in.gap_in.size_in.0 (in_bottom i)))) is
                    ]
              ]

          bare : is_text it ≡ false → z ≤ℤ full_height it
          bare is = elim (among_cases z (next_floats own slot placed m.wide)
              (next_floats own slot (with_wide s placed m) m.column.top
              ++ next_floats own slot (plus_counts s (with_wide s placed m) m.column.top) m.column.bottom) a) [
                | inl h ↦ bare_wide h is
                | inr h ↦ elim (among_cases z (next_floats own slot (with_wide s placed m) m.column.top)
                    (next_floats own slot (plus_counts s (with_wide s placed m) m.column.top) m.column.bottom) h) [
                      | inl i ↦ bare_top i is
                      | inr i ↦ absurd (let some : 0 < float_count s it.column.bottom =
                          some_float (plus_counts s (with_wide s placed m) m.column.top) m.column.bottom i in
                          let none : float_count s it.column.bottom ≡ 0 = bare_bottom is in omega arith)
                    ]
              ]

      -- so it is not above all columns
      not_above : is_above_all s z ≡ true → Among z (column_floats s own slot placed m) → ⊥
      not_above above a =
          let r = some_is (slice_get s.runs m.run)
          (both_of (is_some (slice_get s.runs m.run)) _ stands.stands.takes_run).0 in
          too_high s.height r.0.extra z (above_run s z above m.run r.0 r.1)
          (subst (λ (found : Option Run). z ≤ℤ (s.height +ℤ option_map_or (λ (one : Run). one.extra) found (pos 0))) r.1
          (column_high a))

    none_deals : is_above_all s z ≡ true → (ms : List PageMove) → Stand doc ms → Among z (dealt_floats s own slot ms) → ⊥
    none_deals above [] stand a = a
    none_deals above (m ∷ ms) (here, rest) a =
        elim (among_cases z (dealt_floats s own slot ms) (column_floats s own slot (placed_of s ms) m) a) [
          | inl h ↦ none_deals above ms rest h
          | inr h ↦ not_above m ms here above h
        ]

  pub high_forbid : HighFloatsForbid g s
  high_forbid slot size plan has above legal =
      let k : KeepsRules g s plan = (unbroken_keep_rules g s range plan).0 legal.unbroken in
      let ms : List PageMove = columns plan in
      let inside : slot < length lists = slice_get_within lists slot has.sizes has.at in
      let within : slot < length (float_numbers s) = subst (λ (n : ℕ). slot < n) lists_long inside in
      let i : 0 + slot ≡ slot = omega arith in
      let all : entry (placed_of s (columns plan)) slot ≡ length has.sizes =
      ap (entry (placed_of s (columns plan))) (sym i)
      ∙ all_dealt (placed_of s (columns plan)) 0 lists slot has.sizes k.dealt has.at in
      let dealt_is : dealt_floats s has.sizes slot (columns plan) ≡ has.sizes =
      dealt_take s has.sizes slot within (columns plan)
      ∙ (ap (λ (n : ℕ). take n has.sizes) all ∙ take-length has.sizes) in
      none_deals slot has.sizes within has.at size above (columns plan) k.stand
      (subst (λ (xs : List ℤ). Among size xs) (sym dealt_is) (contains_among has.sizes size has.has))
