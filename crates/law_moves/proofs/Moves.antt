-- The steps that are listed are the moves of a state.
use Rattle.std.proofs.Common.{◌≡◌, ◌≢◌, refl, sym, ap, subst, ◌∙◌, ℕ, zero, suc, ◌+◌, ◌≤◌, ◌<◌, inl, inr, List, [], ◌∷◌, map, length, Bool, true, false, Option, Some, None, arith}
use Rattle.std.specs.Prelude.{◌==◌, ◌&&◌, ◌||◌, not, nat_le, nat_lt, if◌then◌else◌, is_some, slice_get, unsigned_abs, unwrap_or, ℤ, pos, ◌+ℤ◌, ◌-ℤ◌}
use Rattle.std.specs.List.{AllByRecursion, filter, list_all}
use Rattle.std.specs.Option.{option_map_or}
use Rattle.std.specs.declared.cmp.Ordering.TheVariants.{Equal}
use Rattle.std.proofs.lemmas.Cmp.{tied_itself}
use Rattle.std.proofs.lemmas.Int.{ints}
use Rattle.std.proofs.lemmas.Option.{slice_get_within}
use Rattle.pg_list.specs.declared.galley.Place.{Place}
use Rattle.pg_list.specs.declared.variants.Variant.{Variant}
use Rattle.pg_list.specs.Shapes.{IsBlock}
use Rattle.pg_plan.specs.declared.pages.PageMove.{PageMove}
use Rattle.pg_plan.specs.declared.states.State.{State}
use Rattle.pg_plan.specs.Order.{place_cmp}
use Rattle.pg_style.specs.Values.{AreaRuleValue}
use Rattle.pg_style.specs.declared.style.Gap.{Gap}
use Rattle.pg_style.specs.declared.style.Run.{Run}
use Rattle.pg_list.specs.Flat.{flat, fronts, is_same_place, items_before}
use Rattle.pg_list.specs.Whole.{whole_sum_by}
use Rattle.pg_rules.specs.BestPicks.{keeps_text}
use Rattle.pg_rules.specs.ColumnRules.{column_variants, does_fit, has_counts, has_room, is_tolerable, is_well_formed, keeps_looseness, keeps_note_limits, passes_breaks, text_fitness}
use Rattle.pg_rules.specs.Cost.{column_cost, column_demerits, differs, fitness_demerits, pick_demerits, text_demerits}
use Rattle.pg_rules.specs.Floats.{area_give, area_height, called, dealt, entry, float_count, float_numbers, floats, gap_shrink, gap_stretch, has_all, is_area_allowed, plus_counts, sizes_of, takes_in_column, takes_wide, total_count}
use Rattle.pg_rules.specs.Follow.{Follow, KeepsColumnRules, MayStand, age_in, context_in, may_turn, next_state, wide_in}
use Rattle.pg_rules.specs.History.{column_fitness, fitness_after, made_wide, placed_after}
use Rattle.pg_rules.specs.IsState.{IsState}
use Rattle.pg_rules.specs.Legal.{added, has_callouts, has_run, has_wide_counts, keeps_barriers}
use Rattle.pg_rules.specs.Room.{ColumnContext, Document, areas_give, bottom_height, checked_give, checked_height, flat_items_of, full_height, is_bottom_allowed, is_text, is_top_allowed, room, size_of, top_height}
use Rattle.pg_table.specs.Space.{AreMoves}
use Rattle.pg_table.specs.declared.step.Step.{Step}
use Rattle.law_places.proofs.Among.{Among, among_left, among_right}
use Rattle.pg_lemmas.proofs.Bools.{both, both_of, by_bool, if_false, if_true, not_false, not_true, or_left}
use Rattle.law_places.proofs.Callouts.{called_total}
use Rattle.law_places.proofs.Tests.{place_refl}
use Rattle.pg_list.proofs.Places.{same_place}
use Rattle.pg_lemmas.proofs.Lists.{no_items}
use Rattle.pg_lemmas.proofs.Numbers.{eq_refl, less_of}
use Rattle.std.proofs.lemmas.Bool.{eqb-true}
use Rattle.law_columns.proofs.Waiting.{entry_plus}
use Rattle.law_columns.proofs.BoundCounts.{float_total}
use Rattle.law_columns.proofs.Order.{place_total}
use Rattle.law_space.specs.PageSpace.{FollowBest, page_meaning}
use Rattle.law_space.proofs.Least.{best_unique}
use Rattle.pg_column.specs.declared.cost.TextRoom.{TextRoom}
use Rattle.pg_column.specs.declared.end.End.{End}
use Rattle.pg_column.specs.Ends.{AreEnds, HasEnd, IsBefore, IsColumnIn, IsEndOf}
use Rattle.pg_layouts.specs.declared.layout.Layout.{Layout}
use Rattle.pg_layouts.specs.Layouts.{float_layouts, layout_of, move_of, takes_run, text_layouts, zeros}
use Rattle.law_moves.specs.Listed.{flushes_all, may_begin}
use Rattle.law_moves.specs.Steps.{IsCeiling, area_of, fitness_cost, float_counts, float_step, float_steps, kept_fitness, may_end, may_stay, move_to, page_cost, stay, steps_of, steps_with, text_give, text_room, text_size, text_step, text_steps, wide_of}
use Rattle.law_places.proofs.Members.{among_append, among_contains, contains_among, in_filter, in_flat, in_map, of_filter, of_flat, of_map}
use Rattle.law_places.proofs.Pairs.{Pairs, all_pairs, pairs_all, pairs_append, pairs_filter, pairs_flat, pairs_map, pairs_weaker}
use Rattle.pg_layouts.proofs.Areas.{zeros_allowed, zeros_are, zeros_entry, zeros_total, slots_long}
use Rattle.law_moves.proofs.Callouts.{after_is, callouts_bound, bound_callouts, has_below}
use Rattle.law_moves.proofs.Layouts.{AreWide, IsFloatLayout, IsRunFor, IsTextLayout, float_layouts_apart, in_float_layouts, in_text_layouts, of_float_layouts, of_text_layouts, text_layouts_apart}
use Rattle.law_space.proofs.ReachAt.{none_named, own_steps}

-- ---- tests

pub some_within : (runs : List Run) (i : ℕ) → is_some (slice_get runs i) ≡ true → i < length runs
some_within runs i h = by (slice_get runs i) refl h
  where
    by : (o : Option Run) → slice_get runs i ≡ o → is_some o ≡ true → i < length runs
    by None e h = absurd cc
    by (Some run) e h = slice_get_within runs i run e

within_some : (runs : List Run) (i : ℕ) → i < length runs → is_some (slice_get runs i) ≡ true
within_some [] i h = absurd (omega arith)
within_some (run ∷ runs) zero h = refl
within_some (run ∷ runs) (suc i) h = within_some runs i (omega arith)

-- ---- the rules on one column

pub rules_keep : (it : ColumnContext) → KeepsColumnRules it → keeps_text it ≡ true
rules_keep it k = both (does_fit it) _ k.fits
    (both (is_well_formed it) _ k.well_formed
    (both (is_tolerable it) _ k.tolerable
    (both (passes_breaks it) _ k.passes
    (both (has_room it) _ k.room (both (keeps_note_limits it) (keeps_looseness it) k.note_limits
    k.looseness)))))

pub keep_rules : (it : ColumnContext) → keeps_text it ≡ true → has_counts it ≡ true → KeepsColumnRules it
keep_rules it k counts =
    let a = both_of (does_fit it) _ k in
    let b = both_of (is_well_formed it) _ a.1 in
    let c = both_of (is_tolerable it) _ b.1 in
    let d = both_of (passes_breaks it) _ c.1 in
    let e = both_of (has_room it) _ d.1 in
    let f = both_of (keeps_note_limits it) (keeps_looseness it) e.1 in
    record {
      fits = a.0;
      well_formed = b.0;
      tolerable = c.0;
      passes = d.0;
      room = e.0;
      counts = counts;
      note_limits = f.0;
      looseness = f.1;
    }

pub same_step : (u v : State) (m n : PageMove) (c d : ℤ) → u ≡ v → m ≡ n → c ≡ d →
    ◌≡◌ {A = Step State PageMove} (record { to = u; by = m; cost = c }) (record { to = v; by = n; cost = d })
same_step u v m n c d p q r = cc

pub checked_is : (sizes : List (List ℤ)) (allowed : Bool) (rule : AreaRuleValue) (before counts : List ℕ) →
    allowed ≡ true → has_all sizes before counts ≡ true →
    checked_height sizes allowed rule before counts ≡ area_height rule (dealt sizes before counts)
checked_is sizes allowed rule before counts a h = if_true (allowed && has_all sizes before counts) _ _
    (both allowed (has_all sizes before counts) a h)

-- the same of what its gaps give
pub checked_give_is : (part : Gap → ℤ) (sizes : List (List ℤ)) (allowed : Bool) (rule : AreaRuleValue)
    (before counts : List ℕ) → allowed ≡ true → has_all sizes before counts ≡ true →
    checked_give part sizes allowed rule before counts ≡ area_give part rule (length (dealt sizes before counts))
checked_give_is part sizes allowed rule before counts a h = if_true (allowed && has_all sizes before counts) _ _
    (both allowed (has_all sizes before counts) a h)

pub same_give : (a a' b b' : ℤ) → a ≡ a' → b ≡ b' → a +ℤ b ≡ a' +ℤ b'
same_give a a' b b' p q = cc

whole_room : (s s' a a' b b' : ℤ) → s ≡ s' → a ≡ a' → b ≡ b' →
    ◌≡◌ {A = TextRoom} (record { size = s; give = record { stretch = a; shrink = b } })
    (record { size = s'; give = record { stretch = a'; shrink = b' } })
whole_room s s' a a' b b' p q r = cc

same_room : (f : ℤ) (w w' : Option ℤ) (t t' b b' : ℤ) → w ≡ w' → t ≡ t' → b ≡ b' →
    (((f -ℤ unwrap_or w (pos 0)) -ℤ t) -ℤ b) ≡ (((f -ℤ unwrap_or w' (pos 0)) -ℤ t') -ℤ b')
same_room f w w' t t' b b' p q r = cc

sum_is : (d d' k k' p f f' : ℤ) → d ≡ d' → k ≡ k' → f ≡ f' → (d +ℤ k) +ℤ (p +ℤ f) ≡ (d' +ℤ k') +ℤ (p +ℤ f')
sum_is d d' k k' p f f' i j l = cc

same_move : (at from to : Place) (top bottom picks wide : List ℕ) (run : ℕ) → from ≡ at →
    ◌≡◌ {A = PageMove} (record {
      column = record { from = from; to = to; top = top; bottom = bottom; picks = picks };
      run = run;
      wide = wide;
    }) (record {
      column = record { from = at; to = to; top = top; bottom = bottom; picks = picks };
      run = run;
      wide = wide;
    })
same_move at from to top bottom picks wide run p = cc

pub which : {X : Type 0} (b : Bool) (x y z : X) → (b ≡ true → x ≡ y) → (if b then x else z) ≡ (if b then y else z)
which true x y z h = h refl
which false x y z h = refl

abbrev laid : PageMove → Layout
laid m = layout_of m.run m.wide m.column.top m.column.bottom

module _ (doc : Document) (u : State) (blocks_in : AllByRecursion IsBlock doc.blocks) (own : IsState doc u) where
  abbrev slots_of : ℕ
  slots_of = length (float_numbers doc.style)

  -- ---- what any layout gives

  -- the wide area's height is that of its floats
  pub wide_is : (m : PageMove) (ceiling : List ℕ) → AreWide doc u ceiling m.wide →
      has_all (floats doc.blocks doc.style) u.placed m.wide ≡ true → wide_in doc u m ≡ wide_of doc u m.wide
  wide_is m ceiling w all = which (u.column == 1) (made_wide doc u.placed m.wide)
      (if nat_lt 0 (total_count m.wide) then Some (area_of doc doc.style.wide u.placed m.wide) else None) u.wide made
    where
      height : (u.column == 1) ≡ true → checked_height (floats doc.blocks doc.style)
          (is_area_allowed doc.style takes_wide doc.style.wide.count m.wide) doc.style.wide u.placed m.wide
          ≡ area_of doc doc.style.wide u.placed m.wide
      height t = checked_is (floats doc.blocks doc.style) _ doc.style.wide u.placed m.wide
          (sym (if_true (u.column == 1) _ _ t) ∙ w.counts) all

      made : (u.column == 1) ≡ true →
          (if nat_lt 0 (float_count doc.style m.wide) then Some (checked_height (floats doc.blocks doc.style)
          (is_area_allowed doc.style takes_wide doc.style.wide.count m.wide) doc.style.wide u.placed m.wide)
          else None)
          ≡ (if nat_lt 0 (total_count m.wide) then Some (area_of doc doc.style.wide u.placed m.wide) else None)
      made t = ap (λ (n : ℕ). if nat_lt 0 n then Some (checked_height (floats doc.blocks doc.style)
          (is_area_allowed doc.style takes_wide doc.style.wide.count m.wide) doc.style.wide u.placed m.wide)
          else None) (float_total doc.style m.wide w.long)
          ∙ ap (λ (z : ℤ). if nat_lt 0 (total_count m.wide) then Some z else None) (height t)

  wide_counts : (m : PageMove) (ceiling : List ℕ) → AreWide doc u ceiling m.wide →
      has_wide_counts doc u.column m ≡ true
  wide_counts m ceiling w = both (length m.wide == slots_of) _
      (subst (λ (n : ℕ). (n == slots_of) ≡ true) (sym w.long) (eq_refl slots_of)) w.counts

  run_is : (m : PageMove) → IsRunFor doc.style u.run m.run → has_run doc.style u.run m ≡ true
  run_is m r = both (is_some (slice_get doc.style.runs m.run)) _ (within_some doc.style.runs m.run r.within) r.taken

  is_run : (m : PageMove) → has_run doc.style u.run m ≡ true → IsRunFor doc.style u.run m.run
  is_run m h =
      let r = both_of (is_some (slice_get doc.style.runs m.run)) (takes_run u.run m.run) h in
      record { within = some_within doc.style.runs m.run r.0; taken = r.1 }

  -- ---- columns of text

  module _ (ceiling : List ℕ) (is_ceiling : IsCeiling doc u ceiling) (ends : Layout → List End)
      (are : (layout : Layout) → Among layout (text_layouts doc u ceiling) →
      AreEnds doc u.place (text_room doc u layout) (ends layout)) where
    module _ (layout : Layout) (listed : Among layout (text_layouts doc u ceiling)) where
      pub is : IsTextLayout doc u ceiling layout
      is = of_text_layouts doc u ceiling layout listed

      pub wide_there : has_all (floats doc.blocks doc.style) u.placed layout.wide ≡ true
      wide_there = has_below doc u.placed layout.wide ceiling is_ceiling.there is.wide.below

      top_there : has_all (floats doc.blocks doc.style) (plus_counts doc.style u.placed layout.wide) layout.top ≡ true
      top_there = has_below doc (plus_counts doc.style u.placed layout.wide) layout.top ceiling is_ceiling.there
          is.top.below

      bottom_there : has_all (floats doc.blocks doc.style)
          (plus_counts doc.style (plus_counts doc.style u.placed layout.wide) layout.top) layout.bottom ≡ true
      bottom_there = has_below doc (plus_counts doc.style (plus_counts doc.style u.placed layout.wide) layout.top)
          layout.bottom ceiling is_ceiling.there is.bottom.below

      module _ (to : Place) (picks : List ℕ) (away : is_same_place u.place to ≡ false) where
        abbrev m : PageMove
        m = move_of u layout to picks

        abbrev it : ColumnContext
        it = context_in doc u m

        text : is_text it ≡ true
        text = not_false (is_same_place u.place to) away

        top_allowed : is_top_allowed it ≡ true
        top_allowed = if_true (is_text it) _ _ text ∙ is.top.allowed

        bottom_allowed : is_bottom_allowed it ≡ true
        bottom_allowed = if_true (is_text it) _ _ text ∙ is.bottom.allowed

        give_is : (part : Gap → ℤ) → areas_give part it ≡ text_give part doc u layout
        give_is part = same_give _ _ _ _
            (checked_give_is part (floats doc.blocks doc.style) (is_top_allowed it) doc.style.top
            (plus_counts doc.style u.placed layout.wide) layout.top top_allowed top_there)
            (checked_give_is part (floats doc.blocks doc.style) (is_bottom_allowed it) doc.style.bottom
            (plus_counts doc.style (plus_counts doc.style u.placed layout.wide) layout.top) layout.bottom
            bottom_allowed bottom_there)

        size_is : room it ≡ text_size doc u layout
        size_is = same_room (full_height it) (wide_in doc u m) (wide_of doc u layout.wide) (top_height it)
            (area_of doc doc.style.top (plus_counts doc.style u.placed layout.wide) layout.top) (bottom_height it)
            (area_of doc doc.style.bottom
            (plus_counts doc.style (plus_counts doc.style u.placed layout.wide) layout.top) layout.bottom)
            (wide_is m ceiling is.wide wide_there)
            (checked_is (floats doc.blocks doc.style) (is_top_allowed it) doc.style.top
            (plus_counts doc.style u.placed layout.wide) layout.top top_allowed top_there)
            (checked_is (floats doc.blocks doc.style) (is_bottom_allowed it) doc.style.bottom
            (plus_counts doc.style (plus_counts doc.style u.placed layout.wide) layout.top) layout.bottom
            bottom_allowed bottom_there)

        pub column_in : IsColumnIn doc u.place (text_room doc u layout) it
        column_in = record {
          document = refl;
          starts = refl;
          room_is = whole_room _ _ _ _ _ _ size_is (give_is gap_stretch) (give_is gap_shrink);
          text = text;
        }

        long_is : (counts : List ℕ) → length counts ≡ slots_of → (length counts == slots_of) ≡ true
        long_is counts l = subst (λ (n : ℕ). (n == slots_of) ≡ true) (sym l) (eq_refl slots_of)

        counts_are : has_counts it ≡ true
        counts_are = both _ _ (both _ _ (both _ _ (long_is layout.top is.top.long)
            (long_is layout.bottom is.bottom.long)) top_allowed) bottom_allowed

        stands : keeps_text it ≡ true → has_callouts doc u.placed m ≡ true → keeps_barriers doc u.placed m ≡ true →
            MayStand doc u.column u.run u.placed m it
        stands keeps callouts barriers = record {
          takes_run = run_is m is.run;
          wide = wide_counts m ceiling is.wide;
          deals = both _ _ wide_there (both _ _ top_there bottom_there);
          callouts = callouts;
          barriers = barriers;
          rules = keep_rules it keeps counts_are;
        }

        kept_fitness_is : kept_fitness doc.style (column_fitness it) ≡ fitness_after u.fitness it
        kept_fitness_is = ap (λ (o : Option ℕ). if doc.style.version == 1 then None else o)
            (sym (if_true (is_text it) _ _ text))

        fitness_pays : fitness_cost doc.style u.fitness (column_fitness it) ≡ fitness_demerits u.fitness it
        fitness_pays = by u.fitness
          where
            by : (fitness : Option ℕ) → fitness_cost doc.style fitness (column_fitness it) ≡ fitness_demerits fitness it
            by None = refl
            by (Some last) = ap (λ (b : Bool). if b then pos doc.style.fitness else pos 0)
                (ap (λ (b : Bool). b && differs last (column_fitness it)) (sym text))

      -- ---- an end of the list

      module _ (end : End) (ended : Among end (ends layout)) (may : may_end doc u layout end ≡ true) where
        parts : (is_same_place u.place end.to ≡ false) × ((has_callouts doc u.placed (move_to u layout end) ≡ true)
            × ((keeps_barriers doc u.placed (move_to u layout end) ≡ true)
            × (may_turn doc u (move_to u layout end) ≡ true)))
        parts =
            let a = both_of (not (is_same_place u.place end.to)) _ may in
            let b = both_of (has_callouts doc u.placed (move_to u layout end)) _ a.1 in
            let c = both_of (keeps_barriers doc u.placed (move_to u layout end))
            (may_turn doc u (move_to u layout end)) b.1 in
            (not_true (is_same_place u.place end.to) a.0, (b.0, c))

        abbrev at_end : ColumnContext
        at_end = context_in doc u (move_to u layout end)

        is_end : IsEndOf at_end end
        is_end = (are layout listed).sound end at_end (among_contains (ends layout) end ended)
            (column_in end.to end.picks parts.0) refl refl

        fitness_is : column_fitness at_end ≡ end.cost.fitness
        fitness_is = ap (λ (o : Option ℕ). option_map_or (text_fitness at_end) o 2) is_end.size_is
            ∙ sym is_end.numbers.fitness

        demerits_are : column_demerits at_end ≡ end.cost.demerits
        demerits_are = if_true (is_text at_end) _ _ (text end.to end.picks parts.0)
            ∙ ap (λ (o : Option ℕ). option_map_or (text_demerits at_end) o (pos 0)) is_end.size_is
            ∙ sym is_end.numbers.demerits

        step_follows : FollowBest doc u (text_step doc u layout end).by (text_step doc u layout end).to
            (text_step doc u layout end).cost
        step_follows = record {
          follow = record {
            starts = place_refl u.place;
            stands = stands end.to end.picks parts.0 is_end.keeps parts.1.0 parts.1.1.0;
            turns = parts.1.1.1;
            pays = sum_is end.cost.demerits (column_demerits at_end) end.pick_demerits (pick_demerits at_end)
                (page_cost doc u (move_to u layout end)) (fitness_cost doc.style u.fitness end.cost.fitness)
                (fitness_demerits u.fitness at_end) (sym demerits_are) is_end.pick_demerits
                (ap (fitness_cost doc.style u.fitness) (sym fitness_is) ∙ fitness_pays end.to end.picks parts.0);
            leads = ap (λ (o : Option ℕ). record (next_state doc u (move_to u layout end)) { fitness = o })
                (ap (kept_fitness doc.style) (sym fitness_is) ∙ kept_fitness_is end.to end.picks parts.0);
          };
          least = is_end.least;
        }

    text_sound : (step : Step State PageMove) → Among step (text_steps doc u ceiling ends) →
        FollowBest doc u step.by step.to step.cost
    text_sound step a = of_flat (steps_with doc u ends) (text_layouts doc u ceiling) step a
        (λ layout b c. of_map (text_step doc u layout) (filter (may_end doc u layout) (ends layout)) step c
        (λ end d e. (let k = of_filter (may_end doc u layout) (ends layout) end d in
        subst (λ (x : Step State PageMove). FollowBest doc u x.by x.to x.cost) e
        (step_follows layout b end k.0 k.1))))

    -- ---- a column of text that follows is that of an end

    within_ceiling : (m : PageMove) (v : State) (c : ℤ) → Follow doc u m v c → (slot : ℕ) → slot < slots_of →
        0 < entry m.wide slot + entry m.column.top slot + entry m.column.bottom slot →
        entry u.placed slot + entry m.wide slot + entry m.column.top slot + entry m.column.bottom slot
        ≤ entry ceiling slot
    within_ceiling m v c f slot h k =
        let a : entry (placed_after doc.style u.placed m) slot
        ≡ ((entry u.placed slot + entry m.wide slot) + entry m.column.top slot) + entry m.column.bottom slot =
        after_is doc.style u.placed m slot h in
        let b : entry (placed_after doc.style u.placed m) slot ≤ entry (called doc.blocks doc.style m.column.to) slot =
        callouts_bound doc u.placed m f.stands.callouts slot h (omega arith) in
        let d : entry (called doc.blocks doc.style m.column.to) slot ≤ entry ceiling slot =
        is_ceiling.reached m v c f slot h in
        omega arith

    layout_is : (layout : Layout) (to : Place) (picks : List ℕ) (v : State) (c : ℤ) →
        is_same_place u.place to ≡ false → Follow doc u (move_of u layout to picks) v c →
        IsTextLayout doc u ceiling layout
    layout_is layout to picks v c away f =
        let it = context_in doc u (move_of u layout to picks) in
        let text : is_text it ≡ true = not_false (is_same_place u.place to) away in
        let w = both_of (length layout.wide == slots_of) _ f.stands.wide in
        let a = both_of _ (is_bottom_allowed it) f.stands.rules.counts in
        let b = both_of _ (is_top_allowed it) a.0 in
        let d = both_of (length layout.top == slots_of) (length layout.bottom == slots_of) b.0 in
        record {
          run = is_run (move_of u layout to picks) f.stands.takes_run;
          wide = record {
            long = eqb-true (length layout.wide) slots_of w.0;
            counts = w.1;
            below = λ slot h k. (let e : _ = within_ceiling (move_of u layout to picks) v c f slot h (omega arith) in
                omega arith);
          };
          top = record {
            long = eqb-true (length layout.top) slots_of d.0;
            allowed = sym (if_true (is_text it) _ _ text) ∙ b.1;
            below = λ slot h k. (let e : _ = within_ceiling (move_of u layout to picks) v c f slot h (omega arith) in
                let g : entry (plus_counts doc.style u.placed layout.wide) slot
                ≡ entry u.placed slot + entry layout.wide slot =
                entry_plus doc.style u.placed layout.wide slot h in omega arith);
          };
          bottom = record {
            long = eqb-true (length layout.bottom) slots_of d.1;
            allowed = sym (if_true (is_text it) _ _ text) ∙ a.1;
            below = λ slot h k. (let e : _ = within_ceiling (move_of u layout to picks) v c f slot h (omega arith) in
                let g : entry (plus_counts doc.style u.placed layout.wide) slot
                ≡ entry u.placed slot + entry layout.wide slot =
                entry_plus doc.style u.placed layout.wide slot h in
                let i : entry (plus_counts doc.style (plus_counts doc.style u.placed layout.wide) layout.top) slot
                ≡ entry (plus_counts doc.style u.placed layout.wide) slot + entry layout.top slot =
                entry_plus doc.style (plus_counts doc.style u.placed layout.wide) layout.top slot h in omega arith);
          };
        }

    found_text : (layout : Layout) (to : Place) (picks : List ℕ) (v : State) (c : ℤ) →
        is_same_place u.place to ≡ false → FollowBest doc u (move_of u layout to picks) v c →
        Among (record { to = v; by = move_of u layout to picks; cost = c }) (text_steps doc u ceiling ends)
    found_text layout to picks v c away f =
        let listed : Among layout (text_layouts doc u ceiling) =
        in_text_layouts doc u ceiling layout (layout_is layout to picks v c away f.follow) in
        let it = context_in doc u (move_of u layout to picks) in
        let h : HasEnd (ends layout) it =
        (are layout listed).whole it (column_in layout listed to picks away) (rules_keep it f.follow.stands.rules) in
        let ended : Among h.end (ends layout) = contains_among (ends layout) h.end h.listed in
        let there : is_same_place u.place h.end.to ≡ false =
        subst (λ (p : Place). is_same_place u.place p ≡ false) (sym h.to) away in
        let may : may_end doc u layout h.end ≡ true =
        subst (λ (p : Place). (not (is_same_place u.place p)
        && (has_callouts doc u.placed (move_of u layout p h.end.picks)
        && (keeps_barriers doc u.placed (move_of u layout p h.end.picks)
        && may_turn doc u (move_of u layout p h.end.picks)))) ≡ true) (sym h.to)
        (both (not (is_same_place u.place to)) _ (not_false (is_same_place u.place to) away)
        (both (has_callouts doc u.placed (move_of u layout to h.end.picks)) _ f.follow.stands.callouts
        (both (keeps_barriers doc u.placed (move_of u layout to h.end.picks)) _ f.follow.stands.barriers
        f.follow.turns))) in
        let g : FollowBest doc u (move_to u layout h.end) (text_step doc u layout h.end).to
        (text_step doc u layout h.end).cost = step_follows layout listed h.end ended may in
        let g' : FollowBest doc u (move_of u layout to h.end.picks) (text_step doc u layout h.end).to
        (text_step doc u layout h.end).cost =
        subst (λ (p : Place). FollowBest doc u (move_of u layout p h.end.picks) (text_step doc u layout h.end).to
        (text_step doc u layout h.end).cost) h.to g in
        let fitness : column_fitness (context_in doc u (move_of u layout to h.end.picks)) ≡ column_fitness it =
        subst (λ (p : Place). column_fitness (context_in doc u (move_of u layout p h.end.picks)) ≡ h.end.cost.fitness) h.to
        (fitness_is layout listed h.end ended may) ∙ h.fitness in
        let same : picks ≡ h.end.picks =
        best_unique doc u (move_of u layout to picks) v (text_step doc u layout h.end).to c
        (text_step doc u layout h.end).cost h.end.picks (not_false (is_same_place u.place to) away) f g' fitness in
        let move : move_to u layout h.end ≡ move_of u layout to picks =
        ap (λ (p : Place). move_of u layout p h.end.picks) h.to ∙ ap (move_of u layout to) (sym same) in
        let k : FollowBest doc u (move_of u layout to picks) (text_step doc u layout h.end).to
        (text_step doc u layout h.end).cost =
        subst (λ (m : PageMove). FollowBest doc u m (text_step doc u layout h.end).to
        (text_step doc u layout h.end).cost) move g in
        subst (λ (x : Step State PageMove). Among x (text_steps doc u ceiling ends))
        (same_step (text_step doc u layout h.end).to v (move_to u layout h.end) (move_of u layout to picks)
        (text_step doc u layout h.end).cost c (k.follow.leads ∙ sym f.follow.leads) move
        (k.follow.pays ∙ sym f.follow.pays))
        (in_flat (steps_with doc u ends) (text_layouts doc u ceiling) layout (text_step doc u layout h.end) listed
        (in_map (text_step doc u layout) (filter (may_end doc u layout) (ends layout)) h.end
        (in_filter (may_end doc u layout) (ends layout) h.end ended may)))

    -- ---- each once

    apart : (layout : Layout) → Among layout (text_layouts doc u ceiling) → (a b : End) →
        Among a (filter (may_end doc u layout) (ends layout)) →
        Among b (filter (may_end doc u layout) (ends layout)) → IsBefore a b →
        (text_step doc u layout a).by ≢ (text_step doc u layout b).by
    apart layout listed a b ca cb before same = by before
      where
        to : a.to ≡ b.to
        to = ap (λ (m : PageMove). m.column.to) same

        fitness : a.cost.fitness ≡ b.cost.fitness
        fitness =
            let k = of_filter (may_end doc u layout) (ends layout) a ca in
            let l = of_filter (may_end doc u layout) (ends layout) b cb in
            sym (fitness_is layout listed a k.0 k.1) ∙ ap (λ (m : PageMove). column_fitness (context_in doc u m)) same
            ∙ fitness_is layout listed b l.0 l.1

        by : IsBefore a b → ⊥
        by (inl p) = let e : place_cmp a.to b.to ≡ Equal =
            ap (place_cmp a.to) (sym to) ∙ tied_itself place_total a.to in absurd (cc (e, p))
        by (inr (e, l)) = let f : a.cost.fitness ≡ b.cost.fitness = fitness in omega arith

    text_once : Pairs (λ (s t : Step State PageMove). s.by ≢ t.by) (text_steps doc u ceiling ends)
    text_once = pairs_flat (λ (s t : Step State PageMove). s.by ≢ t.by) (steps_with doc u ends)
        (text_layouts doc u ceiling)
        (λ layout listed. pairs_map (λ (s t : Step State PageMove). s.by ≢ t.by) (text_step doc u layout)
        (filter (may_end doc u layout) (ends layout))
        (pairs_weaker IsBefore (λ a b. (text_step doc u layout a).by ≢ (text_step doc u layout b).by)
        (filter (may_end doc u layout) (ends layout)) (apart layout listed)
        (pairs_filter IsBefore (may_end doc u layout) (ends layout)
        (all_pairs IsBefore (ends layout) (are layout listed).order))))
        (pairs_weaker (λ (a b : Layout). a ≢ b) _ (text_layouts doc u ceiling)
        (λ a b _ _ h s t x y e. h (sym (layout_in a s x) ∙ ap laid e ∙ layout_in b t y))
        (text_layouts_apart doc u ceiling))
      where
        layout_in : (layout : Layout) (s : Step State PageMove) → Among s (steps_with doc u ends layout) →
            layout_of s.by.run s.by.wide s.by.column.top s.by.column.bottom ≡ layout
        layout_in layout s a = of_map (text_step doc u layout) (filter (may_end doc u layout) (ends layout)) s a
            (λ end _ e. ap (λ (x : Step State PageMove).
            layout_of x.by.run x.by.wide x.by.column.top x.by.column.bottom) (sym e))

    text_away : (step : Step State PageMove) → Among step (text_steps doc u ceiling ends) →
        is_same_place u.place step.by.column.to ≡ false
    text_away step a = of_flat (steps_with doc u ends) (text_layouts doc u ceiling) step a
        (λ layout b c. of_map (text_step doc u layout) (filter (may_end doc u layout) (ends layout)) step c
        (λ end d e. (let k = of_filter (may_end doc u layout) (ends layout) end d in
        subst (λ (x : Step State PageMove). is_same_place u.place x.by.column.to ≡ false) e
        (parts layout b end k.0 k.1).0)))

  -- ---- columns without text

  abbrev here : List ℕ
  here = called doc.blocks doc.style u.place

  called_there : (slot : ℕ) → slot < slots_of → entry here slot ≤ entry (float_counts doc) slot
  called_there slot h = each (float_numbers doc.style) slot
    where
      each : (numbers : List ℕ) (slot : ℕ) →
          entry (map (λ (number : ℕ). length (sizes_of number (items_before doc.blocks u.place))) numbers) slot
          ≤ entry (map (λ (sizes : List ℤ). length sizes)
          (map (λ (number : ℕ). sizes_of number (flat doc.blocks [])) numbers)) slot
      each [] slot = omega arith
      each (number ∷ numbers) zero = called_total doc blocks_in number u.place
      each (number ∷ numbers) (suc slot) = each numbers slot

  none_there : (counts : List ℕ) → counts ≡ zeros doc.style → (slot : ℕ) → slot < slots_of → entry counts slot ≡ 0
  none_there counts e slot h = ap (λ (xs : List ℕ). entry xs slot) e ∙ zeros_entry doc.style slot h

  module _ (layout : Layout) (is : IsFloatLayout doc u here layout) where
    abbrev stays : ColumnContext
    stays = context_in doc u (stay u layout)

    pub no_text : is_text stays ≡ false
    no_text = ap not (place_refl u.place)

    pub wide_all : has_all (floats doc.blocks doc.style) u.placed layout.wide ≡ true
    wide_all = has_below doc u.placed layout.wide here called_there is.wide.below

    pub top_all : has_all (floats doc.blocks doc.style) (plus_counts doc.style u.placed layout.wide) layout.top ≡ true
    top_all = has_below doc (plus_counts doc.style u.placed layout.wide) layout.top here called_there is.top.below

    bottom_all : has_all (floats doc.blocks doc.style)
        (plus_counts doc.style (plus_counts doc.style u.placed layout.wide) layout.top) layout.bottom ≡ true
    bottom_all = has_below doc (plus_counts doc.style (plus_counts doc.style u.placed layout.wide) layout.top)
        layout.bottom here called_there
        (λ slot h k. absurd (let z : entry layout.bottom slot ≡ 0 = none_there layout.bottom is.bottom slot h in
        omega arith))

    bottom_long : length layout.bottom ≡ slots_of
    bottom_long = ap (λ (xs : List ℕ). length xs) is.bottom ∙ slots_long doc.style (λ (slot : ℕ). 0)

    no_bottom : float_count doc.style layout.bottom ≡ 0
    no_bottom = float_total doc.style layout.bottom bottom_long
        ∙ ap (λ (xs : List ℕ). total_count xs) is.bottom ∙ zeros_total doc.style

    pub top_count : float_count doc.style layout.top ≡ total_count layout.top
    top_count = float_total doc.style layout.top is.top.long

    size : size_of stays ≡ Some 0
    size = own_steps doc blocks_in u.place own.place

    no_variants : column_variants stays ≡ []
    no_variants = no_items (column_variants stays) (none_named doc u.place)

    fits : does_fit stays ≡ true
    fits = ap (λ (o : Option ℕ). option_map_or
        (λ (n : ℕ). (fronts (flat_items_of stays) n == 0) && (length (column_variants stays) == 0)) o false) size
        ∙ both (fronts (flat_items_of stays) 0 == 0) _ refl
        (subst (λ (n : ℕ). (n == 0) ≡ true) (sym (none_named doc u.place)) refl)

    pub wide_same : wide_in doc u (stay u layout) ≡ wide_of doc u layout.wide
    wide_same = wide_is (stay u layout) here is.wide wide_all

    -- there are floats in the column, or wide floats above it
    formed_by : (t b : ℕ) (w : Option ℤ) → b ≡ 0 →
        ((nat_lt 0 t && (b == 0)) || ((t == 0) && (b == 0) && is_some w)) ≡ (nat_lt 0 t || is_some w)
    formed_by zero b w e = subst (λ (n : ℕ). ((nat_lt 0 zero && (n == 0)) || ((0 == 0) && (n == 0) && is_some w))
        ≡ (nat_lt 0 zero || is_some w)) (sym e) refl
    formed_by (suc t) b w e =
        subst (λ (n : ℕ). ((nat_lt 0 (suc t) && (n == 0)) || ((suc t == 0) && (n == 0) && is_some w))
        ≡ (nat_lt 0 (suc t) || is_some w)) (sym e)
        (subst (λ (x : Bool). ((x && true) || ((suc t == 0) && true && is_some w)) ≡ (x || is_some w))
        (sym (less_of 0 (suc t) (omega arith))) refl)

    formed_is : is_well_formed stays ≡ (nat_lt 0 (total_count layout.top) || is_some (wide_of doc u layout.wide))
    formed_is = if_false (is_text stays) _ _ no_text
        ∙ formed_by (float_count doc.style layout.top) (float_count doc.style layout.bottom)
        (wide_in doc u (stay u layout)) no_bottom
        ∙ ap (λ (n : ℕ). nat_lt 0 n || is_some (wide_in doc u (stay u layout))) top_count
        ∙ ap (λ (w : Option ℤ). nat_lt 0 (total_count layout.top) || is_some w) wide_same

    untested : (test : Bool) → (not (is_text stays) || test) ≡ true
    untested test = subst (λ (b : Bool). (not b || test) ≡ true) (sym no_text) refl

    stay_counts : has_counts stays ≡ true
    stay_counts = both _ _ (both _ _ (both _ _
        (subst (λ (n : ℕ). (n == slots_of) ≡ true) (sym is.top.long) (eq_refl slots_of))
        (subst (λ (n : ℕ). (n == slots_of) ≡ true) (sym bottom_long) (eq_refl slots_of)))
        (if_false (is_text stays) _ _ no_text ∙ is.top.allowed))
        (if_false (is_text stays) _ _ no_text
        ∙ subst (λ (counts : List ℕ). is_area_allowed doc.style takes_in_column doc.style.float_column.count counts
        ≡ true) (sym is.bottom) (zeros_allowed doc.style takes_in_column doc.style.float_column.count))

    pub stay_callouts : has_callouts doc u.placed (stay u layout) ≡ true
    stay_callouts = bound_callouts doc u.placed (stay u layout)
        (λ slot h k. (let a : entry (placed_after doc.style u.placed (stay u layout)) slot
        ≡ ((entry u.placed slot + entry layout.wide slot) + entry layout.top slot) + entry layout.bottom slot =
        after_is doc.style u.placed (stay u layout) slot h in
        let z : entry layout.bottom slot ≡ 0 = none_there layout.bottom is.bottom slot h in
        by slot h (entry layout.top slot) refl (omega arith) (omega arith)))
      where
        by : (slot : ℕ) → slot < slots_of → (t : ℕ) → t ≡ entry layout.top slot →
            0 < entry layout.wide slot + entry layout.top slot →
            entry (placed_after doc.style u.placed (stay u layout)) slot
            ≡ (entry u.placed slot + entry layout.wide slot) + entry layout.top slot →
            entry (placed_after doc.style u.placed (stay u layout)) slot ≤ entry here slot
        by slot h zero e k a = let b : entry u.placed slot + entry layout.wide slot ≤ entry here slot =
            is.wide.below slot h (omega arith) in omega arith
        by slot h (suc t) e k a =
            let b : entry (plus_counts doc.style u.placed layout.wide) slot + entry layout.top slot
            ≤ entry here slot = is.top.below slot h (omega arith) in
            let d : entry (plus_counts doc.style u.placed layout.wide) slot
            ≡ entry u.placed slot + entry layout.wide slot = entry_plus doc.style u.placed layout.wide slot h in
            omega arith

    -- a column without text begins and ends where it stands
    stay_barriers : keeps_barriers doc u.placed (stay u layout) ≡ true
    stay_barriers = or_left (is_same_place u.place u.place)
        (may_begin doc u && flushes_all doc u.place.block (placed_after doc.style u.placed (stay u layout)))
        (place_refl u.place)

    module _ (may : may_stay doc u layout ≡ true) where
      stay_parts : ((nat_lt 0 (total_count layout.top) || is_some (wide_of doc u layout.wide)) ≡ true)
          × ((has_room stays ≡ true) × (may_turn doc u (stay u layout) ≡ true))
      stay_parts =
          let a = both_of (nat_lt 0 (total_count layout.top) || is_some (wide_of doc u layout.wide)) _ may in
          let b = both_of (has_room stays) (may_turn doc u (stay u layout)) a.1 in
          (a.0, b)

      stay_rules : KeepsColumnRules stays
      stay_rules = record {
        fits = fits;
        well_formed = formed_is ∙ stay_parts.0;
        tolerable = untested _;
        passes = untested _;
        room = stay_parts.1.0;
        counts = stay_counts;
        note_limits = untested _;
        looseness = ap (λ (vs : List Variant). list_all
            (λ (variant : Variant). nat_le (unsigned_abs variant.looseness) doc.style.max_looseness) vs) no_variants;
      }

      pays_is : pos doc.style.float_column.demerits +ℤ page_cost doc u (stay u layout)
          ≡ column_cost stays u.column u.fitness (age_in doc u) (added doc u.placed (stay u layout))
      pays_is = sum (column_demerits stays) (pos doc.style.float_column.demerits) (pick_demerits stays)
          (page_cost doc u (stay u layout)) (fitness_demerits u.fitness stays) (if_false (is_text stays) _ _ no_text)
          (ap (λ (vs : List Variant). whole_sum_by (λ (variant : Variant). pos variant.demerits) vs) no_variants)
          (unfit u.fitness)
        where
          sum : (d e k p f : ℤ) → d ≡ e → k ≡ pos 0 → f ≡ pos 0 → e +ℤ p ≡ (d +ℤ k) +ℤ (p +ℤ f)
          sum d e k p f i j l = omega (arith, ints)

          unfit : (fitness : Option ℕ) → fitness_demerits fitness stays ≡ pos 0
          unfit None = refl
          unfit (Some last) = ap (λ (b : Bool). if b && differs last (column_fitness stays)
              then pos doc.style.fitness else pos 0) no_text

      stay_follows : FollowBest doc u (float_step doc u layout).by (float_step doc u layout).to
          (float_step doc u layout).cost
      stay_follows = record {
        follow = record {
          starts = place_refl u.place;
          stands = record {
            takes_run = run_is (stay u layout) is.run;
            wide = wide_counts (stay u layout) here is.wide;
            deals = both _ _ wide_all (both _ _ top_all bottom_all);
            callouts = stay_callouts;
            barriers = stay_barriers;
            rules = stay_rules;
          };
          turns = stay_parts.1.1;
          pays = pays_is;
          leads = ap (λ (o : Option ℕ). record (next_state doc u (stay u layout)) { fitness = o })
              (ap (λ (o : Option ℕ). if doc.style.version == 1 then None else o)
              (sym (if_false (is_text stays) _ _ no_text)));
        };
        least = record { least = λ picks t k e. absurd (let f : is_text stays ≡ false = no_text in cc) };
      }

  float_sound : (step : Step State PageMove) → Among step (float_steps doc u) →
      FollowBest doc u step.by step.to step.cost
  float_sound step a = of_map (float_step doc u) (filter (may_stay doc u) (float_layouts doc u here)) step a
      (λ layout b e. (let k = of_filter (may_stay doc u) (float_layouts doc u here) layout b in
      subst (λ (x : Step State PageMove). FollowBest doc u x.by x.to x.cost) e
      (stay_follows layout (of_float_layouts doc u here layout k.0) k.1)))

  -- a column without text that follows has a layout of the list
  stay_layout : (layout : Layout) (v : State) (c : ℤ) → layout.bottom ≡ zeros doc.style →
      Follow doc u (stay u layout) v c → IsFloatLayout doc u here layout
  stay_layout layout v c bottom f =
      let it = context_in doc u (stay u layout) in
      let text : is_text it ≡ false = ap not (place_refl u.place) in
      let w = both_of (length layout.wide == slots_of) _ f.stands.wide in
      let a = both_of _ (is_bottom_allowed it) f.stands.rules.counts in
      let b = both_of _ (is_top_allowed it) a.0 in
      let d = both_of (length layout.top == slots_of) (length layout.bottom == slots_of) b.0 in
      record {
        run = is_run (stay u layout) f.stands.takes_run;
        wide = record {
          long = eqb-true (length layout.wide) slots_of w.0;
          counts = w.1;
          below = λ slot h k. (let e : _ = within slot h (omega arith) in omega arith);
        };
        top = record {
          long = eqb-true (length layout.top) slots_of d.0;
          allowed = sym (if_false (is_text it) _ _ text) ∙ b.1;
          below = λ slot h k. (let e : _ = within slot h (omega arith) in
              let g : entry (plus_counts doc.style u.placed layout.wide) slot
              ≡ entry u.placed slot + entry layout.wide slot =
              entry_plus doc.style u.placed layout.wide slot h in omega arith);
        };
        bottom = bottom;
      }
    where
      within : (slot : ℕ) → slot < slots_of → 0 < entry layout.wide slot + entry layout.top slot →
          entry u.placed slot + entry layout.wide slot + entry layout.top slot ≤ entry here slot
      within slot h k =
          let a : entry (placed_after doc.style u.placed (stay u layout)) slot
          ≡ ((entry u.placed slot + entry layout.wide slot) + entry layout.top slot) + entry layout.bottom slot =
          after_is doc.style u.placed (stay u layout) slot h in
          let b : entry (placed_after doc.style u.placed (stay u layout)) slot ≤ entry here slot =
          callouts_bound doc u.placed (stay u layout) f.stands.callouts slot h (omega arith) in
          omega arith

  found_stay : (layout : Layout) (v : State) (c : ℤ) → layout.bottom ≡ zeros doc.style →
      FollowBest doc u (stay u layout) v c →
      Among (record { to = v; by = stay u layout; cost = c }) (float_steps doc u)
  found_stay layout v c bottom f =
      let is : IsFloatLayout doc u here layout = stay_layout layout v c bottom f.follow in
      let may : may_stay doc u layout ≡ true =
      both (nat_lt 0 (total_count layout.top) || is_some (wide_of doc u layout.wide)) _
      (sym (formed_is layout is) ∙ f.follow.stands.rules.well_formed)
      (both (has_room (context_in doc u (stay u layout))) _ f.follow.stands.rules.room f.follow.turns) in
      let g : FollowBest doc u (stay u layout) (float_step doc u layout).to (float_step doc u layout).cost =
      stay_follows layout is may in
      subst (λ (x : Step State PageMove). Among x (float_steps doc u))
      (same_step (float_step doc u layout).to v (stay u layout) (stay u layout) (float_step doc u layout).cost c
      (g.follow.leads ∙ sym f.follow.leads) refl (g.follow.pays ∙ sym f.follow.pays))
      (in_map (float_step doc u) (filter (may_stay doc u) (float_layouts doc u here)) layout
      (in_filter (may_stay doc u) (float_layouts doc u here) layout (in_float_layouts doc u here layout is) may))

  float_once : Pairs (λ (s t : Step State PageMove). s.by ≢ t.by) (float_steps doc u)
  float_once = pairs_map (λ (s t : Step State PageMove). s.by ≢ t.by) (float_step doc u)
      (filter (may_stay doc u) (float_layouts doc u here))
      (pairs_weaker (λ (a b : Layout). a ≢ b) (λ a b. (float_step doc u a).by ≢ (float_step doc u b).by)
      (filter (may_stay doc u) (float_layouts doc u here)) (λ a b _ _ h e. h (ap laid e))
      (pairs_filter (λ (a b : Layout). a ≢ b) (may_stay doc u) (float_layouts doc u here)
      (float_layouts_apart doc u here)))

  float_stays : (step : Step State PageMove) → Among step (float_steps doc u) →
      is_same_place u.place step.by.column.to ≡ true
  float_stays step a = of_map (float_step doc u) (filter (may_stay doc u) (float_layouts doc u here)) step a
      (λ layout b e. subst (λ (x : Step State PageMove). is_same_place u.place x.by.column.to ≡ true) e
      (place_refl u.place))

  -- ---- a column without text has no picks and no floats at its bottom

  record IsStay (m : PageMove) : Type 0 where
    is : m ≡ stay u (layout_of m.run m.wide m.column.top m.column.bottom)
    bottom : m.column.bottom ≡ zeros doc.style

  stay_is : (m : PageMove) (v : State) (c : ℤ) → is_text (context_in doc u m) ≡ false → Follow doc u m v c →
      IsStay m
  stay_is m v c text f =
      let it = context_in doc u m in
      let from : m.column.from ≡ u.place = same_place m.column.from u.place f.starts in
      let to : m.column.to ≡ u.place = sym (same_place m.column.from m.column.to (not_not _ text)) ∙ from in
      let h = both_of (length m.column.picks == 0) _ (sym (if_false (is_text it) _ _ text) ∙ f.stands.rules.well_formed) in
      let picks : m.column.picks ≡ [] = no_items m.column.picks (eqb-true (length m.column.picks) 0 h.0) in
      let a = both_of _ (is_bottom_allowed it) f.stands.rules.counts in
      let b = both_of _ (is_top_allowed it) a.0 in
      let d = both_of (length m.column.top == slots_of) (length m.column.bottom == slots_of) b.0 in
      let long : length m.column.bottom ≡ slots_of = eqb-true (length m.column.bottom) slots_of d.1 in
      let none : float_count doc.style m.column.bottom ≡ 0 =
      eqb-true (float_count doc.style m.column.bottom) 0
      (second (nat_lt 0 (float_count doc.style m.column.top)) (float_count doc.style m.column.bottom == 0)
      (float_count doc.style m.column.top == 0) (is_some it.wide) h.1) in
      record {
        is = parts m.column.from m.column.to m.column.top m.column.bottom m.column.picks m.wide m.run from to picks;
        bottom = zeros_are doc.style m.column.bottom long
            (sym (float_total doc.style m.column.bottom long) ∙ none);
      }
    where
      not_not : (b : Bool) → not b ≡ false → b ≡ true
      not_not true h = refl
      not_not false h = absurd cc

      second : (a b c d : Bool) → ((a && b) || (c && b && d)) ≡ true → b ≡ true
      second a true c d h = refl
      second true false true d h = absurd cc
      second true false false d h = absurd cc
      second false false true d h = absurd cc
      second false false false d h = absurd cc

      parts : (from to : Place) (top bottom picks wide : List ℕ) (run : ℕ) → from ≡ u.place → to ≡ u.place →
          picks ≡ [] → ◌≡◌ {A = PageMove} (record {
            column = record { from = from; to = to; top = top; bottom = bottom; picks = picks };
            run = run;
            wide = wide;
          }) (stay u (layout_of run wide top bottom))
      parts from to top bottom picks wide run p q r = cc

  -- ---- all

  pub moves_are : (ceiling : List ℕ) → IsCeiling doc u ceiling → (ends : Layout → List End) →
      ((layout : Layout) → Among layout (text_layouts doc u ceiling) →
      AreEnds doc u.place (text_room doc u layout) (ends layout)) →
      AreMoves (page_meaning doc) u (steps_of doc u ceiling ends)
  moves_are ceiling is_ceiling ends are = record {
    sound = λ step c. among_append step (text_steps doc u ceiling ends) (float_steps doc u)
        (contains_among (steps_of doc u ceiling ends) step c) (text_sound ceiling is_ceiling ends are step)
        (float_sound step);
    whole = λ m v c f. among_contains (steps_of doc u ceiling ends) (record { to = v; by = m; cost = c })
        (by_bool (is_text (context_in doc u m))
        (λ t. among_left (record { to = v; by = m; cost = c }) (text_steps doc u ceiling ends) (float_steps doc u)
        (with_text m v c t f))
        (λ n. among_right (record { to = v; by = m; cost = c }) (text_steps doc u ceiling ends) (float_steps doc u)
        (without_text m v c f (stay_is m v c n f.follow))));
    once = pairs_all (λ s t. s.by ≢ t.by) (steps_of doc u ceiling ends)
        (pairs_append (λ (s t : Step State PageMove). s.by ≢ t.by) (text_steps doc u ceiling ends) (float_steps doc u)
        (text_once ceiling is_ceiling ends are) float_once
        (λ s t a b e. (let p : is_same_place u.place s.by.column.to ≡ false =
        text_away ceiling is_ceiling ends are s a in
        let q : is_same_place u.place t.by.column.to ≡ true = float_stays t b in
        let r : is_same_place u.place s.by.column.to ≡ is_same_place u.place t.by.column.to =
        ap (λ (m : PageMove). is_same_place u.place m.column.to) e in absurd cc)));
  }
    where
      with_text : (m : PageMove) (v : State) (c : ℤ) → is_text (context_in doc u m) ≡ true →
          FollowBest doc u m v c → Among (record { to = v; by = m; cost = c }) (text_steps doc u ceiling ends)
      with_text m v c t f =
          let from : m.column.from ≡ u.place = same_place m.column.from u.place f.follow.starts in
          let away : is_same_place u.place m.column.to ≡ false =
          subst (λ (p : Place). is_same_place p m.column.to ≡ false) from
          (not_true (is_same_place m.column.from m.column.to) t) in
          let is : m ≡ move_of u (laid m) m.column.to m.column.picks =
          same_move u.place m.column.from m.column.to m.column.top m.column.bottom m.column.picks m.wide m.run from in
          subst (λ (n : PageMove). Among (record { to = v; by = n; cost = c }) (text_steps doc u ceiling ends)) (sym is)
          (found_text ceiling is_ceiling ends are (laid m) m.column.to m.column.picks v c away
          (subst (λ (n : PageMove). FollowBest doc u n v c) is f))

      without_text : (m : PageMove) (v : State) (c : ℤ) → FollowBest doc u m v c → IsStay m →
          Among (record { to = v; by = m; cost = c }) (float_steps doc u)
      without_text m v c f s =
          subst (λ (n : PageMove). Among (record { to = v; by = n; cost = c }) (float_steps doc u)) (sym s.is)
          (found_stay (laid m) v c s.bottom (subst (λ (n : PageMove). FollowBest doc u n v c) s.is f))
