-- The listed steps are those of the rules, and so the moves of a state.
use Rattle.std.proofs.Common.{◌≡◌, refl, sym, ap, subst, ◌∙◌, ℕ, ◌+◌, ◌≤◌, ◌<◌, inl, inr, List, [], ◌∷◌, ◌++◌, map, length, Bool, true, false, Option, None, arith}
use Rattle.std.specs.Prelude.{◌==◌, ◌&&◌, ◌||◌, not, nat_le, nat_lt, int_le, if◌then◌else◌, is_some, unwrap_or, ℤ, pos, ◌+ℤ◌, ◌-ℤ◌}
use Rattle.std.specs.List.{AllByRecursion, filter}
use Rattle.pg_list.specs.declared.galley.Place.{Place}
use Rattle.pg_list.specs.Shapes.{IsBlock}
use Rattle.pg_plan.specs.declared.pages.PageMove.{PageMove}
use Rattle.pg_plan.specs.declared.states.Side.{Side}
use Rattle.pg_plan.specs.declared.states.State.{State}
use Rattle.pg_list.specs.Flat.{is_same_place}
use Rattle.pg_rules.specs.ColumnRules.{does_fit, has_room}
use Rattle.pg_rules.specs.Cost.{run_demerits}
use Rattle.pg_rules.specs.Floats.{called, entry, float_count, float_numbers, floats, plus_counts, slots, total_count}
use Rattle.pg_rules.specs.Follow.{context_in, fills_page, may_turn, next_state, turns, wide_in}
use Rattle.pg_rules.specs.History.{placed_after}
use Rattle.pg_rules.specs.IsState.{IsState}
use Rattle.pg_rules.specs.Legal.{has_callouts, keeps_barriers}
use Rattle.pg_rules.specs.Room.{Document, extra, is_text, is_top_allowed, top_height}
use Rattle.pg_table.specs.Space.{AreMoves}
use Rattle.pg_table.specs.declared.step.Step.{Step}
use Rattle.law_places.proofs.Among.{Among, all_at, all_of, map_same}
use Rattle.pg_lemmas.proofs.Bools.{both_of, both_ways, by_bool, if_false}
use Rattle.law_places.proofs.Callouts.{fit_ends}
use Rattle.pg_lemmas.proofs.Numbers.{less_true, not_less}
use Rattle.std.proofs.lemmas.Bool.{le-leb, leb-true}
use Rattle.law_columns.proofs.Waiting.{slot_below}
use Rattle.law_space.specs.PageSpace.{page_meaning}
use Rattle.pg_column.specs.declared.end.End.{End}
use Rattle.pg_column.specs.Ends.{AreEnds, IsEndOf}
use Rattle.law_moves.specs.Ages.{ages_left, may_wait}
use Rattle.pg_layouts.specs.declared.layout.Layout.{Layout}
use Rattle.pg_layouts.specs.Layouts.{float_layouts, text_layouts}
use Rattle.law_moves.specs.Listed.{calls_all, column_fits, flushes_all, goes_on, listed_end, listed_floats, listed_stay, listed_steps, listed_text, listed_with, may_begin, opens, placed_with, stays_on}
use Rattle.law_moves.specs.Steps.{IsCeiling, area_of, fitness_cost, float_step, float_steps, kept_fitness, may_end, may_stay, move_to, stay, steps_with, text_room, text_step, text_steps, wide_of}
use Rattle.law_places.proofs.Members.{among_contains, below_in, of_filter}
use Rattle.law_moves.proofs.Callouts.{bound_callouts, callouts_bound}
use Rattle.law_moves.proofs.Layouts.{IsFloatLayout, of_float_layouts}
use Rattle.law_moves.proofs.Ages.{AreAges, column_ages, column_cost_is, flat_same, placed_called}
use Rattle.law_moves.proofs.Ceilings.{called_more}
use Rattle.law_moves.proofs.Moves.{checked_is, column_in, is, moves_are, no_text, same_step, stay_callouts, top_all, top_count, wide_is, wide_same, wide_there}

filter_same : {X : Type 0} (p q : X → Bool) (xs : List X) → ((x : X) → Among x xs → p x ≡ q x) →
    filter p xs ≡ filter q xs
filter_same p q [] h = refl
filter_same {X} p q (x ∷ xs) h = ap (λ (b : Bool). if b then x ∷ filter p xs else filter p xs) (h x (inl refl))
    ∙ ap (λ ys. if q x then x ∷ ys else ys) (filter_same p q xs (λ y a. h y (inr a)))

same_state : (to : Place) (column : ℕ) (side : Side) (run : Option ℕ) (wide wide' : Option ℤ) (fitness : Option ℕ)
    (placed ages ages' : List ℕ) → wide ≡ wide' → ages ≡ ages' → ◌≡◌ {A = State} (record {
      place = to;
      column = column;
      side = side;
      run = run;
      wide = wide;
      fitness = fitness;
      placed = placed;
      ages = ages;
    }) (record {
      place = to;
      column = column;
      side = side;
      run = run;
      wide = wide';
      fitness = fitness;
      placed = placed;
      ages = ages';
    })
same_state to column side run wide wide' fitness placed ages ages' p q = cc

module _ (doc : Document) (u : State) (blocks_in : AllByRecursion IsBlock doc.blocks) (own : IsState doc u) where
  abbrev count : ℕ
  count = length (float_numbers doc.style)

  -- the floats that are placed are called, class by class
  calls_is : (m : PageMove) → ((slot : ℕ) → slot < count → entry (called doc.blocks doc.style u.place) slot
      ≤ entry (called doc.blocks doc.style m.column.to) slot) →
      has_callouts doc u.placed m ≡ calls_all doc m.column.to (placed_after doc.style u.placed m)
  calls_is m grows = both_ways (has_callouts doc u.placed m)
      (calls_all doc m.column.to (placed_after doc.style u.placed m))
      (λ h. all_of (λ (slot : ℕ). nat_le (entry (placed_after doc.style u.placed m) slot)
      (entry (called doc.blocks doc.style m.column.to) slot)) (slots doc.style)
      (λ slot a. le-leb _ _ (each h slot (within slot a))))
      (λ t. bound_callouts doc u.placed m (λ slot h k. leb-true _ _
      (all_at (λ (slot : ℕ). nat_le (entry (placed_after doc.style u.placed m) slot)
      (entry (called doc.blocks doc.style m.column.to) slot)) (slots doc.style) slot t (below_in count slot h))))
    where
      within : (slot : ℕ) → Among slot (slots doc.style) → slot < count
      within slot a = let r = slot_below 0 count slot a in let p : slot < 0 + count = r.1 in omega arith

      each : has_callouts doc u.placed m ≡ true → (slot : ℕ) → slot < count →
          entry (placed_after doc.style u.placed m) slot ≤ entry (called doc.blocks doc.style m.column.to) slot
      each h slot l = by_bool (nat_lt (entry u.placed slot) (entry (placed_after doc.style u.placed m) slot))
          (λ t. callouts_bound doc u.placed m h slot l (less_true _ _ t))
          (λ f. (let a : entry (placed_after doc.style u.placed m) slot ≤ entry u.placed slot = not_less _ _ f in
          let b : entry u.placed slot ≤ entry (called doc.blocks doc.style u.place) slot =
          placed_called doc u own slot l in
          let c : entry (called doc.blocks doc.style u.place) slot
          ≤ entry (called doc.blocks doc.style m.column.to) slot = grows slot l in omega arith))

  module _ (ceiling : List ℕ) (is_ceiling : IsCeiling doc u ceiling) (ends : Layout → List End)
      (are : (layout : Layout) → Among layout (text_layouts doc u ceiling) →
      AreEnds doc u.place (text_room doc u layout) (ends layout)) where
    module _ (layout : Layout) (listed : Among layout (text_layouts doc u ceiling)) where
      end_grows : (end : End) → Among end (ends layout) → is_same_place u.place end.to ≡ false → (slot : ℕ) →
          slot < count → entry (called doc.blocks doc.style u.place) slot
          ≤ entry (called doc.blocks doc.style end.to) slot
      end_grows end a away slot h =
          let e : IsEndOf (context_in doc u (move_to u layout end)) end =
          (are layout listed).sound end (context_in doc u (move_to u layout end))
          (among_contains (ends layout) end a)
          (column_in doc u blocks_in own ceiling is_ceiling ends are layout listed end.to end.picks away) refl refl in
          called_more doc blocks_in u.place end.to own.place
          (fit_ends doc (context_in doc u (move_to u layout end)) refl blocks_in own.place
          (both_of (does_fit (context_in doc u (move_to u layout end))) _ e.keeps).0) slot

      may_is : (end : End) → Among end (ends layout) → goes_on doc u layout end ≡ may_end doc u layout end
      may_is end a = by_bool (is_same_place u.place end.to)
          (λ t. gone t (opens doc u end.to (placed_with doc.style u.placed layout)
          && may_wait doc u end.to (placed_with doc.style u.placed layout) (turns doc.style u))
          (has_callouts doc u.placed (move_to u layout end)
          && (keeps_barriers doc u.placed (move_to u layout end) && may_turn doc u (move_to u layout end))))
          (λ f. each_same (not (is_same_place u.place end.to))
          (has_callouts doc u.placed (move_to u layout end)) _ (keeps_barriers doc u.placed (move_to u layout end)) _
          (may_turn doc u (move_to u layout end)) _
          (calls_is (move_to u layout end) (end_grows end a f))
          (ap (λ (same : Bool). same
          || (may_begin doc u && flushes_all doc end.to.block (placed_with doc.style u.placed layout))) f)
          (column_ages doc u own (move_to u layout end) (end_grows end a f)).may)
        where
          gone : is_same_place u.place end.to ≡ true → (x y : Bool) →
              (not (is_same_place u.place end.to) && x) ≡ (not (is_same_place u.place end.to) && y)
          gone t x y = subst (λ (b : Bool). (not b && x) ≡ (not b && y)) (sym t) refl

          grouped : (a b c : Bool) → ((a && b) && c) ≡ (a && (b && c))
          grouped true b c = refl
          grouped false b c = refl

          alike : (x y b d z w : Bool) → x ≡ y → b ≡ d → z ≡ w → (y && (d && w)) ≡ (x && (b && z))
          alike x y b d z w p q r = cc

          each_same : (n x y b d z w : Bool) → x ≡ y → b ≡ d → z ≡ w → (n && ((y && d) && w)) ≡ (n && (x && (b && z)))
          each_same n x y b d z w p q r = ap (λ (t : Bool). n && t) (grouped y d w ∙ alike x y b d z w p q r)

      end_is : (end : End) → Among end (ends layout) → may_end doc u layout end ≡ true →
          listed_end doc u layout end ≡ text_step doc u layout end
      end_is end a may =
          let t = both_of (not (is_same_place u.place end.to)) _ may in
          let s = both_of (has_callouts doc u.placed (move_to u layout end)) _ t.1 in
          let away : is_same_place u.place end.to ≡ false = not_true (is_same_place u.place end.to) t.0 in
          let wide : wide_in doc u (move_to u layout end) ≡ wide_of doc u layout.wide =
          wide_is doc u blocks_in own (move_to u layout end) ceiling
          (is doc u blocks_in own ceiling is_ceiling ends are layout listed).wide
          (wide_there doc u blocks_in own ceiling is_ceiling ends are layout listed) in
          same_step (listed_end doc u layout end).to (text_step doc u layout end).to (move_to u layout end)
          (move_to u layout end) (listed_end doc u layout end).cost (text_step doc u layout end).cost
          (same_state end.to (next_state doc u (move_to u layout end)).column
          (next_state doc u (move_to u layout end)).side (next_state doc u (move_to u layout end)).run
          (if fills_page doc.style u then None else wide_of doc u layout.wide)
          (next_state doc u (move_to u layout end)).wide (kept_fitness doc.style end.cost.fitness)
          (placed_with doc.style u.placed layout)
          (ages_left doc u end.to (placed_with doc.style u.placed layout) (turns doc.style u))
          (next_state doc u (move_to u layout end)).ages
          (ap (λ (o : Option ℤ). if fills_page doc.style u then None else o) (sym wide))
          (sym (column_ages doc u own (move_to u layout end) (end_grows end a away)).ages)) refl
          (ap (λ (z : ℤ). (end.cost.demerits +ℤ end.pick_demerits)
          +ℤ (((if u.column == 1 then run_demerits doc.style layout.run else pos 0) +ℤ z)
          +ℤ fitness_cost doc.style u.fitness end.cost.fitness))
          (sym (column_cost_is doc u own (move_to u layout end) (end_grows end a away) s.0)))
        where
          not_true : (b : Bool) → not b ≡ true → b ≡ false
          not_true true h = absurd cc
          not_true false h = refl

      with_is : listed_with doc u ends layout ≡ steps_with doc u ends layout
      with_is = ap (map (listed_end doc u layout))
          (filter_same (goes_on doc u layout) (may_end doc u layout) (ends layout) may_is)
          ∙ map_same (listed_end doc u layout) (text_step doc u layout)
          (filter (may_end doc u layout) (ends layout))
          (λ end a. (let k = of_filter (may_end doc u layout) (ends layout) end a in end_is end k.0 k.1))

    text_is : listed_text doc u ceiling ends ≡ text_steps doc u ceiling ends
    text_is = flat_same (listed_with doc u ends) (steps_with doc u ends) (text_layouts doc u ceiling) with_is

  -- ---- columns without text

  abbrev here : List ℕ
  here = called doc.blocks doc.style u.place

  module _ (layout : Layout) (is_float : IsFloatLayout doc u here layout) where
    stay_ages : AreAges doc u own (stay u layout)
    stay_ages = column_ages doc u own (stay u layout) (λ slot h. omega arith)

    fits_is : has_room (context_in doc u (stay u layout)) ≡ column_fits doc u layout
    fits_is = if_false (is_text (context_in doc u (stay u layout))) _ _ (no_text doc u blocks_in own layout is_float)
        ∙ same (wide_in doc u (stay u layout)) (wide_of doc u layout.wide)
        (top_height (context_in doc u (stay u layout)))
        (area_of doc doc.style.top (plus_counts doc.style u.placed layout.wide) layout.top)
        (float_count doc.style layout.top) (total_count layout.top)
        (wide_same doc u blocks_in own layout is_float)
        (checked_is (floats doc.blocks doc.style) (is_top_allowed (context_in doc u (stay u layout))) doc.style.top
        (plus_counts doc.style u.placed layout.wide) layout.top
        (if_false (is_text (context_in doc u (stay u layout))) _ _ (no_text doc u blocks_in own layout is_float)
        ∙ is_float.top.allowed) (top_all doc u blocks_in own layout is_float))
        (top_count doc u blocks_in own layout is_float)
      where
        same : (w w' : Option ℤ) (t t' : ℤ) (n n' : ℕ) → w ≡ w' → t ≡ t' → n ≡ n' →
            int_le ((unwrap_or w (pos 0) +ℤ t) -ℤ (if n == 0 then doc.style.wide.gap.size else doc.style.top.gap.size))
            (doc.style.height +ℤ extra doc.style layout.run)
            ≡ int_le ((unwrap_or w' (pos 0) +ℤ t') -ℤ (if n' == 0 then doc.style.wide.gap.size else doc.style.top.gap.size))
            (doc.style.height +ℤ extra doc.style layout.run)
        same w w' t t' n n' p q r = cc

    stays_is : stays_on doc u layout ≡ may_stay doc u layout
    stays_is = both_same (nat_lt 0 (total_count layout.top) || is_some (wide_of doc u layout.wide))
        (has_room (context_in doc u (stay u layout))) _ (may_turn doc u (stay u layout)) _ fits_is stay_ages.may
      where
        both_same : (n x y z w : Bool) → x ≡ y → z ≡ w → (n && (y && w)) ≡ (n && (x && z))
        both_same n x y z w p q = cc

    stay_is : may_stay doc u layout ≡ true → listed_stay doc u layout ≡ float_step doc u layout
    stay_is may =
        same_step (listed_stay doc u layout).to (float_step doc u layout).to (stay u layout) (stay u layout)
        (listed_stay doc u layout).cost (float_step doc u layout).cost
        (same_state u.place (next_state doc u (stay u layout)).column (next_state doc u (stay u layout)).side
        (next_state doc u (stay u layout)).run (if fills_page doc.style u then None else wide_of doc u layout.wide)
        (next_state doc u (stay u layout)).wide (if doc.style.version == 1 then None else u.fitness)
        (placed_with doc.style u.placed layout)
        (ages_left doc u u.place (placed_with doc.style u.placed layout) (turns doc.style u))
        (next_state doc u (stay u layout)).ages
        (ap (λ (o : Option ℤ). if fills_page doc.style u then None else o)
        (sym (wide_same doc u blocks_in own layout is_float))) (sym stay_ages.ages)) refl
        (ap (λ (z : ℤ). pos doc.style.float_column.demerits
        +ℤ ((if u.column == 1 then run_demerits doc.style layout.run else pos 0) +ℤ z))
        (sym (column_cost_is doc u own (stay u layout) (λ slot h. omega arith)
        (stay_callouts doc u blocks_in own layout is_float))))

  floats_is : listed_floats doc u ≡ float_steps doc u
  floats_is = ap (map (listed_stay doc u))
      (filter_same (stays_on doc u) (may_stay doc u) (float_layouts doc u here)
      (λ layout a. stays_is layout (of_float_layouts doc u here layout a)))
      ∙ map_same (listed_stay doc u) (float_step doc u) (filter (may_stay doc u) (float_layouts doc u here))
      (λ layout a. (let k = of_filter (may_stay doc u) (float_layouts doc u here) layout a in
      stay_is layout (of_float_layouts doc u here layout k.0) k.1))

  -- ---- all

  pub listed_are_moves : (ceiling : List ℕ) → IsCeiling doc u ceiling → (ends : Layout → List End) →
      ((layout : Layout) → Among layout (text_layouts doc u ceiling) →
      AreEnds doc u.place (text_room doc u layout) (ends layout)) →
      AreMoves (page_meaning doc) u (listed_steps doc u ceiling ends)
  listed_are_moves ceiling is_ceiling ends are =
      subst (AreMoves (page_meaning doc) u)
      (ap (λ (steps : List (Step State PageMove)). steps ++ float_steps doc u)
      (sym (text_is ceiling is_ceiling ends are))
      ∙ ap (λ (steps : List (Step State PageMove)). listed_text doc u ceiling ends ++ steps) (sym floats_is))
      (moves_are doc u blocks_in own ceiling is_ceiling ends are)
