-- The start is a state of a beginning, and so is what follows one.
use Rattle.std.proofs.Common.{◌≡◌, refl, sym, ap, subst, ℕ, ◌+◌, ◌-◌, ◌^◌, ◌≤◌, ◌<◌, inl, inr, List, [], ◌∷◌, map, length, Bool, true, false, Option, Some, None, arith}
use Rattle.std.specs.Prelude.{◌&&◌, ◌||◌, ◌==◌, if◌then◌else◌, not, nat_abs, nat_le, nat_lt, ℤ, pos, ◌≤ℤ◌, int_le, int_lt, is_some, slice_get}
use Rattle.std.specs.List.{AllByRecursion, list_all}
use Rattle.std.specs.Option.{option_map_or}
use Rattle.std.proofs.lemmas.Int.{ints}
use Rattle.std.proofs.lemmas.List.{length-map}
use Rattle.std.proofs.lemmas.List.FromFn.{length-map-range_with_len}
use Rattle.pg_list.specs.Shapes.{IsBlock}
use Rattle.pg_list.specs.declared.galley.Place.{Place}
use Rattle.pg_plan.specs.declared.pages.PageMove.{PageMove}
use Rattle.pg_plan.specs.declared.states.Side.{Side}
use Rattle.pg_plan.specs.declared.states.Side.TheVariants.{L, R, S}
use Rattle.pg_plan.specs.declared.states.State.{State}
use Rattle.pg_style.specs.Ranges.{IsStyle}
use Rattle.pg_style.specs.declared.style.First.{First}
use Rattle.pg_style.specs.declared.style.First.TheVariants.{Left, Right, Single}
use Rattle.pg_list.specs.Flat.{items_before}
use Rattle.pg_rules.specs.ColumnRules.{text_fitness, text_total, text_goal, text_badness, fitness_by}
use Rattle.pg_rules.specs.Floats.{entry, called, float_numbers, sizes_of, slots}
use Rattle.pg_rules.specs.Follow.{Follow, age_in, context_in, keeps_run, other_side, turns, waiting_behind, wide_in}
use Rattle.pg_rules.specs.History.{column_fitness, is_called, is_right, made_wide, placed_after, placed_of, place_of, side_of}
use Rattle.pg_rules.specs.Legal.{added}
use Rattle.pg_rules.specs.Floats.{distance_table}
use Rattle.pg_rules.specs.NoWorse.{is_same_side}
use Rattle.pg_rules.specs.Room.{ColumnContext, Document, is_text, size_of}
use Rattle.pg_rules.specs.States.{age, state_at, waiting}
use Rattle.pg_rules.specs.IsState.{IsPlace, IsState, are_young, has_side, not_first, not_some}
use Rattle.law_places.proofs.Among.{Among, all_at, all_of}
use Rattle.law_places.proofs.Callouts.{entry_less, entry_zero, fit_ends, start_place}
use Rattle.law_places.proofs.Measures.{called_grows}
use Rattle.law_places.proofs.Tests.{int_le_of, int_less}
use Rattle.law_columns.proofs.Waiting.{IsBetween, between_at, between_of, entry_slots, slot_below}
use Rattle.law_columns.proofs.Areas.{IsUpTo, wide_range}
use Rattle.pg_lemmas.proofs.Bools.{both_of, both, if_false}
use Rattle.std.proofs.lemmas.Bool.{leb-true, le-leb}
use Rattle.pg_lemmas.proofs.Numbers.{eq_not, more_than_one, few_if, not_less, less_true}
use Rattle.pg_list.proofs.Places.{same_place}

young_map : (doc : Document) (g : ℕ × ℕ → ℕ) (floats : List (ℕ × ℕ)) →
    list_all (λ (float : ℕ × ℕ). nat_lt (g float) (length (distance_table doc.style float.0))) floats ≡ true →
    are_young doc (map g floats) floats ≡ true
young_map doc g [] h = refl
young_map doc g (x ∷ xs) h = let t = both_of (nat_lt (g x) (length (distance_table doc.style x.0))) _ h in
    both (nat_lt (g x) (length (distance_table doc.style x.0))) _ t.0 (young_map doc g xs t.1)

-- ---- sides and runs

side_other : (first : First) (side : Side) → has_side first side ≡ true →
    has_side first (other_side side) ≡ true
side_other Single S h = refl
side_other Single L h = absurd cc
side_other Single R h = absurd cc
side_other Left L h = refl
side_other Left R h = refl
side_other Left S h = absurd cc
side_other Right L h = refl
side_other Right R h = refl
side_other Right S h = absurd cc

side_next : (b : Bool) (first : First) (side : Side) → has_side first side ≡ true →
    has_side first (if b then other_side side else side) ≡ true
side_next true first side h = side_other first side h
side_next false first side h = h

run_next : (b : Bool) (side : Side) (run : ℕ) (test : ℕ → Bool) → test run ≡ true →
    option_map_or test (if b then keeps_run side run else Some run) true ≡ true
run_next false side run test h = h
run_next true L run test h = h
run_next true R run test h = refl
run_next true S run test h = refl

free_next : (b : Bool) (side : Side) (run n : ℕ) → 1 ≤ n →
    (if (if b then 1 else n + 1) == 1 then (is_same_side (if b then other_side side else side) R
    || not_some (if b then keeps_run side run else Some run)) else is_some
    (if b then keeps_run side run else Some run)) ≡ true
free_next true L run n h = refl
free_next true R run n h = refl
free_next true S run n h = refl
free_next false side run n h = if_false (n + 1 == 1) _ _ (more_than_one n h)

first_side : (first : First) → has_side first (side_of first 1) ≡ true
first_side Single = refl
first_side Left = refl
first_side Right = refl

-- ---- fitness

fitness_few : (total goal : ℤ) (badness : ℕ) → fitness_by total goal badness ≤ 3
fitness_few total goal badness =
    few_if (int_lt total goal) (if nat_lt 99 badness then 0 else (if nat_lt 12 badness then 1 else 2))
    (if int_lt goal total && nat_lt 12 badness then 3 else 2) 3
    (few_if (nat_lt 99 badness) 0 (if nat_lt 12 badness then 1 else 2) 3 (omega arith)
    (few_if (nat_lt 12 badness) 1 2 3 (omega arith) (omega arith)))
    (few_if (int_lt goal total && nat_lt 12 badness) 3 2 3 (omega arith) (omega arith))

column_fitness_few : (it : ColumnContext) → column_fitness it ≤ 3
column_fitness_few it = by (size_of it)
  where
    by : (o : Option ℕ) → option_map_or (text_fitness it) o 2 ≤ 3
    by None = omega arith
    by (Some n) = few_if (it.document.style.version == 1) 2
        (fitness_by (text_total it n) (text_goal it n) (text_badness it n)) 3 (omega arith)
        (fitness_few (text_total it n) (text_goal it n) (text_badness it n))

fitness_next : (version : ℕ) (text : Bool) (fitness : Option ℕ) (n : ℕ) → n ≤ 3 →
    option_map_or (λ (f : ℕ). not_first version && nat_le f 3) fitness true ≡ true →
    option_map_or (λ (f : ℕ). not_first version && nat_le f 3)
    (if version == 1 then None else (if text then Some n else fitness)) true ≡ true
fitness_next version text fitness n h k = by (version == 1) refl text
  where
    by : (b : Bool) → b ≡ (version == 1) → (t : Bool) →
        option_map_or (λ (f : ℕ). not_first version && nat_le f 3)
        (if b then None else (if t then Some n else fitness)) true ≡ true
    by true e t = refl
    by false e true = both (not_first version) (nat_le n 3) (ap not (sym e)) (le-leb n 3 h)
    by false e false = k

-- ---- the next state

module _ (doc : Document) (blocks : AllByRecursion IsBlock doc.blocks)
    (range : IsStyle doc.style) where
  -- the place of what follows is one of the galley
  pub next_place : (u : State) (m : PageMove) (v : State) (c : ℤ) → IsState doc u → Follow doc u m v c →
      IsPlace doc.blocks m.column.to
  next_place u m v c own f =
      let from : m.column.from ≡ u.place = same_place m.column.from u.place f.starts in
      let here : IsPlace doc.blocks m.column.from = subst (IsPlace doc.blocks) (sym from) own.place in
      elim (fit_ends doc (context_in doc u m) refl blocks here f.stands.rules.fits) [
        | inl e ↦ subst (IsPlace doc.blocks) (sym e) here
        | inr q ↦ q.place
      ]

  -- callouts only grow
  follow_grows : (u : State) (m : PageMove) (v : State) (c : ℤ) (slot : ℕ) → IsState doc u →
      Follow doc u m v c → entry (called doc.blocks doc.style u.place) slot
      ≤ entry (called doc.blocks doc.style m.column.to) slot
  follow_grows u m v c slot own f =
      let from : m.column.from ≡ u.place = same_place m.column.from u.place f.starts in
      let here : IsPlace doc.blocks m.column.from = subst (IsPlace doc.blocks) (sym from) own.place in
      subst (λ (at : Place). entry (called doc.blocks doc.style at) slot
      ≤ entry (called doc.blocks doc.style m.column.to) slot) from
      (elim (fit_ends doc (context_in doc u m) refl blocks here f.stands.rules.fits) [
        | inl e ↦ subst (λ (at : Place). entry (called doc.blocks doc.style m.column.from) slot
            ≤ entry (called doc.blocks doc.style at) slot) (sym e) (omega arith)
        | inr q ↦ entry_less (λ (number : ℕ). length
            (sizes_of number (items_before doc.blocks m.column.from)))
            (λ (number : ℕ). length (sizes_of number (items_before doc.blocks m.column.to)))
            (float_numbers doc.style) slot
            (λ number. called_grows number doc.blocks m.column.from m.column.to blocks here q)
      ])

  column_next : (b : Bool) (n full : ℕ) → b ≡ (n == full) → 1 ≤ n → n ≤ full → full ≤ 2 →
      (1 ≤ (if b then 1 else n + 1)) × (((if b then 1 else n + 1) ≤ full) × ((if b then 1 else n + 1) ≤ 2))
  column_next true n full e h k l = (omega arith, (omega arith, omega arith))
  column_next false n full e h k l =
      let differ : n ≡ full → ⊥ = eq_not n full (sym e) in
      let s : n + 1 ≤ full = strict n full differ k in
      (omega arith, (omega arith, omega arith))
    where
      strict : (a b : ℕ) → (a ≡ b → ⊥) → a ≤ b → a + 1 ≤ b
      strict a b differ h = omega arith

  wide_few : (z : ℤ) → IsUpTo 8589934584 z → (int_le (pos 0) z && int_lt z (pos (2 ^ 33))) ≡ true
  wide_few z r = by z r.0 r.1
    where
      by : (z : ℤ) → pos 0 ≤ℤ z → nat_abs z ≤ 8589934584 → (int_le (pos 0) z && int_lt z (pos (2 ^ 33))) ≡ true
      by z h k = both (int_le (pos 0) z) (int_lt z (pos (2 ^ 33))) (int_le_of (pos 0) z h)
          (int_less z (pos (2 ^ 33)) (omega (arith, ints)))

  wide_next : (u : State) (m : PageMove) (n : ℕ) → IsState doc u → not_first n ≡ true →
      option_map_or (λ (z : ℤ). not_first n && (int_le (pos 0) z && int_lt z (pos (2 ^ 33))))
      (wide_in doc u m) true ≡ true
  wide_next u m n own h = by (u.column == 1) refl
    where
      made : (o : Option ℤ) → o ≡ made_wide doc u.placed m.wide →
          option_map_or (λ (z : ℤ). not_first n && (int_le (pos 0) z && int_lt z (pos (2 ^ 33)))) o true
          ≡ true
      made None e = refl
      made (Some z) e = both (not_first n) _ h
          (wide_few z (wide_range doc u.placed m.wide blocks range.wide_in z (sym e)))

      kept : (o : Option ℤ) → option_map_or
          (λ (z : ℤ). not_first u.column && (int_le (pos 0) z && int_lt z (pos (2 ^ 33)))) o true ≡ true →
          option_map_or (λ (z : ℤ). not_first n && (int_le (pos 0) z && int_lt z (pos (2 ^ 33)))) o true
          ≡ true
      kept None e = refl
      kept (Some z) e = both (not_first n) _ h (both_of (not_first u.column) _ e).1

      by : (b : Bool) → b ≡ (u.column == 1) →
          option_map_or (λ (z : ℤ). not_first n && (int_le (pos 0) z && int_lt z (pos (2 ^ 33))))
          (if b then made_wide doc u.placed m.wide else u.wide) true ≡ true
      by true e = made (made_wide doc u.placed m.wide) refl
      by false e = kept u.wide own.wide

  next_called : (u : State) (m : PageMove) (v : State) (c : ℤ) → IsState doc u → Follow doc u m v c →
      list_all (λ (slot : ℕ). nat_le (entry (placed_after doc.style u.placed m) slot)
      (entry (called doc.blocks doc.style m.column.to) slot)) (slots doc.style) ≡ true
  next_called u m v c own f = all_of
      (λ (slot : ℕ). nat_le (entry (placed_after doc.style u.placed m) slot)
      (entry (called doc.blocks doc.style m.column.to) slot)) (slots doc.style) each
    where
      each : (slot : ℕ) → Among slot (slots doc.style) →
          nat_le (entry (placed_after doc.style u.placed m) slot)
          (entry (called doc.blocks doc.style m.column.to) slot) ≡ true
      each slot a =
          le-leb _ _ (by (nat_lt (entry u.placed slot) (entry (placed_after doc.style u.placed m) slot)) refl)
        where
          below : slot < length (float_numbers doc.style)
          below = let r = slot_below 0 (length (float_numbers doc.style)) slot a in
              let q : slot < 0 + length (float_numbers doc.style) = r.1 in omega arith

          by : (b : Bool) → b ≡ nat_lt (entry u.placed slot)
              (entry (placed_after doc.style u.placed m) slot) →
              entry (placed_after doc.style u.placed m) slot ≤ entry (called doc.blocks doc.style m.column.to)
              slot
          by true e =
              let l : entry u.placed slot < entry (placed_after doc.style u.placed m) slot =
              less_true _ _ (sym e) in
              let member : Among (slot, entry (placed_after doc.style u.placed m) slot - 1)
              (added doc u.placed m) = between_of doc.style u.placed (placed_after doc.style u.placed m)
              (slot, entry (placed_after doc.style u.placed m) slot - 1)
              (record { slot = below; from = omega arith; to = omega arith }) in
              let called_is : is_called doc m.column.to (
                slot,
                entry (placed_after doc.style u.placed m) slot - 1,
              ) ≡ true =
              all_at (is_called doc m.column.to) (added doc u.placed m) _ f.stands.callouts member in
              let k : entry (placed_after doc.style u.placed m) slot - 1 < entry
              (called doc.blocks doc.style m.column.to) slot = less_true _ _ called_is in
              omega arith
          by false e =
              let l : entry (placed_after doc.style u.placed m) slot ≤ entry u.placed slot =
              not_less _ _ (sym e) in
              let h : entry u.placed slot ≤ entry (called doc.blocks doc.style u.place) slot =
              leb-true _ _ (all_at (λ (s : ℕ). nat_le (entry u.placed s)
              (entry (called doc.blocks doc.style u.place) s)) (slots doc.style) slot own.called a) in
              let g : entry (called doc.blocks doc.style u.place) slot
              ≤ entry (called doc.blocks doc.style m.column.to) slot = follow_grows u m v c slot own f in
              omega arith

  pub own_next : (u : State) (m : PageMove) (v : State) (c : ℤ) → IsState doc u → Follow doc u m v c →
      IsState doc v
  own_next u m v c own f = subst (IsState doc) (sym f.leads) (record {
    place = next_place u m v c own f;
    column = column_next (u.column == doc.style.columns) u.column doc.style.columns refl own.column.0
        own.column.1.0 range.columns_to;
    side = side_next (u.column == doc.style.columns) doc.style.first u.side own.side;
    run = run_next (u.column == doc.style.columns) u.side m.run
        (λ (run : ℕ). is_some (slice_get doc.style.runs run))
        (both_of (is_some (slice_get doc.style.runs m.run)) _ f.stands.takes_run).0;
    run_free = free_next (u.column == doc.style.columns) u.side m.run u.column own.column.0;
    wide = wide (u.column == doc.style.columns) refl;
    fitness = fitness_next doc.style.version (is_text (context_in doc u m)) u.fitness
        (column_fitness (context_in doc u m)) (column_fitness_few (context_in doc u m)) own.fitness;
    placed = length-map-range_with_len _ 0 (length (float_numbers doc.style));
    called = next_called u m v c own f;
    waiting = length-map (waiting_behind doc u m) _;
    young = young_map doc (λ (float : ℕ × ℕ). age_in doc u float + turns doc.style u) (waiting_behind doc u m)
        f.turns;
  })
    where
      wide : (b : Bool) → b ≡ (u.column == doc.style.columns) →
          option_map_or (λ (z : ℤ). not_first (if b then 1 else u.column + 1)
          && (int_le (pos 0) z && int_lt z (pos (2 ^ 33)))) (if b then None else wide_in doc u m) true ≡ true
      wide true e = refl
      wide false e = wide_next u m (u.column + 1) own (ap not (more_than_one u.column own.column.0))

  -- ---- the start

  no_run : (b : Bool) → option_map_or (λ (run : ℕ). is_some (slice_get doc.style.runs run))
      (if b then None else None) true ≡ true
  no_run true = refl
  no_run false = refl

  no_run_free : (side : Side) (b : Bool) → (is_same_side side R || not_some (if b then None else None)) ≡ true
  no_run_free L true = refl
  no_run_free L false = refl
  no_run_free R b = refl
  no_run_free S true = refl
  no_run_free S false = refl

  pub own_start : IsState doc (state_at doc [])
  own_start = record {
    place = start_place doc.blocks blocks;
    column = (omega arith, (range.columns_from, omega arith));
    side = first_side doc.style.first;
    run = no_run ((1 == 1) && not (is_right (side_of doc.style.first 1)));
    run_free = no_run_free (side_of doc.style.first 1) ((1 == 1) && not (is_right (side_of doc.style.first 1)));
    wide = refl;
    fitness = refl;
    placed = length-map-range_with_len _ 0 (length (float_numbers doc.style));
    called = all_of (λ (slot : ℕ). nat_le (entry (placed_of doc.style []) slot)
        (entry (called doc.blocks doc.style (place_of [])) slot)) (slots doc.style)
        (λ slot a. (let r = slot_below 0 (length (float_numbers doc.style)) slot a in
        let q : slot < 0 + length (float_numbers doc.style) = r.1 in
        let z : entry (placed_of doc.style []) slot ≡ 0 =
        entry_slots doc.style (λ (_ : ℕ). 0) slot (omega arith) in le-leb _ _ (omega arith)));
    waiting = length-map (waiting doc []) _;
    young = young_map doc (age doc []) (waiting doc [])
        (all_of (λ (x : ℕ × ℕ). nat_lt (age doc [] x) (length (distance_table doc.style x.0)))
        (waiting doc [])
        (λ x a. (let r : IsBetween doc.style (placed_of doc.style [])
        (called doc.blocks doc.style (place_of [])) x =
        between_at doc.style (placed_of doc.style []) (called doc.blocks doc.style (place_of [])) x a in
        let z : entry (called doc.blocks doc.style (place_of [])) x.0 ≡ 0 =
        entry_zero (float_numbers doc.style) x.0 in
        let q : x.1 < entry (called doc.blocks doc.style (place_of [])) x.0 = r.to in absurd (omega arith))));
  }
