-- The test says of each value whether it is a state.
use Rattle.std.proofs.Common.{◌≡◌, refl, sym, ap, subst, ◌∙◌, ℕ, zero, suc, ◌+◌, ◌-◌, ◌≤◌, ◌<◌, ◌⊎◌, inl, inr, List, [], ◌∷◌, ◌++◌, map, length, length-append, length-drop, take, drop, Bool, true, false, Option, Some, None, arith}
use Rattle.std.specs.Prelude.{◌==◌, ◌&&◌, ◌||◌, not, nat_le, nat_lt, is_some, slice_get}
use Rattle.std.specs.List.{list_all, range_with_len}
use Rattle.std.specs.Option.{option_map_or}
use Rattle.std.proofs.lemmas.Option.{slice_get_within}
use Rattle.pg_list.specs.declared.blocks.Block.{Block}
use Rattle.pg_list.specs.declared.galley.Place.{Place}
use Rattle.pg_list.specs.Places.{items_around}
use Rattle.pg_plan.specs.declared.states.State.{State}
use Rattle.pg_style.specs.declared.style.Run.{Run}
use Rattle.pg_list.specs.Flat.{end_of, is_same_place}
use Rattle.pg_rules.specs.Floats.{called, distance_table, entry, float_numbers, numbered, total_count}
use Rattle.pg_rules.specs.Follow.{waiting_in}
use Rattle.pg_rules.specs.IsState.{IsPlace, IsState, are_young, has_side, not_first}
use Rattle.pg_rules.specs.Room.{Document}
use Rattle.law_columns.proofs.ColumnCounts.{total_cons}
use Rattle.std.proofs.lemmas.Bool.{eqb-true, le-leb, leb-true}
use Rattle.law_columns.proofs.Waiting.{slotted}
use Rattle.pg_lemmas.proofs.Bools.{both, both_of}
use Rattle.pg_lemmas.proofs.Numbers.{eq_refl, less_of, less_true}
use Rattle.law_moves.specs.Ages.{waits_of}
use Rattle.law_moves.proofs.Ages.{between_long}
use Rattle.law_moves.specs.StateTest.{has_column, has_fields, has_floats, has_run_field, has_place, is_state, young_by}

-- ---- ages

and_grouped : (a b c : Bool) → (a && (b && c)) ≡ ((a && b) && c)
and_grouped true b c = refl
and_grouped false b c = refl

module _ (doc : Document) where
  abbrev limit : ℕ → ℕ
  limit slot = length (distance_table doc.style slot)

  young_class : (slot n k : ℕ) (rest : List (ℕ × ℕ)) (ages : List ℕ) → k ≤ length ages →
      are_young doc ages (numbered slot n k ++ rest)
      ≡ (list_all (λ (age : ℕ). nat_lt age (limit slot)) (take k ages) && are_young doc (drop k ages) rest)
  young_class slot n zero rest ages h = refl
  young_class slot n (suc k) rest [] h = absurd (omega arith)
  young_class slot n (suc k) rest (age ∷ ages) h =
      ap (λ (b : Bool). nat_lt age (limit slot) && b) (young_class slot (n + 1) k rest ages (omega arith))
      ∙ and_grouped (nat_lt age (limit slot)) (list_all (λ (age : ℕ). nat_lt age (limit slot)) (take k ages))
      (are_young doc (drop k ages) rest)

  young_is : (a b : List ℕ) (f k : ℕ) (ages : List ℕ) →
      length ages ≡ length (slotted a b (range_with_len f k)) →
      are_young doc ages (slotted a b (range_with_len f k))
      ≡ young_by limit f (map (λ (slot : ℕ). entry b slot - entry a slot) (range_with_len f k)) ages
  young_is a b f zero [] l = refl
  young_is a b f zero (age ∷ ages) l = absurd (omega arith)
  young_is a b f (suc k) ages l =
      let n : length (numbered f (entry a f) (entry b f - entry a f) ++ slotted a b (range_with_len (f + 1) k))
      ≡ length (numbered f (entry a f) (entry b f - entry a f)) + length (slotted a b (range_with_len (f + 1) k)) =
      length-append (numbered f (entry a f) (entry b f - entry a f)) (slotted a b (range_with_len (f + 1) k)) in
      let m : length (numbered f (entry a f) (entry b f - entry a f)) ≡ entry b f - entry a f =
      between_long a b f in
      let q : length (drop (entry b f - entry a f) ages) ≡ length ages - (entry b f - entry a f) =
      length-drop (entry b f - entry a f) ages in
      young_class f (entry a f) (entry b f - entry a f) (slotted a b (range_with_len (f + 1) k)) ages (omega arith)
      ∙ ap (λ (t : Bool). list_all (λ (age : ℕ). nat_lt age (limit f)) (take (entry b f - entry a f) ages) && t)
      (young_is a b (f + 1) k (drop (entry b f - entry a f) ages) (omega arith))

slotted_length : (a b : List ℕ) (f k : ℕ) → length (slotted a b (range_with_len f k))
    ≡ total_count (map (λ (slot : ℕ). entry b slot - entry a slot) (range_with_len f k))
slotted_length a b f zero = refl
slotted_length a b f (suc k) =
    let n : length (numbered f (entry a f) (entry b f - entry a f) ++ slotted a b (range_with_len (f + 1) k))
    ≡ length (numbered f (entry a f) (entry b f - entry a f)) + length (slotted a b (range_with_len (f + 1) k)) =
    length-append (numbered f (entry a f) (entry b f - entry a f)) (slotted a b (range_with_len (f + 1) k)) in
    let m : length (numbered f (entry a f) (entry b f - entry a f)) ≡ entry b f - entry a f =
    between_long a b f in
    let r : length (slotted a b (range_with_len (f + 1) k))
    ≡ total_count (map (λ (slot : ℕ). entry b slot - entry a slot) (range_with_len (f + 1) k)) =
    slotted_length a b (f + 1) k in
    let t : total_count ((entry b f - entry a f) ∷ map (λ (slot : ℕ). entry b slot - entry a slot)
    (range_with_len (f + 1) k)) ≡ (entry b f - entry a f)
    + total_count (map (λ (slot : ℕ). entry b slot - entry a slot) (range_with_len (f + 1) k)) =
    total_cons (entry b f - entry a f) (map (λ (slot : ℕ). entry b slot - entry a slot) (range_with_len (f + 1) k)) in
    omega arith

-- ---- runs and places

run_some : (runs : List Run) (run : ℕ) → nat_lt run (length runs) ≡ true → is_some (slice_get runs run) ≡ true
run_some runs run t = each runs run (less_true run (length runs) t)
  where
    each : (runs : List Run) (run : ℕ) → run < length runs → is_some (slice_get runs run) ≡ true
    each [] run h = absurd (omega arith)
    each (x ∷ xs) zero h = refl
    each (x ∷ xs) (suc run) h = each xs run (omega arith)

some_run : (runs : List Run) (run : ℕ) → is_some (slice_get runs run) ≡ true → nat_lt run (length runs) ≡ true
some_run runs run t = by (slice_get runs run) refl t
  where
    by : (o : Option Run) → slice_get runs run ≡ o → is_some o ≡ true → nat_lt run (length runs) ≡ true
    by None e t = absurd cc
    by (Some it) e t = less_of run (length runs) (slice_get_within runs run it e)

pub place_test : (blocks : List Block) (at : Place) → has_place blocks at ≡ true → IsPlace blocks at
place_test blocks at t =
    let p = both_of (is_same_place at (end_of blocks) || nat_lt at.index (length (items_around blocks at))) _ t in
    record {
      within = by (is_same_place at (end_of blocks)) refl p.0;
      front = λ z. first (at.index == 0) (subst (λ (n : ℕ). (n == 0) ≡ true) (sym z) (eq_refl 0)) p.1;
    }
  where
    by : (b : Bool) → b ≡ is_same_place at (end_of blocks) →
        (b || nat_lt at.index (length (items_around blocks at))) ≡ true →
        (is_same_place at (end_of blocks) ≡ true) ⊎ (at.index < length (items_around blocks at))
    by true e t = inl (sym e)
    by false e t = inr (less_true at.index (length (items_around blocks at)) t)

    first : (b : Bool) → b ≡ true → (not b || (at.variant == 0)) ≡ true → at.variant ≡ 0
    first true e t = eqb-true at.variant 0 t
    first false e t = absurd cc

pub test_place : (blocks : List Block) (at : Place) → IsPlace blocks at → has_place blocks at ≡ true
test_place blocks at p = both _ _ (by p.within) (front (at.index == 0) refl)
  where
    by : (is_same_place at (end_of blocks) ≡ true) ⊎ (at.index < length (items_around blocks at)) →
        (is_same_place at (end_of blocks) || nat_lt at.index (length (items_around blocks at))) ≡ true
    by (inl t) = subst (λ (b : Bool). (b || nat_lt at.index (length (items_around blocks at))) ≡ true) (sym t) refl
    by (inr h) = or_right (is_same_place at (end_of blocks)) _ (less_of at.index (length (items_around blocks at)) h)
      where
        or_right : (a b : Bool) → b ≡ true → (a || b) ≡ true
        or_right true b h = refl
        or_right false b h = h

    front : (b : Bool) → b ≡ (at.index == 0) → (not b || (at.variant == 0)) ≡ true
    front false e = refl
    front true e = subst (λ (n : ℕ). (n == 0) ≡ true) (sym (p.front (eqb-true at.index 0 (sym e)))) (eq_refl 0)

option_all : {X : Type 0} (p q : X → Bool) (o : Option X) → ((x : X) → p x ≡ true → q x ≡ true) →
    option_map_or p o true ≡ true → option_map_or q o true ≡ true
option_all p q None h t = refl
option_all p q (Some x) h t = h x t

-- ---- the test

module _ (doc : Document) (u : State) where
  waits_length : length (waiting_in doc u) ≡ total_count (waits_of doc u)
  waits_length = slotted_length u.placed (called doc.blocks doc.style u.place) 0 (length (float_numbers doc.style))

  young_same : length u.ages ≡ length (waiting_in doc u) → are_young doc u.ages (waiting_in doc u)
      ≡ young_by (λ (slot : ℕ). length (distance_table doc.style slot)) 0 (waits_of doc u) u.ages
  young_same l = young_is doc u.placed (called doc.blocks doc.style u.place) 0 (length (float_numbers doc.style))
      u.ages l

  pub test_state : is_state doc u ≡ true → IsState doc u
  test_state t =
      let a = both_of (has_place doc.blocks u.place) _ t in
      let b = both_of (has_column doc u) _ a.1 in
      let c = both_of (has_side doc.style.first u.side) _ b.1 in
      let d = both_of (has_run_field doc u) _ c.1 in
      let e = both_of (has_fields doc u) (has_floats doc u) d.1 in
      let f = both_of (nat_le 1 u.column) _ b.0 in
      let g = both_of (nat_le u.column doc.style.columns) (nat_le u.column 2) f.1 in
      let h = both_of (option_map_or (λ (run : ℕ). nat_lt run (length doc.style.runs)) u.run true) _ d.0 in
      let i = both_of _ (option_map_or (λ (f : ℕ). not_first doc.style.version && nat_le f 3) u.fitness true) e.0 in
      let j = both_of (length u.placed == length (float_numbers doc.style)) _ e.1 in
      let k = both_of _ ((length u.ages == total_count (waits_of doc u))
      && young_by (λ (slot : ℕ). length (distance_table doc.style slot)) 0 (waits_of doc u) u.ages) j.1 in
      let l = both_of (length u.ages == total_count (waits_of doc u)) _ k.1 in
      let waits : length u.ages ≡ length (waiting_in doc u) =
      eqb-true (length u.ages) (total_count (waits_of doc u)) l.0 ∙ sym waits_length in
      record {
        place = place_test doc.blocks u.place a.0;
        column = (leb-true 1 u.column f.0, (leb-true u.column doc.style.columns g.0, leb-true u.column 2 g.1));
        side = c.0;
        run = option_all _ _ u.run (run_some doc.style.runs) h.0;
        run_free = h.1;
        wide = i.0;
        fitness = i.1;
        placed = eqb-true (length u.placed) (length (float_numbers doc.style)) j.0;
        called = k.0;
        waiting = waits;
        young = young_same waits ∙ l.1;
      }

  pub state_test : IsState doc u → is_state doc u ≡ true
  state_test s =
      both (has_place doc.blocks u.place) _ (test_place doc.blocks u.place s.place)
      (both (has_column doc u) _ (both (nat_le 1 u.column) _ (le-leb 1 u.column s.column.0)
      (both (nat_le u.column doc.style.columns) _ (le-leb u.column doc.style.columns s.column.1.0)
      (le-leb u.column 2 s.column.1.1)))
      (both (has_side doc.style.first u.side) _ s.side
      (both (has_run_field doc u) _
      (both (option_map_or (λ (run : ℕ). nat_lt run (length doc.style.runs)) u.run true) _
      (option_all _ _ u.run (some_run doc.style.runs) s.run) s.run_free)
      (both (has_fields doc u) _ (both _ _ s.wide s.fitness)
      (both (length u.placed == length (float_numbers doc.style)) _
      (subst (λ (n : ℕ). (n == length (float_numbers doc.style)) ≡ true) (sym s.placed)
      (eq_refl (length (float_numbers doc.style))))
      (both _ _ s.called
      (both (length u.ages == total_count (waits_of doc u)) _
      (subst (λ (n : ℕ). (n == total_count (waits_of doc u)) ≡ true) (sym (s.waiting ∙ waits_length))
      (eq_refl (total_count (waits_of doc u))))
      (sym (young_same s.waiting) ∙ s.young))))))))
