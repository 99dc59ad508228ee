-- What follows a state in the front, up to a place in the front, whatever stands behind the front.
use Rattle.std.proofs.Common.{◌≡◌, sym, ap, subst, ◌∙◌, ℕ, ◌+◌, ◌<◌, ◌⊎◌, inl, inr, List, ◌∷◌, ◌++◌, length, map, Bool, true, false, Option, Some, None}
use Rattle.std.specs.Prelude.{◌==◌, ◌||◌, if◌then◌else◌, nat_lt, ℤ, ◌<ℤ◌}
use Rattle.pg_list.specs.Flat.{is_same_place}
use Rattle.std.specs.List.{list_all}
use Rattle.std.specs.Ordering.{is_gt}
use Rattle.pg_list.specs.declared.blocks.Block.{Block}
use Rattle.pg_list.specs.declared.galley.Place.{Place}
use Rattle.pg_plan.specs.Order.{picks_cmp}
use Rattle.pg_plan.specs.declared.pages.Column.{Column}
use Rattle.pg_plan.specs.declared.pages.PageMove.{PageMove}
use Rattle.pg_plan.specs.declared.states.State.{State}
use Rattle.pg_style.specs.Values.{StyleValue}
use Rattle.pg_list.proofs.Places.{same_place}
use Rattle.pg_rules.specs.BestPicks.{IsLeast, keeps_text, text_cost, with_picks}
use Rattle.pg_rules.specs.ColumnRules.{does_fit}
use Rattle.pg_rules.specs.Cost.{column_cost}
use Rattle.pg_rules.specs.Floats.{called, distance_table, entry, float_count, floats, floats_between, has_all, is_area_allowed, plus_counts, takes_wide}
use Rattle.pg_rules.specs.Follow.{Follow, KeepsColumnRules, MayStand, age_among, age_in, context_in, fills_page, keeps_run, next_state, other_side, turns, wide_in}
use Rattle.pg_rules.specs.History.{column_fitness, fitness_after, placed_after, with_wide}
use Rattle.pg_rules.specs.Legal.{added, keeps_barriers}
use Rattle.pg_rules.specs.Room.{ColumnContext, Document, is_text}
use Rattle.law_space.specs.PageSpace.{FollowBest}
use Rattle.pg_lemmas.proofs.Bools.{both, both_of, by_bool, not_false, or_left}
use Rattle.law_edits.proofs.Barriers.{text_keeps}
use Rattle.law_edits.proofs.Behind.{GoesOn, front_each}
use Rattle.law_edits.proofs.Callouts.{DealsIn, called_in, deals_in}
use Rattle.law_edits.proofs.Columns.{twins}
use Rattle.law_edits.proofs.Floats.{has_in, height_in}
use Rattle.law_edits.proofs.Reaches.{document_of}
use Rattle.law_edits.proofs.Twins.{Twins, context_of, cost_same, fitness_after_same, fitness_same, rules_same, text_cost_same, text_same}

-- ---- by the callouts before places

abbrev age_by : StyleValue → State → List ℕ → ℕ × ℕ → ℕ
age_by style u counts float =
    if nat_lt float.1 (entry counts float.0) then age_among (floats_between style u.placed counts) u.ages float else 0

abbrev ages_by : StyleValue → State → PageMove → List ℕ → List ℕ → List ℕ
ages_by style u m counts others = map (λ (float : ℕ × ℕ). age_by style u counts float + turns style u)
    (floats_between style (placed_after style u.placed m) others)

abbrev may_turn_by : StyleValue → State → PageMove → List ℕ → List ℕ → Bool
may_turn_by style u m counts others = list_all (λ (float : ℕ × ℕ). nat_lt (age_by style u counts float + turns style u)
    (length (distance_table style float.0))) (floats_between style (placed_after style u.placed m) others)

abbrev state_by : StyleValue → State → PageMove → Option ℤ → Option ℕ → List ℕ → State
state_by style u m wide fitness ages = record {
  place = m.column.to;
  column = if fills_page style u then 1 else u.column + 1;
  side = if fills_page style u then other_side u.side else u.side;
  run = if fills_page style u then keeps_run u.side m.run else Some m.run;
  wide = if fills_page style u then None else wide;
  fitness = fitness;
  placed = placed_after style u.placed m;
  ages = ages;
}

-- ---- picks that are best in the one are best in the other

module _ (style : StyleValue) {front : List Block} {next : Block} {ra rb : List Block} (a : GoesOn front next ra)
    (b : GoesOn front next rb) (column : Column) (run : ℕ) (wide : Option ℤ) (before : List ℕ)
    (from_in : column.from.block < length front) (to_in : column.to.block < length front)
    (top : has_all (floats front style) before column.top ≡ true)
    (bottom : has_all (floats front style) (plus_counts style before column.top) column.bottom ≡ true)
    (fits : does_fit (context_of style (front ++ next ∷ ra) column run wide before) ≡ true) where
  abbrev it : ColumnContext
  it = context_of style (front ++ next ∷ ra) column run wide before

  abbrev other : ColumnContext
  other = context_of style (front ++ next ∷ rb) column run wide before

  here : Twins it other
  here = twins style a b column run wide before from_in to_in top bottom fits

  least_same : IsLeast it → IsLeast other
  least_same l = record { least = by }
    where
      carry : (i j k l : ℤ) → i ≡ j → k ≡ l → (picks : List ℕ) →
          (i <ℤ k) ⊎ ((i ≡ k) × (is_gt (picks_cmp column.picks picks) ≡ false)) →
          (j <ℤ l) ⊎ ((j ≡ l) × (is_gt (picks_cmp column.picks picks) ≡ false))
      carry i j k l p q picks (inl h) = inl (subst (λ (x : ℤ). x <ℤ l) p (subst (λ (x : ℤ). i <ℤ x) q h))
      carry i j k l p q picks (inr (h, o)) = inr (sym p ∙ (h ∙ q), o)

      by : (picks : List ℕ) → is_text other ≡ true → keeps_text (with_picks other picks) ≡ true →
          column_fitness (with_picks other picks) ≡ column_fitness other →
          (text_cost other <ℤ text_cost (with_picks other picks))
          ⊎ ((text_cost other ≡ text_cost (with_picks other picks))
          × (is_gt (picks_cmp other.column.picks picks) ≡ false))
      by picks t k f =
          let s = both_of (does_fit (with_picks other picks)) _ k in
          let w : Twins (with_picks other picks) (with_picks it picks) =
          twins style b a (record column { picks = picks }) run wide before from_in to_in top bottom s.0 in
          carry (text_cost it) (text_cost other) (text_cost (with_picks it picks)) (text_cost (with_picks other picks))
          (text_cost_same here) (sym (text_cost_same w)) picks
          (l.least picks t
          (both (does_fit (with_picks it picks)) _ w.fits_other (sym (text_same w) ∙ s.1))
          (sym (fitness_same w) ∙ (f ∙ sym (fitness_same here))))

-- ---- columns

module _ (style : StyleValue) {front : List Block} {next : Block} {ra rb : List Block} (a : GoesOn front next ra)
    (b : GoesOn front next rb) (u : State) (m : PageMove) (v : State) (c : ℤ)
    (from_in : u.place.block < length front) (to_in : v.place.block < length front)
    (f : Follow (document_of style (front ++ next ∷ ra)) u m v c) where
  abbrev one : Document
  one = document_of style (front ++ next ∷ ra)

  abbrev two : Document
  two = document_of style (front ++ next ∷ rb)

  starts_in : m.column.from.block < length front
  starts_in = subst (λ (at : Place). at.block < length front) (sym (same_place m.column.from u.place f.starts)) from_in

  ends_in : m.column.to.block < length front
  ends_in = subst (λ (x : State). x.place.block < length front) f.leads to_in

  deals : DealsIn front style u.placed m
  deals = deals_in front (next ∷ ra) (front_each a) style u.placed m ends_in f.stands.callouts

  wide_same : wide_in one u m ≡ wide_in two u m
  wide_same = ap (λ (h : ℤ). if u.column == 1 then (if nat_lt 0 (float_count style m.wide) then Some h else None)
      else u.wide)
      (height_in front (next ∷ ra) style u.placed m.wide deals.wide
      (is_area_allowed style takes_wide style.wide.count m.wide) style.wide
      ∙ sym (height_in front (next ∷ rb) style u.placed m.wide deals.wide
      (is_area_allowed style takes_wide style.wide.count m.wide) style.wide))

  abbrev other_context : ColumnContext
  other_context =
      context_of style (front ++ next ∷ rb) m.column m.run (wide_in one u m) (with_wide style u.placed m)

  context_same : other_context ≡ context_in two u m
  context_same = ap (λ (w : Option ℤ).
      context_of style (front ++ next ∷ rb) m.column m.run w (with_wide style u.placed m)) wide_same

  same : Twins (context_in one u m) other_context
  same = twins style a b m.column m.run (wide_in one u m) (with_wide style u.placed m) starts_in ends_in deals.top
      deals.bottom f.stands.rules.fits

  called_from : called (front ++ next ∷ ra) style u.place ≡ called (front ++ next ∷ rb) style u.place
  called_from = called_in front (next ∷ ra) style u.place from_in
      ∙ sym (called_in front (next ∷ rb) style u.place from_in)

  called_to : called (front ++ next ∷ ra) style m.column.to ≡ called (front ++ next ∷ rb) style m.column.to
  called_to = called_in front (next ∷ ra) style m.column.to ends_in
      ∙ sym (called_in front (next ∷ rb) style m.column.to ends_in)

  barriers : keeps_barriers two u.placed m ≡ true
  barriers = by_bool (is_same_place m.column.from m.column.to) (λ t. or_left (is_same_place m.column.from m.column.to) _ t)
      (λ n. sym (ap (λ (b : Bool). is_same_place m.column.from m.column.to || b) (text_keeps style a m.column m.run
      (wide_in one u m) (with_wide style u.placed m) starts_in ends_in f.stands.rules.fits f.stands.rules.well_formed
      (not_false (is_same_place m.column.from m.column.to) n) rb u.placed (placed_after style u.placed m)))
      ∙ f.stands.barriers)

  may_stand : MayStand two u.column u.run u.placed m (context_in two u m)
  may_stand = record {
    takes_run = f.stands.takes_run;
    wide = f.stands.wide;
    deals = both (has_all (floats (front ++ next ∷ rb) style) u.placed m.wide) _
        (has_in front (next ∷ rb) style u.placed m.wide deals.wide)
        (both (has_all (floats (front ++ next ∷ rb) style) (with_wide style u.placed m) m.column.top) _
        (has_in front (next ∷ rb) style (with_wide style u.placed m) m.column.top deals.top)
        (has_in front (next ∷ rb) style (plus_counts style (with_wide style u.placed m) m.column.top)
        m.column.bottom deals.bottom));
    callouts = ap (λ (counts : List ℕ). list_all (λ (float : ℕ × ℕ). nat_lt float.1 (entry counts float.0))
        (added one u.placed m)) (sym called_to) ∙ f.stands.callouts;
    barriers = barriers;
    rules = subst KeepsColumnRules context_same (rules_same same f.stands.rules);
  }

  fitness_is : fitness_after u.fitness (context_in one u m) ≡ fitness_after u.fitness (context_in two u m)
  fitness_is = fitness_after_same same u.fitness ∙ ap (fitness_after u.fitness) context_same

  -- what is made of the callouts before the column's start and before its end
  by_callouts : {X : Type 0} (make : List ℕ → List ℕ → X) →
      make (called (front ++ next ∷ ra) style u.place) (called (front ++ next ∷ ra) style m.column.to)
      ≡ make (called (front ++ next ∷ rb) style u.place) (called (front ++ next ∷ rb) style m.column.to)
  by_callouts make =
      ap (λ (counts : List ℕ). make counts (called (front ++ next ∷ ra) style m.column.to)) called_from
      ∙ ap (make (called (front ++ next ∷ rb) style u.place)) called_to

  state_same : next_state one u m ≡ next_state two u m
  state_same =
      ap (λ (w : Option ℤ). state_by style u m w (fitness_after u.fitness (context_in one u m))
      (ages_by style u m (called (front ++ next ∷ ra) style u.place)
      (called (front ++ next ∷ ra) style m.column.to))) wide_same
      ∙ (ap (λ (x : Option ℕ). state_by style u m (wide_in two u m) x
      (ages_by style u m (called (front ++ next ∷ ra) style u.place)
      (called (front ++ next ∷ ra) style m.column.to))) fitness_is
      ∙ ap (state_by style u m (wide_in two u m) (fitness_after u.fitness (context_in two u m)))
      (by_callouts (ages_by style u m)))

  pub follow_same : Follow two u m v c
  follow_same = record {
    starts = f.starts;
    stands = may_stand;
    turns = sym (by_callouts (may_turn_by style u m)) ∙ f.turns;
    pays = f.pays ∙ (cost_same same u.column u.fitness (age_in one u) (added one u.placed m)
        ∙ (ap (λ (x : ColumnContext). column_cost x u.column u.fitness (age_in one u) (added one u.placed m))
        context_same
        ∙ ap (λ (counts : List ℕ). column_cost (context_in two u m) u.column u.fitness (age_by style u counts)
        (added one u.placed m)) called_from));
    leads = f.leads ∙ state_same;
  }

  pub best_same : IsLeast (context_in one u m) → FollowBest two u m v c
  best_same l = record {
    follow = follow_same;
    least = subst IsLeast context_same (least_same style a b m.column m.run (wide_in one u m)
        (with_wide style u.placed m) starts_in ends_in deals.top deals.bottom f.stands.rules.fits l);
  }
