-- A step of the parts that were settled.
use Rattle.std.proofs.Common.{◌≡◌, refl, sym, subst, ap, ◌∙◌, ℕ, ◌+◌, ◌*◌, ◌^◌, ◌≤◌, List, [], Bool, true, Option, Some, None, ℤ, arith}
use Rattle.std.specs.Prelude.{◌==◌, if◌then◌else◌, nat_abs, pos, ◌+ℤ◌, IfSome}
use Rattle.std.proofs.lemmas.Int.{ints}
use Rattle.pg_style.specs.Values.{StyleValue}
use Rattle.pg_rules.specs.Floats.{total_count}
use Rattle.law_space.specs.PageSpace.{place_rank, rank}
use Rattle.pg_list.specs.declared.galley.Place.{Place}
use Rattle.pg_plan.specs.declared.pages.PageMove.{PageMove}
use Rattle.pg_plan.specs.declared.states.State.{State}
use Rattle.pg_candidates.specs.RoomEnds.{end_of, picks_at}
use Rattle.pg_candidates.specs.declared.room_end.RoomEnd.{RoomEnd}
use Rattle.pg_rules.specs.Cost.{run_demerits}
use Rattle.pg_rules.specs.Follow.{fills_page, keeps_run, other_side, turns}
use Rattle.pg_rules.specs.Room.{Document}
use Rattle.pg_table.specs.declared.step.Step.{Step}
use Rattle.pg_layouts.specs.Layouts.{move_of}
use Rattle.law_moves.specs.Ages.{ages_left, float_cost}
use Rattle.law_moves.specs.Listed.{layout_cost, listed_end, listed_stay, placed_with, state_to}
use Rattle.law_moves.specs.Steps.{fitness_cost, kept_fitness, wide_of}
use Rattle.pg_rooms.specs.Laid.{laid_of}
use Rattle.pg_rooms.specs.declared.laid.Laid.{Laid}
use Rattle.pg_states.specs.Settling.{Settles}
use Rattle.pg_states.specs.declared.settling.Settled.{Settled}
use Rattle.pg_moves.specs.Stepping.{IsBehind, cost_at, fitness_behind, page_price, rank_tail, state_behind, stay_price}
use Rattle.pg_moves.specs.Outdone.{AreSpared, IsAsked, marked_at}
use Rattle.pg_moves.specs.declared.behind.Behind.{Behind}
use Rattle.pg_moves.specs.declared.behind.Reached.{Reached}

module _ (doc : Document) (u : State) (laid : Laid) (is : laid ≡ laid_of doc u laid.layout) where
  after_is : laid.after ≡ placed_with doc.style u.placed laid.layout
  after_is = ap (λ (it : Laid). it.after) is

  -- and how many floats that are
  pub placed_is : laid.placed ≡ total_count laid.after
  placed_is = ap (λ (it : Laid). it.placed) is ∙ ap total_count (sym after_is)

  -- the state behind it
  state_is : (to : Place) (fitness : Option ℕ) (settled : Settled) → Settles doc u to laid.after (Some settled) →
      state_behind doc.style u laid to fitness settled.ages ≡ state_to doc u laid.layout to fitness
  state_is to fitness settled s =
      ap (λ (wide : Option ℤ). with_parts wide laid.after settled.ages) (ap (λ (it : Laid). it.wide) is)
      ∙ (ap (λ (after : List ℕ). with_parts (wide_of doc u laid.layout.wide) after settled.ages) after_is
      ∙ ap (with_parts (wide_of doc u laid.layout.wide) (placed_with doc.style u.placed laid.layout))
      (s.1.0 ∙ ap (λ (after : List ℕ). ages_left doc u to after (turns doc.style u)) after_is))
    where
      with_parts : Option ℤ → List ℕ → List ℕ → State
      with_parts wide after ages = record {
        place = to;
        column = if fills_page doc.style u then 1 else u.column + 1;
        side = if fills_page doc.style u then other_side u.side else u.side;
        run = if fills_page doc.style u then keeps_run u.side laid.layout.run else Some laid.layout.run;
        wide = if fills_page doc.style u then None else wide;
        fitness = fitness;
        placed = after;
        ages = ages;
      }

  -- what it pays for its page's run and for its floats
  price_is : (to : Place) (settled : Settled) → Settles doc u to laid.after (Some settled) →
      page_price doc.style u laid settled.price ≡ layout_cost doc u laid.layout to
  price_is to settled s =
      ap (λ (price : ℤ). (if u.column == 1 then run_demerits doc.style laid.layout.run else pos 0) +ℤ price)
      (s.1.1.0 ∙ ap (float_cost doc u to) after_is)

  abbrev pub step : State → PageMove → ℤ → Step State PageMove
  step to by cost = record { to = to; by = by; cost = cost }

  same_step : (to next : State) (by move : PageMove) (cost pays : ℤ) → to ≡ next → by ≡ move → cost ≡ pays →
      step to by cost ≡ step next move pays
  same_step to next by move cost pays s m p =
      ap (λ (v : State). step v by cost) s ∙ (ap (λ (v : PageMove). step next v cost) m ∙ ap (step next move) p)

  -- the step of a column of text to an end
  pub end_is : (cs : List (List ℕ)) (end : RoomEnd) (settled : Settled) (to : State) (by : PageMove) (cost : ℤ) →
      to ≡ state_behind doc.style u laid end.to (kept_fitness doc.style end.cost.fitness) settled.ages →
      by ≡ move_of u laid.layout end.to (picks_at cs end.at) → cost ≡ cost_at doc.style u laid end settled.price →
      Settles doc u end.to laid.after (Some settled) → step to by cost ≡ listed_end doc u laid.layout (end_of cs end)
  end_is cs end settled to by cost s m p settles = same_step to
      (state_to doc u laid.layout end.to (kept_fitness doc.style end.cost.fitness)) by
      (move_of u laid.layout end.to (picks_at cs end.at)) cost _
      (s ∙ state_is end.to (kept_fitness doc.style end.cost.fitness) settled settles) m
      (p ∙ ap (λ (price : ℤ). (end.cost.demerits +ℤ end.pick_demerits)
      +ℤ (price +ℤ fitness_cost doc.style u.fitness end.cost.fitness)) (price_is end.to settled settles))

  -- the step of a column without text
  pub stay_is : (settled : Settled) (to : State) (by : PageMove) (cost : ℤ) →
      to ≡ state_behind doc.style u laid u.place (fitness_behind doc.style u) settled.ages →
      by ≡ move_of u laid.layout u.place [] → cost ≡ stay_price doc.style u laid settled.price →
      Settles doc u u.place laid.after (Some settled) → step to by cost ≡ listed_stay doc u laid.layout
  stay_is settled to by cost s m p settles = same_step to
      (state_to doc u laid.layout u.place (fitness_behind doc.style u)) by (move_of u laid.layout u.place []) cost _
      (s ∙ state_is u.place (fitness_behind doc.style u) settled settles) m
      (p ∙ ap (λ (price : ℤ). pos doc.style.float_column.demerits +ℤ price) (price_is u.place settled settles))

  -- the state that is asked about, and the cost, are those of the step
  pub asked_is : (cs : List (List ℕ)) (end : RoomEnd) (settled : Settled) (it new : Behind) (cost : ℤ) →
      new ≡ record it {
        state = record it.state { place = end.to; fitness = kept_fitness doc.style end.cost.fitness };
      } → IsBehind doc.style u laid settled it → cost ≡ (end.cost.demerits +ℤ end.pick_demerits)
      +ℤ (it.page +ℤ fitness_cost doc.style u.fitness end.cost.fitness) →
      Settles doc u end.to laid.after (Some settled) →
      step new.state (move_of u laid.layout end.to (picks_at cs end.at)) cost
      ≡ listed_end doc u laid.layout (end_of cs end)
  asked_is cs end settled it new cost e b k settles = end_is cs end settled new.state
      (move_of u laid.layout end.to (picks_at cs end.at)) cost
      (ap (λ (x : Behind). x.state) e ∙ ap (λ (s : State).
      record s { place = end.to; fitness = kept_fitness doc.style end.cost.fitness }) b.state) refl
      (k ∙ ap (λ (page : ℤ). (end.cost.demerits +ℤ end.pick_demerits)
      +ℤ (page +ℤ fitness_cost doc.style u.fitness end.cost.fitness)) b.page) settles

-- it stays behind the column, up to another end
pub still_behind : (style : StyleValue) (u : State) (laid : Laid) (settled : Settled) (it new : Behind) (to : Place)
    (fitness : Option ℕ) → new ≡ record it { state = record it.state { place = to; fitness = fitness } } →
    IsBehind style u laid settled it → IsBehind style u laid settled new
still_behind style u laid settled it new to fitness e b = subst (IsBehind style u laid settled) (sym e) (record {
  state = ap (λ (s : State). record s { place = to; fitness = fitness }) b.state;
  page = b.page;
  small = b.small;
})

-- it stays behind the column, whatever is remembered of it
pub still_asked : (style : StyleValue) (u : State) (laid : Laid) (settled : Settled) (it new : Behind)
    (reached : Option Reached) → new ≡ record it { reached = reached } → IsBehind style u laid settled it →
    IsBehind style u laid settled new
still_asked style u laid settled it new reached e b = subst (IsBehind style u laid settled) (sym e) (record {
  state = b.state;
  page = b.page;
  small = b.small;
})

asked_along : (o : Option Reached) (u : State) (to : Place) (fitness : Option ℕ) → IfSome o (IsAsked u) →
    IfSome o (IsAsked (record u { place = to; fitness = fitness }))
asked_along None u to fitness s = tt
asked_along (Some it) u to fitness s = record { line = s.line; small = s.small }

-- what is remembered stays of its line, up to another end
pub still_spared : (spared : State → ℤ → Bool) (it new : Behind) (to : Place) (fitness : Option ℕ) →
    new ≡ record it { state = record it.state { place = to; fitness = fitness } } → AreSpared spared it →
    AreSpared spared new
still_spared spared it new to fitness e s = subst (AreSpared spared) (sym e) (record {
  asked = asked_along it.reached it.state to fitness s.asked;
  late = s.late;
})

-- what is remembered of the state at an end, told of its step
pub late_at : (style : StyleValue) (u : State) (spared : State → ℤ → Bool) (it : Behind) (v : State) (text pays : ℤ) →
    AreSpared spared it → marked_at it.reached v (text +ℤ pays) ≡ true → spared v (text +ℤ (it.page +ℤ pays)) ≡ true
late_at style u spared it v text pays s h =
    subst (λ (c : ℤ). spared v c ≡ true) (in_order it.page text pays) (s.late v (text +ℤ pays) h)
  where
    in_order : (a b c : ℤ) → a +ℤ (b +ℤ c) ≡ b +ℤ (a +ℤ c)
    in_order a b c = omega (arith, ints)

-- a rank of its parts, and what 64 bits hold of it
pub rank_is : (doc : Document) (u : State) (place tail : ℕ) → place ≡ place_rank u.place → tail ≡ rank_tail u →
    2 ^ 18 * place + tail ≡ rank doc u
rank_is doc u place tail p t = omega (arith, p, t)

-- ---- the state behind a column

pub behind_is : (style : StyleValue) (u : State) (laid : Laid) (settled : Settled) (to : Place) (fitness : Option ℕ)
    (next state : State) (page : ℤ) (reached : Option Reached) → next ≡ state_behind style u laid to fitness settled.ages →
    page ≡ page_price style u laid settled.price → nat_abs page ≤ 2 ^ 52 → state ≡ next →
    IsBehind style u laid settled (record { state = state; page = page; reached = reached })
behind_is style u laid settled to fitness next state page reached is price small same = record {
  state = subst (λ (v : State). v ≡ state_behind style u laid v.place v.fitness settled.ages) (sym (same ∙ is)) refl;
  page = price;
  small = small;
}
