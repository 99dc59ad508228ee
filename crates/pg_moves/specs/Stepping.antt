-- The parts of a step to an end, from what is settled there.
use Rattle.std.specs.Prelude.{◌≡◌, ℕ, ◌+◌, ◌*◌, ◌^◌, ◌≤◌, nat_abs, Bool, true, ◌==◌, ◌&&◌, ◌||◌, nat_lt, if◌then◌else◌, is_some, List, [], ◌∷◌, ◌++◌, Option, Some, None, ℤ, pos, ◌+ℤ◌}
use Rattle.std.specs.Option.{option_map_or}
use Rattle.pg_column.specs.declared.cost.TextRoom.{TextRoom}
use Rattle.pg_list.specs.declared.galley.Place.{Place}
use Rattle.pg_plan.specs.declared.states.State.{State}
use Rattle.pg_style.specs.Values.{StyleValue}
use Rattle.pg_column.specs.declared.end.End.{End}
use Rattle.pg_rules.specs.Cost.{run_demerits}
use Rattle.pg_rules.specs.Floats.{total_count}
use Rattle.pg_rules.specs.Follow.{fills_page, keeps_run, other_side}
use Rattle.law_moves.specs.Steps.{fitness_cost, wide_of}
use Rattle.pg_plan.specs.declared.pages.PageMove.{PageMove}
use Rattle.pg_rules.specs.Room.{Document}
use Rattle.pg_table.specs.declared.step.Step.{Step}
use Rattle.pg_layouts.specs.declared.layout.Layout.{Layout}
use Rattle.law_walk.specs.Candidates.{has_text}
use Rattle.pg_candidates.specs.RoomEnds.{ends_of}
use Rattle.pg_candidates.specs.declared.room_end.RoomEnd.{RoomEnd}
use Rattle.law_moves.specs.Laws.{AreEndsOf}
use Rattle.law_moves.specs.Listed.{column_fits, listed_stay, listed_text, listed_with, opens, stays_on}
use Rattle.pg_rooms.specs.PlaceEnds.{ends_in, room_behind}
use Rattle.pg_rooms.specs.declared.behind.Behind.{Behind as BehindFront}
use Rattle.pg_rooms.specs.declared.place_ends.PlaceEnds.{PlaceEnds}
use Rattle.pg_rooms.specs.declared.place_ends.RoomEnds.{RoomEnds}
use Rattle.pg_states.specs.Settling.{Settles}
use Rattle.pg_states.specs.declared.settling.Settled.{Settled}
use Rattle.pg_rooms.specs.declared.laid.Laid.{Laid}
use Rattle.law_space.specs.PageSpace.{side_run}
use Rattle.pg_moves.specs.Thinned.{Thins}
use Rattle.pg_moves.specs.declared.behind.Behind.{Behind}

-- the state behind a column of a layout, up to a place, with a fitness and the ages of the floats that wait there
abbrev pub state_behind : StyleValue → State → Laid → Place → Option ℕ → List ℕ → State
state_behind style u laid to fitness ages = record {
  place = to;
  column = if fills_page style u then 1 else u.column + 1;
  side = if fills_page style u then other_side u.side else u.side;
  run = if fills_page style u then keeps_run u.side laid.layout.run else Some laid.layout.run;
  wide = if fills_page style u then None else laid.wide;
  fitness = fitness;
  placed = laid.after;
  ages = ages;
}

-- what a column of a layout pays for its page's run, and this price for its floats
abbrev pub page_price : StyleValue → State → Laid → ℕ → ℤ
page_price style u laid price =
    (if u.column == 1 then run_demerits style laid.layout.run else pos 0) +ℤ pos price

-- what it pays with its text
abbrev pub cost_at : StyleValue → State → Laid → RoomEnd → ℕ → ℤ
cost_at style u laid end price =
    (end.cost.demerits +ℤ end.pick_demerits)
    +ℤ (page_price style u laid price +ℤ fitness_cost style u.fitness end.cost.fitness)

-- what a state gives to its rank, but for its place
abbrev pub rank_tail : State → ℕ
rank_tail u = 32 * total_count u.placed + (if u.column == 1 then 16 else 0) + side_run u

-- the state behind a column of a layout up to some end, and what the column pays for its page
pub record IsBehind (style : StyleValue) (u : State) (laid : Laid) (settled : Settled) (it : Behind) : Type 0 where
  pub state : it.state ≡ state_behind style u laid it.state.place it.state.fitness settled.ages
  pub page : it.page ≡ page_price style u laid settled.price
  pub small : nat_abs it.page ≤ 2 ^ 52

-- a place at which a column of a layout may end and no float is left too old, and this is left and paid
abbrev pub IsOpenAt : Document → State → Laid → Settled → Place → Type 0
IsOpenAt doc u laid settled at =
    (opens doc u at laid.after ≡ true) × Settles doc u at laid.after (Some settled)

-- the steps to the ends in a room, by number with these picks, where a layout is that of the column
abbrev pub steps_at : Document → State → List (List ℕ) → List RoomEnds → TextRoom → Laid → List (Step State PageMove)
steps_at doc u ps rooms room it = listed_with doc u (λ layout. ends_of ps (ends_in rooms room)) it.layout

-- those to the ends behind a front, in what the room of a layout leaves there
abbrev pub steps_behind : Document → State → Option BehindFront → Laid → List (Step State PageMove)
steps_behind doc u None it = []
steps_behind doc u (Some behind) it =
    option_map_or
    (λ (left : TextRoom). steps_at doc u behind.ends.walk.near.picks behind.ends.rooms.items left it)
    (room_behind behind it.room) []

-- the steps to all ends that a place keeps in that room, where it is not below the least one
abbrev pub all_steps_in : Document → State → PlaceEnds → Laid → List (Step State PageMove)
all_steps_in doc u kept it =
    if has_text doc.style it.room
    then steps_at doc u kept.walk.near.picks kept.rooms.items it.room it ++ steps_behind doc u kept.behind it
    else []

-- the steps of the columns of text with counts up to a ceiling, by the ends of each layout, but for some that are spared
pub record AreTextSteps (doc : Document) (u : State) (ceiling : List ℕ) (spared : State → ℤ → Bool)
    (steps : List (Step State PageMove)) : Type 0 where
  pub ends : Layout → List End
  pub are : AreEndsOf doc u ceiling ends
  pub thins : Thins spared steps (listed_text doc u ceiling ends)

-- ---- columns without text

-- it has a float or a wide area, and is no higher than its page
abbrev pub can_stand : Document → State → Layout → Bool
can_stand doc u layout =
    (nat_lt 0 (total_count layout.top) || is_some (wide_of doc u layout.wide)) && column_fits doc u layout

-- what it pays, with this price for its floats
abbrev pub stay_price : StyleValue → State → Laid → ℕ → ℤ
stay_price style u laid price = pos style.float_column.demerits +ℤ page_price style u laid price

-- the fitness that the next column is compared with: version 1 compares none, and a column without text has none
abbrev pub fitness_behind : StyleValue → State → Option ℕ
fitness_behind style u = if style.version == 1 then None else u.fitness

-- its step, where it may stay
abbrev pub stay_in : Document → State → Laid → List (Step State PageMove)
stay_in doc u it = if stays_on doc u it.layout then listed_stay doc u it.layout ∷ [] else []
