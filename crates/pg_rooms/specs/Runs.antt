-- Layouts on the pages of all runs.
use Rattle.std.specs.Prelude.{ℕ, ◌<◌, ◌^◌, nat_abs, unwrap_or, List, length, map, Option, None, Some, ℤ, ◌+ℤ◌, ◌-ℤ◌}
use Rattle.std.specs.List.{flat_map, range_with_len}
use Rattle.pg_plan.specs.declared.states.State.{State}
use Rattle.pg_style.specs.Values.{StyleValue}
use Rattle.pg_rules.specs.Room.{extra}
use Rattle.pg_column.specs.Numbers.{IsRoom}
use Rattle.pg_column.specs.declared.cost.TextRoom.{TextRoom}
use Rattle.pg_small.specs.Parts.{with_run}
use Rattle.pg_rooms.specs.declared.laid.Laid.{Laid}

-- a room so small that it is one on a page of any run
pub record IsLow (room : TextRoom) : Type 0 where
  pub size : nat_abs room.size < 2 ^ 36
  pub small : IsRoom room

-- the state on a page of the run that it must have, or else of the first one
abbrev pub first_run : State → State
first_run u = record u { run = Some (unwrap_or u.run 0) }

-- the height of a page of a run
abbrev pub full_in : StyleValue → ℕ → ℤ
full_in style run = style.height +ℤ extra style run

-- the same layout on a page of another run, with what it makes of its page
abbrev pub laid_in : StyleValue → ℕ → Laid → Laid
laid_in style run it = record it {
  layout = with_run run it.layout;
  room = record it.room { size = it.room.size +ℤ (full_in style run -ℤ full_in style it.layout.run) };
}

-- the same for each of these
abbrev pub laid_in_all : StyleValue → List Laid → ℕ → List Laid
laid_in_all style first run = map (laid_in style run) first

-- the layouts on the pages of all runs that a page may have, by those of its first one
abbrev pub laid_on : StyleValue → Option ℕ → List Laid → List Laid
laid_on style None first = flat_map (laid_in_all style first) (range_with_len 0 (length style.runs))
laid_on style (Some run) first = first
