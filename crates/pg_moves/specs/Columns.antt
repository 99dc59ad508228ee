-- A column of text in a layout, and the steps to its ends.
use Rattle.std.specs.Prelude.{◌≡◌, List}
use Rattle.pg_candidates.specs.RoomEnds.{ends_of, picks_at}
use Rattle.pg_candidates.specs.declared.room_end.RoomEnd.{RoomEnd}
use Rattle.pg_layouts.specs.Layouts.{move_of}
use Rattle.pg_plan.specs.declared.pages.PageMove.{PageMove}
use Rattle.pg_plan.specs.declared.states.State.{State}
use Rattle.pg_rules.specs.Room.{Document}
use Rattle.pg_rooms.specs.Laid.{laid_of}
use Rattle.pg_sources.specs.Document.{doc_of}
use Rattle.pg_states.specs.declared.settling.Settled.{Settled}
use Rattle.pg_table.specs.declared.step.Step.{Step}
use Rattle.law_moves.specs.Listed.{listed_with}
use Rattle.pg_moves.specs.Stepping.{IsBehind, IsOpenAt}
use Rattle.pg_moves.specs.declared.behind.Behind.{Behind}
use Rattle.pg_moves.specs.declared.column.TextColumn.{TextColumn}

-- its galley under the style
abbrev pub doc_at : TextColumn → Document
doc_at it = doc_of it.sources.now

-- its layout is worked out for its state
abbrev pub IsLaid : TextColumn → Type 0
IsLaid it = it.laid.now ≡ laid_of (doc_at it) it.state.now it.laid.now.layout

-- the column up to an end, by the picks of the end's candidate
abbrev pub move_at : TextColumn → RoomEnd → PageMove
move_at it end = move_of it.state.now it.laid.now.layout end.to (picks_at it.near.now.picks end.at)

-- the steps to ends, by the picks of their candidates
abbrev pub steps_to : TextColumn → List RoomEnd → List (Step State PageMove)
steps_to it ends =
    listed_with (doc_at it) it.state.now (λ layout. ends_of it.near.now.picks ends) it.laid.now.layout

-- the state behind the column up to some end, where this is left and paid
abbrev pub IsBehindIt : TextColumn → Settled → Behind → Type 0
IsBehindIt it settled behind = IsBehind it.sources.now.style.now it.state.now it.laid.now settled behind

-- at this end the column may end and no float is left too old, and this is left and paid
abbrev pub MayEnd : TextColumn → Settled → RoomEnd → Type 0
MayEnd it settled end = IsOpenAt (doc_at it) it.state.now it.laid.now settled end.to
