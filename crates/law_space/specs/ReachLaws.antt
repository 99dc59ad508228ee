-- The laws of the reach, in the words of their contracts.
use Rattle.std.specs.Prelude.{◌≡◌, ℕ, ◌+◌, ◌≤◌, ℤ}
use Rattle.pg_list.specs.declared.galley.Place.{Place}
use Rattle.pg_plan.specs.declared.pages.PageMove.{PageMove}
use Rattle.pg_plan.specs.declared.states.State.{State}
use Rattle.pg_rules.specs.Follow.{Follow}
use Rattle.pg_rules.specs.IsState.{IsPlace, IsState}
use Rattle.pg_rules.specs.Reach.{IsReach}
use Rattle.pg_rules.specs.Room.{Document}
use Rattle.law_space.specs.ReachAt.{reach_at}

-- the number is the reach of each place, and no other is
abbrev pub IsTheReach : Document → Type 0
IsTheReach doc = (from : Place) → IsPlace doc.blocks from →
    IsReach doc from (reach_at doc from) × ((n : ℕ) → IsReach doc from n → n ≡ reach_at doc from)

-- a column goes on only to places below the reach of its start
abbrev pub ColumnsStayBelow : Document → Type 0
ColumnsStayBelow doc = (u : State) (m : PageMove) (v : State) (c : ℤ) → IsState doc u → Follow doc u m v c →
    v.place.block + 1 ≤ reach_at doc u.place
