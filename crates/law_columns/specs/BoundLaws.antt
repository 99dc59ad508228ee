-- What is bounded, in the words of the contracts.
use Rattle.std.specs.Prelude.{◌+◌, ◌*◌, ◌≤◌, length, nat_abs, ℤ}
use Rattle.pg_list.specs.GalleyValue.{GalleyValue}
use Rattle.pg_plan.specs.declared.pages.PageMove.{PageMove}
use Rattle.pg_plan.specs.declared.states.State.{State}
use Rattle.pg_style.specs.Values.{StyleValue}
use Rattle.pg_rules.specs.ColumnRules.{column_variants}
use Rattle.pg_rules.specs.Follow.{Follow, context_in}
use Rattle.pg_rules.specs.IsState.{IsState}
use Rattle.pg_rules.specs.Legal.{added, document}

-- what follows a state is a state
abbrev pub StatesLeadToStates : GalleyValue → StyleValue → Type 0
StatesLeadToStates galley style = (u : State) (m : PageMove) (v : State) (c : ℤ) →
    IsState (document galley style) u → Follow (document galley style) u m v c →
    IsState (document galley style) v

-- what a column costs, by its picks and by the floats that it adds
abbrev pub ColumnsCostLittle : GalleyValue → StyleValue → Type 0
ColumnsCostLittle galley style = (u : State) (m : PageMove) (v : State) (c : ℤ) →
    Follow (document galley style) u m v c →
    nat_abs c ≤ 700000000 + 100000000 * (length (column_variants (context_in (document galley style) u m))
    + length (added (document galley style) u.placed m))
