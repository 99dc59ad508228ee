-- The line of a state.
use Rattle.std.specs.Prelude.{◌≡◌, true, IfSome}
use Rattle.pg_plan.specs.declared.states.State.{State}
use Rattle.pg_states.specs.Marks.{has_no_worse}
use Rattle.pg_states.specs.declared.marks.Line.{Line}

-- the state of the number is no worse along its line, where there is a number
abbrev pub IsLineOf : Line → State → Type 0
IsLineOf line u = IfSome line.number (λ number. has_no_worse line.marks.now.lines number u ≡ true)
