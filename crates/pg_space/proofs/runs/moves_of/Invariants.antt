use Rattle.std.proofs.Common.{◌≡◌, ◌++◌, vec_len}
use Rattle.std.specs.Prelude.{reverse}
use Rattle.pg_space.specs.Runs.{moves_on}
use Rattle.pg_space.proofs.runs.moves_of.Given as goal

abbrev pub invariant-forth : goal.invariant-forth
invariant-forth l = l.moves ++ reverse (moves_on l.labels l.way.items)
    ≡ reverse (moves_on l.labels l.initial.way.items)

abbrev pub decreases-forth : goal.decreases-forth
decreases-forth l = vec_len l.way
