use Rattle.std.proofs.Common.{◌≡◌, ◌++◌, vec_len}
use Rattle.std.specs.Prelude.{reverse}
use Rattle.pg_walk.proofs.runs.picks_of.Given as goal

abbrev pub invariant-forth : goal.invariant-forth
invariant-forth l = l.picks ++ reverse l.way.items ≡ reverse l.initial.way.items

abbrev pub decreases-forth : goal.decreases-forth
decreases-forth l = vec_len l.way
