use Rattle.std.proofs.Common.{length}
use Rattle.pg_moves.specs.Outdone.{IsSkipping}
use Rattle.pg_moves.proofs.behind.Behind.skip_some.Given as goal

abbrev pub invariant-ends : goal.invariant-ends
invariant-ends l = IsSkipping l.style l.state l.self l.ends l.reached l.rest

abbrev pub decreases-ends : goal.decreases-ends
decreases-ends l = length l.rest
