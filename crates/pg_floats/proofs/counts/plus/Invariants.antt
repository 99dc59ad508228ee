use Rattle.std.proofs.Common.{◌≡◌}
use Rattle.pg_floats.specs.Counts.{capped_sum}
use Rattle.pg_floats.proofs.counts.plus.Given as goal

abbrev pub invariant-loop-slot : goal.invariant-loop-slot
invariant-loop-slot l = l.counts ≡ capped_sum l.slot l.a l.b
