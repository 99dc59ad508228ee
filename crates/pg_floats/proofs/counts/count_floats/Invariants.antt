use Rattle.std.proofs.Common.{◌≡◌, ◌≤◌, ◌*◌}
use Rattle.pg_floats.specs.Counts.{count_in}
use Rattle.pg_floats.proofs.counts.count_floats.Given as goal

abbrev pub invariant-loop-slot : goal.invariant-loop-slot
invariant-loop-slot l = (l.count ≡ count_in l.slot l.counts) × (l.count ≤ 65535 * l.slot)
