use Rattle.std.proofs.Common.{◌≡◌, length}
use Rattle.pg_floats.specs.QueueValue.{table_in}
use Rattle.pg_floats.proofs.spot.table_in_slot.Given as goal

abbrev pub invariant-each : goal.invariant-each
invariant-each l = table_in l.rest l.left ≡ table_in l.initial.rest l.slot

abbrev pub decreases-each : goal.decreases-each
decreases-each l = length l.rest
