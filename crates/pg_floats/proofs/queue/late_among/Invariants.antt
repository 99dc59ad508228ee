use Rattle.std.proofs.Common.{◌≡◌, length}
use Rattle.pg_floats.specs.QueueValue.{late_in}
use Rattle.pg_floats.proofs.queue.late_among.Given as goal

abbrev pub invariant-ages : goal.invariant-ages
invariant-ages l = late_in l.limit l.slot l.rest ≡ late_in l.limit l.slot l.initial.rest

abbrev pub decreases-ages : goal.decreases-ages
decreases-ages l = length l.rest
