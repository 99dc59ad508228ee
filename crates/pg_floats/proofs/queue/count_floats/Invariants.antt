use Rattle.std.proofs.Common.{◌≡◌, ◌+◌, ◌≤◌, length}
use Rattle.pg_floats.specs.QueueValue.{float_count_in}
use Rattle.pg_floats.proofs.queue.count_floats.Given as goal

abbrev pub invariant-each : goal.invariant-each
invariant-each l =
    (l.count + float_count_in l.rest ≡ float_count_in l.initial.rest)
    × (l.count + length l.rest ≤ length l.initial.rest)

abbrev pub decreases-each : goal.decreases-each
decreases-each l = length l.rest
