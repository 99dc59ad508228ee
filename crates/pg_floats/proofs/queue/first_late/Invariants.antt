use Rattle.std.proofs.Common.{◌≡◌, ◌+◌, length}
use Rattle.pg_floats.specs.QueueValue.{late_by, table_in}
use Rattle.pg_floats.proofs.queue.first_late.Given as goal

abbrev pub invariant-each : goal.invariant-each
invariant-each l =
    (late_by (λ slot. length (table_in l.classes slot)) l.slot l.rest l.left
    ≡ late_by (λ slot. length (table_in l.classes slot)) 0 l.initial.rest l.initial.left)
    × (l.slot + length l.rest ≡ length l.initial.rest)

abbrev pub decreases-each : goal.decreases-each
decreases-each l = length l.rest
