use Rattle.std.proofs.Common.{◌≡◌, ◌+◌, ◌≤◌, ◌^◌, length}
use Rattle.pg_floats.specs.Callouts.{next_barrier}
use Rattle.pg_floats.proofs.callouts.next_barrier.Given as goal

abbrev pub invariant-each : goal.invariant-each
invariant-each l = (next_barrier l.past l.index l.rest ≡ next_barrier l.past l.first l.blocks)
    × (l.index + length l.rest ≤ 2 ^ 20)

abbrev pub decreases-each : goal.decreases-each
decreases-each l = length l.rest
