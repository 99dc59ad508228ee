use Rattle.std.proofs.Common.{◌≡◌, ◌+◌, ◌≤◌, length}
use Rattle.pg_floats.specs.Spots.{slots_in}
use Rattle.pg_floats.proofs.spot.slots_among.Given as goal

abbrev pub invariant-each : goal.invariant-each
invariant-each l =
    (l.slots + slots_in l.rest ≡ slots_in l.initial.rest)
    × (l.slots + length l.rest ≤ length l.initial.rest)

abbrev pub decreases-each : goal.decreases-each
decreases-each l = length l.rest
