use Rattle.std.proofs.Common.{◌≡◌, length}
use Rattle.pg_floats.specs.Spots.{takes_in, takes_of}
use Rattle.pg_floats.proofs.spot.Spot.takes_at.Given as goal

abbrev pub invariant-each : goal.invariant-each
invariant-each l = takes_in (takes_of l.self) l.rest l.left ≡ takes_in (takes_of l.self) l.initial.rest l.slot

abbrev pub decreases-each : goal.decreases-each
decreases-each l = length l.rest
