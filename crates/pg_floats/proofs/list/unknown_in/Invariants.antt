use Rattle.std.proofs.Common.{◌≡◌, length}
use Rattle.pg_floats.specs.Callouts.{unknown_among}
use Rattle.pg_floats.proofs.list.unknown_in.Given as goal

abbrev pub invariant-items : goal.invariant-items
invariant-items l = unknown_among l.style.classes l.rest ≡ unknown_among l.style.classes l.initial.rest

abbrev pub decreases-items : goal.decreases-items
decreases-items l = length l.rest
