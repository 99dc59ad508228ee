use Rattle.std.proofs.Common.{◌≡◌, ◌+◌, length}
use Rattle.pg_floats.specs.FloatsValue.{total_of}
use Rattle.pg_floats.proofs.list.count_of.Given as goal

abbrev pub invariant-each : goal.invariant-each
invariant-each l = l.count + total_of l.rest ≡ total_of l.initial.rest

abbrev pub decreases-each : goal.decreases-each
decreases-each l = length l.rest
