use Rattle.std.proofs.Common.{◌≡◌, ◌++◌, length}
use Rattle.pg_pages.specs.Printed.{bodies_of, lent}
use Rattle.pg_pages.proofs.areas.float_bodies.Given as goal

abbrev pub invariant-each : goal.invariant-each
invariant-each l = lent l.bodies.items ++ bodies_of l.blocks l.rest ≡ bodies_of l.blocks l.classes

abbrev pub decreases-each : goal.decreases-each
decreases-each l = length l.rest
