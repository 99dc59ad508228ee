use Rattle.std.proofs.Common.{◌≡◌, ◌++◌, ◌+◌, length}
use Rattle.pg_column.specs.Between.{behind}
use Rattle.pg_rules.specs.Floats.{dealt_from}
use Rattle.pg_pages.specs.Printed.{lent}
use Rattle.pg_pages.proofs.areas.dealt_bodies.Given as goal

abbrev pub invariant-each : goal.invariant-each
invariant-each l = record {
  same : behind l.dealt.items ++ dealt_from l.slot (lent l.rest) l.before l.counts
      ≡ dealt_from 0 (lent l.bodies) l.before l.counts;
  slot : l.slot + length l.rest ≡ length l.bodies;
}

abbrev pub decreases-each : goal.decreases-each
decreases-each l = length l.rest
