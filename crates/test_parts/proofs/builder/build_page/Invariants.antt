use Rattle.std.proofs.Common.{◌≤◌, ◌+◌, length}
use Rattle.std.specs.List.{AllByRecursion}
use Rattle.pg_list.specs.Shapes.{IsBlock}
use Rattle.test_parts.proofs.builder.build_page.Given as goal

abbrev pub invariant-each : goal.invariant-each
invariant-each l = record {
  shape : AllByRecursion IsBlock l.rest;
  few : l.block + length l.rest ≤ 1024;
  summed : l.begun.sums.count ≤ l.block;
  noted : l.begun.notes.count ≤ l.block;
}

abbrev pub decreases-each : goal.decreases-each
decreases-each l = length l.rest
