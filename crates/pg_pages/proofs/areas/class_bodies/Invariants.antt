use Rattle.std.proofs.Common.{◌≡◌, ◌++◌, length}
use Rattle.std.specs.List.{AllByRecursion}
use Rattle.pg_list.specs.Shapes.{IsBlock}
use Rattle.pg_floats.specs.Callouts.{first_items}
use Rattle.pg_pages.specs.PageText.{inserted}
use Rattle.pg_column.specs.Between.{behind}
use Rattle.pg_pages.proofs.areas.class_bodies.Given as goal

abbrev pub invariant-each : goal.invariant-each
invariant-each l = record {
  shape : AllByRecursion IsBlock l.rest;
  same : behind l.bodies.items ++ inserted l.number (first_items l.rest) ≡ inserted l.number (first_items l.blocks);
}

abbrev pub decreases-each : goal.decreases-each
decreases-each l = length l.rest
