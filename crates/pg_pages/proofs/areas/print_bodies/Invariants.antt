use Rattle.std.proofs.Common.{◌≡◌, ◌++◌, length}
use Rattle.std.specs.List.{flat_map}
use Rattle.pg_scaled.specs.Scaled.{Grows}
use Rattle.pg_pages.specs.Bodies.{body_text}
use Rattle.pg_column.specs.Between.{behind}
use Rattle.pg_pages.proofs.areas.print_bodies.Given as goal

abbrev pub invariant-each : goal.invariant-each
invariant-each l = record {
  text : l.out.items ++ flat_map body_text (behind l.rest) ≡ l.fn.out.items ++ flat_map body_text (behind l.bodies);
  grows : Grows l.fn.out.items l.out.items;
}

abbrev pub decreases-each : goal.decreases-each
decreases-each l = length l.rest
