use Rattle.std.proofs.Common.{◌≡◌, ◌++◌, length}
use Rattle.pg_scaled.specs.Scaled.{Grows}
use Rattle.pg_pages.specs.Printed.{notes_by}
use Rattle.pg_column.specs.Between.{behind}
use Rattle.pg_pages.proofs.areas.print_notes.Given as goal

abbrev pub invariant-each : goal.invariant-each
invariant-each l = record {
  text : l.out.items ++ notes_by l.rest (behind l.items) ≡ l.fn.out.items ++ notes_by l.classes (behind l.items);
  grows : Grows l.fn.out.items l.out.items;
}

abbrev pub decreases-each : goal.decreases-each
decreases-each l = length l.rest
