use Rattle.std.proofs.Common.{◌≡◌, ◌++◌, length}
use Rattle.std.specs.List.{flat_map}
use Rattle.pg_scaled.specs.Scaled.{Grows}
use Rattle.pg_pages.specs.Bodies.{body_text}
use Rattle.pg_pages.specs.PageText.{inserted}
use Rattle.pg_column.specs.Between.{behind}
use Rattle.pg_pages.proofs.areas.print_inserts.Given as goal

abbrev pub invariant-items : goal.invariant-items
invariant-items l = record {
  text : l.out.items ++ flat_map body_text (inserted l.number (behind l.rest))
      ≡ l.fn.out.items ++ flat_map body_text (inserted l.number (behind l.items));
  grows : Grows l.fn.out.items l.out.items;
}

abbrev pub decreases-items : goal.decreases-items
decreases-items l = length l.rest
