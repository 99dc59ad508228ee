use Rattle.std.proofs.Common.{◌≡◌, ◌++◌, length}
use Rattle.std.specs.List.{flat_map}
use Rattle.pg_scaled.specs.Scaled.{Grows}
use Rattle.pg_pages.specs.Bodies.{plain_text}
use Rattle.pg_pages.specs.Printed.{front_of}
use Rattle.pg_column.specs.Between.{behind}
use Rattle.pg_pages.proofs.text.print_front.Given as goal

abbrev pub invariant-front : goal.invariant-front
invariant-front l = record {
  text : l.out.items ++ flat_map plain_text (front_of (behind l.rest))
      ≡ l.fn.out.items ++ flat_map plain_text (front_of (behind l.items));
  grows : Grows l.fn.out.items l.out.items;
}

abbrev pub decreases-front : goal.decreases-front
decreases-front l = length l.rest
