use Rattle.std.proofs.Common.{◌≡◌, ◌++◌, length}
use Rattle.std.specs.List.{AllByRecursion}
use Rattle.pg_scaled.specs.Scaled.{Grows}
use Rattle.pg_pages.specs.PageText.{set_items}
use Rattle.pg_glue.specs.Widths.{IsPrintable}
use Rattle.pg_column.specs.Between.{behind}
use Rattle.pg_pages.proofs.text.print_set_items.Given as goal

abbrev pub invariant-items : goal.invariant-items
invariant-items l = record {
  text : l.out.items ++ set_items (behind l.rest) l.left ≡ l.fn.out.items ++ set_items (behind l.items) l.widths;
  small : AllByRecursion IsPrintable l.left;
  grows : Grows l.fn.out.items l.out.items;
}

abbrev pub decreases-items : goal.decreases-items
decreases-items l = length l.rest
