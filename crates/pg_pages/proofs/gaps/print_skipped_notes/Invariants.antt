use Rattle.std.proofs.Common.{◌≡◌, ◌++◌, length}
use Rattle.std.specs.List.{AllByRecursion}
use Rattle.pg_scaled.specs.Scaled.{Grows}
use Rattle.pg_glue.specs.Widths.{IsPrintable}
use Rattle.pg_column.specs.Between.{behind}
use Rattle.pg_pages.specs.PageText.{skipped_notes}
use Rattle.pg_pages.proofs.gaps.print_skipped_notes.Given as goal

abbrev pub invariant-classes : goal.invariant-classes
invariant-classes l = record {
  text : l.out.items ++ skipped_notes l.rest (behind l.items) l.left
      ≡ l.fn.out.items ++ skipped_notes l.classes (behind l.items) l.widths;
  small : AllByRecursion IsPrintable l.left;
  grows : Grows l.fn.out.items l.out.items;
}

abbrev pub decreases-classes : goal.decreases-classes
decreases-classes l = length l.rest
