use Rattle.std.proofs.Common.{◌≡◌, ◌++◌, length}
use Rattle.std.specs.List.{AllByRecursion}
use Rattle.law_lines.specs.Boxes.{items_text}
use Rattle.pg_glue.specs.Widths.{IsPrintable}
use Rattle.pg_lines.proofs.text.print_items.Given as goal

abbrev pub invariant-items : goal.invariant-items
invariant-items l = record {
  text : l.out.items ++ items_text l.rest l.left ≡ l.fn.out.items ++ items_text l.items l.widths;
  small : AllByRecursion IsPrintable l.left;
}

abbrev pub decreases-items : goal.decreases-items
decreases-items l = length l.rest
