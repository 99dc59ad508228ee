use Rattle.std.proofs.Common.{◌≡◌, ◌++◌, length}
use Rattle.std.specs.List.{AllByRecursion}
use Rattle.pg_scaled.specs.Scaled.{Grows}
use Rattle.pg_glue.specs.Widths.{IsPrintable}
use Rattle.pg_column.specs.Between.{behind}
use Rattle.pg_pages.specs.Gaps.{hung_text}
use Rattle.pg_pages.proofs.gaps.print_hung.Given as goal

abbrev pub invariant-floats : goal.invariant-floats
invariant-floats l = record {
  text : l.out.items ++ hung_text l.rule (behind l.rest) l.left
      ≡ l.fn.out.items ++ hung_text l.rule (behind l.bodies) l.widths;
  small : AllByRecursion IsPrintable l.left;
  grows : Grows l.fn.out.items l.out.items;
}

abbrev pub decreases-floats : goal.decreases-floats
decreases-floats l = length l.rest
