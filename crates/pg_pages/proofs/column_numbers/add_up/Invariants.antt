use Rattle.std.proofs.Common.{length}
use Rattle.pg_column.specs.Between.{behind}
use Rattle.pg_pages.proofs.Sums.{AreAdded}
use Rattle.pg_pages.proofs.column_numbers.add_up.Given as goal

abbrev pub invariant-items : goal.invariant-items
invariant-items l = AreAdded l.style (behind l.items) l.rest l.sums l.notes

abbrev pub decreases-items : goal.decreases-items
decreases-items l = length l.rest
