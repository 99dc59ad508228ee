use Rattle.std.proofs.Common.{◌≡◌, ◌++◌, length}
use Rattle.pg_list.specs.Totals.{trimmed}
use Rattle.pg_column.specs.Between.{behind}
use Rattle.pg_pages.proofs.segment.trimmed.Given as goal

abbrev pub invariant-items : goal.invariant-items
invariant-items l = behind l.segment.items ++ trimmed (behind l.rest) ≡ trimmed (behind l.items)

abbrev pub decreases-items : goal.decreases-items
decreases-items l = length l.rest
