use Rattle.std.proofs.Common.{◌≡◌, length}
use Rattle.pg_list.specs.Totals.{top_glue}
use Rattle.pg_column.specs.Between.{behind}
use Rattle.pg_pages.proofs.text.top_glue.Given as goal

abbrev pub invariant-items : goal.invariant-items
invariant-items l = top_glue l.topskip (behind l.rest) ≡ top_glue l.topskip (behind l.items)

abbrev pub decreases-items : goal.decreases-items
decreases-items l = length l.rest
