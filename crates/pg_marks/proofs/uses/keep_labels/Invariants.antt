use Rattle.std.proofs.Common.{◌≡◌, length}
use Rattle.pg_column.specs.Between.{behind}
use Rattle.pg_marks.specs.Told.{page_in}
use Rattle.pg_marks.specs.Walked.{labels_on}
use Rattle.pg_marks.proofs.uses.keep_labels.Given as goal

abbrev pub invariant-items : goal.invariant-items
invariant-items l =
    labels_on (page_in l.labels) l.page (behind l.rest) ≡ labels_on (page_in l.fn.labels) l.page (behind l.items)

abbrev pub decreases-items : goal.decreases-items
decreases-items l = length l.rest
