use Rattle.std.proofs.Common.{◌≡◌, ◌++◌, length}
use Rattle.pg_column.specs.Between.{behind}
use Rattle.pg_marks.specs.Told.{page_in}
use Rattle.pg_marks.specs.Walked.{uses_on}
use Rattle.pg_marks.proofs.uses.push_uses.Given as goal

abbrev pub invariant-items : goal.invariant-items
invariant-items l = l.references ++ uses_on (page_in l.labels) l.on (behind l.rest)
    ≡ l.fn.references ++ uses_on (page_in l.labels) l.on (behind l.items)

abbrev pub decreases-items : goal.decreases-items
decreases-items l = length l.rest
