use Rattle.std.proofs.Common.{◌≡◌, length}
use Rattle.pg_column.specs.Between.{behind}
use Rattle.pg_marks.specs.Heads.{first_or, marks}
use Rattle.pg_marks.proofs.running.first_mark.Given as goal

abbrev pub invariant-items : goal.invariant-items
invariant-items l = first_or l.before (marks (behind l.rest)) ≡ first_or l.before (marks (behind l.items))

abbrev pub decreases-items : goal.decreases-items
decreases-items l = length l.rest
