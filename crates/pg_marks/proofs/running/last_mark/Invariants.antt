use Rattle.std.proofs.Common.{◌≡◌, length}
use Rattle.pg_column.specs.Between.{behind}
use Rattle.pg_marks.specs.Heads.{last_or, marks}
use Rattle.pg_marks.proofs.running.last_mark.Given as goal

abbrev pub invariant-items : goal.invariant-items
invariant-items l = last_or l.last (marks (behind l.rest)) ≡ last_or l.before (marks (behind l.items))

abbrev pub decreases-items : goal.decreases-items
decreases-items l = length l.rest
