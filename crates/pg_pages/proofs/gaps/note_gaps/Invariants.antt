use Rattle.std.proofs.Common.{◌≡◌, ◌++◌, length}
use Rattle.pg_column.specs.Between.{behind}
use Rattle.pg_pages.specs.Gaps.{skip_gaps}
use Rattle.pg_pages.proofs.gaps.note_gaps.Given as goal

abbrev pub invariant-classes : goal.invariant-classes
invariant-classes l = l.gaps.items ++ skip_gaps l.rest (behind l.items)
    ≡ skip_gaps l.style.classes (behind l.items)

abbrev pub decreases-classes : goal.decreases-classes
decreases-classes l = length l.rest
