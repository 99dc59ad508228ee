use Rattle.std.proofs.Common.{◌≤◌, ◌+◌, length}
use Rattle.std.specs.Prelude.{◌⊎◌, Contains}
use Rattle.pg_lines.specs.declared.ends.LineEnd.{LineEnd}
use Rattle.pg_lines.specs.Moves.{low_by}
use Rattle.law_places.proofs.Among.{Among}
use Rattle.pg_lines.proofs.fewest.fewest_over.Given as goal

abbrev pub invariant-ends : goal.invariant-ends
invariant-ends l = (e : LineEnd) → Among e l.ends →
    Among e l.rest ⊎ (l.fewest ≤ low_by l.len l.low e.place + 1)

abbrev pub decreases-ends : goal.decreases-ends
decreases-ends l = length l.rest
