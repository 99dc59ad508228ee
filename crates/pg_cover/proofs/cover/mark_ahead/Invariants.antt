use Rattle.std.proofs.Common.{◌-◌, length}
use Rattle.pg_cover.specs.Covered.{AreMarksOf}
use Rattle.pg_cover.proofs.cover.mark_ahead.Given as goal

abbrev pub invariant-ahead : goal.invariant-ahead
invariant-ahead g l = AreMarksOf g.M.Marking.NoWorse l.labels (g.M.Marking.outdone l.marks)

abbrev pub decreases-ahead : goal.decreases-ahead
decreases-ahead g l = length l.labels - l.next
