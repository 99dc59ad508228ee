use Rattle.std.proofs.Common.{◌≡◌, ◌∷◌, [], length}
use Rattle.pg_layouts.specs.Counts.{grown_by}
use Rattle.pg_layouts.proofs.counting.count_lists.Given as goal

abbrev pub invariant-each : goal.invariant-each
invariant-each l = grown_by l.most l.rest l.lists ≡ grown_by l.most l.limits ([] ∷ [])

abbrev pub decreases-each : goal.decreases-each
decreases-each l = length l.rest
