use Rattle.std.proofs.Common.{◌≡◌, ◌++◌, length, map}
use Rattle.pg_pages.specs.SetGlue.{gap_elastic}
use Rattle.pg_pages.proofs.glue.push_gaps.Given as goal

abbrev pub invariant-gaps : goal.invariant-gaps
invariant-gaps l = l.list.items ++ map (gap_elastic l.sense) l.rest
    ≡ l.initial.list.items ++ map (gap_elastic l.sense) l.gaps

abbrev pub decreases-gaps : goal.decreases-gaps
decreases-gaps l = length l.rest
