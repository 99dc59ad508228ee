use Rattle.std.proofs.Common.{◌≡◌, length}
use Rattle.pg_style.specs.Ranges.{rises}
use Rattle.pg_style.proofs.distance.do_rise.Given as goal

abbrev pub invariant-entries : goal.invariant-entries
invariant-entries l = rises l.entries ≡ rises l.rest

abbrev pub decreases-entries : goal.decreases-entries
decreases-entries l = length l.rest
