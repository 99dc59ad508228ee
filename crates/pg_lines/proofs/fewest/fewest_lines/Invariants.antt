use Rattle.std.proofs.Common.{◌≤◌, length}
use Rattle.pg_lines.proofs.LowLaws.{IsTold}
use Rattle.pg_lines.proofs.fewest.fewest_lines.Given as goal

abbrev pub invariant-back : goal.invariant-back
invariant-back l = IsTold l.space.rule.now l.space.items.now l.low.items l.place

abbrev pub decreases-back : goal.decreases-back
decreases-back l = l.place
