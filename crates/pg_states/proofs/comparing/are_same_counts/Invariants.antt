use Rattle.std.proofs.Common.{◌≡◌, length}
use Rattle.pg_rules.specs.NoWorse.{are_same_counts}
use Rattle.pg_states.proofs.comparing.are_same_counts.Given as goal

abbrev pub invariant-counts : goal.invariant-counts
invariant-counts l = are_same_counts l.left l.right ≡ are_same_counts l.a l.b

abbrev pub decreases-counts : goal.decreases-counts
decreases-counts l = length l.left
