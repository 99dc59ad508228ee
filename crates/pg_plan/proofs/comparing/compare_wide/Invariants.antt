use Rattle.std.proofs.Common.{◌≡◌, length}
use Rattle.pg_plan.specs.Order.{counts_cmp}
use Rattle.pg_plan.specs.Backwards.{wide_of}
use Rattle.pg_plan.proofs.comparing.compare_wide.Given as goal

abbrev pub invariant-counts : goal.invariant-counts
invariant-counts l = counts_cmp (wide_of l.is_a_first l.a) (wide_of l.is_b_first l.b) ≡ counts_cmp (wide_of l.is_a_first l.left) (wide_of l.is_b_first l.right)

abbrev pub decreases-counts : goal.decreases-counts
decreases-counts l = length l.left
