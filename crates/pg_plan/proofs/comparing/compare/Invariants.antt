use Rattle.std.proofs.Common.{◌≡◌, length}
use Rattle.std.specs.Cmp.Lexicographic.{slice_cmp}
use Rattle.pg_plan.specs.Order.{column_cmp, plan_cmp}
use Rattle.pg_plan.specs.Backwards.{moves_left}
use Rattle.pg_plan.proofs.comparing.compare.Given as goal

abbrev pub invariant-columns : goal.invariant-columns
invariant-columns l = plan_cmp l.a l.b ≡ slice_cmp column_cmp (moves_left l.left) (moves_left l.right)

abbrev pub decreases-columns : goal.decreases-columns
decreases-columns l = length (moves_left l.left)
