use Rattle.std.proofs.Common.{◌≡◌, ◌≤◌, length}
use Rattle.pg_plan.specs.Order.{picks_cmp}
use Rattle.pg_plan.proofs.comparing.compare_picks.Given as goal

abbrev pub invariant-picks : goal.invariant-picks
invariant-picks l = record {
  same : picks_cmp l.a l.b ≡ picks_cmp l.left l.right;
  left_within : length l.left ≤ length l.a;
  right_within : length l.right ≤ length l.b;
}

abbrev pub decreases-picks : goal.decreases-picks
decreases-picks l = length l.left
