use Rattle.std.proofs.Common.{◌≡◌, ◌≤◌, length, take}
use Rattle.pg_plan.specs.Order.{picks_cmp}
use Rattle.pg_small.specs.Columns.{picks_seen}
use Rattle.pg_small.proofs.picks.compare_picks.Given as goal

-- what is left decides
abbrev pub invariant-picks : goal.invariant-picks
invariant-picks l = record {
  same : picks_cmp (picks_seen l.a) (picks_seen l.b) ≡ picks_cmp (take l.left (picks_seen l.a)) (take l.right (picks_seen l.b));
  left_within : l.left ≤ length (picks_seen l.a);
  right_within : l.right ≤ length (picks_seen l.b);
}

abbrev pub decreases-picks : goal.decreases-picks
decreases-picks l = l.left
