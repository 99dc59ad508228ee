use Rattle.std.proofs.Common.{◌≤◌, ◌-◌, length}
use Rattle.pg_candidates.proofs.order.skip_to.Given as goal

abbrev pub invariant-groups : goal.invariant-groups
invariant-groups l = record {
  within : l.at ≤ length l.groups;
}

abbrev pub decreases-groups : goal.decreases-groups
decreases-groups l = length l.groups - l.at
