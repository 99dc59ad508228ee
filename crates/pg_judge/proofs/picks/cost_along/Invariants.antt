use Rattle.std.proofs.Common.{◌≡◌, ◌+◌, ◌*◌, ◌^◌, ◌≤◌, length}
use Rattle.pg_judge.specs.Picks.{pick_cost}
use Rattle.pg_judge.proofs.picks.cost_along.Given as goal

abbrev pub invariant-choices : goal.invariant-choices
invariant-choices l = record {
  same : l.sum + pick_cost l.rest l.left ≡ pick_cost l.blocks l.picks;
  few : l.sum + 2 ^ 32 * length l.rest ≤ 2 ^ 32 * length l.blocks;
}

abbrev pub decreases-choices : goal.decreases-choices
decreases-choices l = length l.rest
