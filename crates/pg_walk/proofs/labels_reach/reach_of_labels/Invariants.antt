use Rattle.std.proofs.Common.{take, length, ◌≤◌, ◌-◌, ℤ}
use Rattle.pg_rules.specs.Legal.{document}
use Rattle.pg_style.specs.Values.{StyleValue}
use Rattle.pg_walk.specs.Furthest.{AreTold, IsFurthest}
use Rattle.pg_walk.proofs.labels_reach.reach_of_labels.Given as goal

abbrev pub invariant-labels : goal.invariant-labels
invariant-labels l = record {
  within : l.index ≤ length l.labels;
  furthest : (style : StyleValue) (top : ℤ) → AreTold (document l.galley style) top l.labels →
      IsFurthest (document l.galley style) top (take l.index l.labels) l.least l.greatest;
}

abbrev pub decreases-labels : goal.decreases-labels
decreases-labels l = length l.labels - l.index
