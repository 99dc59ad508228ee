use Rattle.std.proofs.Common.{◌<◌, ◌≤◌, ◌-◌, length}
use Rattle.pg_furthest.specs.Furthest.{IsLastAmong}
use Rattle.pg_furthest.proofs.last.last_of.Given as goal

abbrev pub invariant-labels : goal.invariant-labels
invariant-labels l = record {
  inside : l.best < length l.labels;
  within : l.index ≤ length l.labels;
  last : IsLastAmong l.labels l.index l.best;
}

abbrev pub decreases-labels : goal.decreases-labels
decreases-labels l = length l.labels - l.index
