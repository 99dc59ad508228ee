use Rattle.std.proofs.Common.{◌≡◌, ◌≤◌, ◌+◌, ◌++◌, length}
use Rattle.std.specs.List.{AllByRecursion}
use Rattle.pg_style.specs.Ranges.{IsRun}
use Rattle.pg_walk.proofs.reach.copy_runs.Given as goal

abbrev pub invariant-runs : goal.invariant-runs
invariant-runs l = record {
  whole : l.copy ++ l.left ≡ l.runs;
  each : AllByRecursion IsRun l.left;
  few : length l.copy + length l.left ≤ 5;
}

abbrev pub decreases-runs : goal.decreases-runs
decreases-runs l = length l.left
