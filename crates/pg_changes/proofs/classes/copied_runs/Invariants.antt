use Rattle.std.proofs.Common.{◌≡◌, ◌≤◌, ◌-◌, length, take}
use Rattle.pg_style.specs.Ranges.{AreRuns}
use Rattle.pg_changes.proofs.classes.copied_runs.Given as goal

abbrev pub invariant-runs : goal.invariant-runs
invariant-runs l = (l.at ≤ length l.all) × (l.made ≡ take l.at l.all) × AreRuns l.all

abbrev pub decreases-runs : goal.decreases-runs
decreases-runs l = length l.all - l.at
