use Rattle.std.proofs.Common.{length}
use Rattle.std.specs.Prelude.{pos}
use Rattle.std.specs.List.{AllByRecursion}
use Rattle.pg_style.specs.Ranges.{IsHeight}
use Rattle.pg_changes.proofs.change.fits_runs.Given as goal

abbrev pub invariant-runs : goal.invariant-runs
invariant-runs l =
    AllByRecursion (IsHeight (pos l.height)) l.rest → AllByRecursion (IsHeight (pos l.height)) l.runs

abbrev pub decreases-runs : goal.decreases-runs
decreases-runs l = length l.rest
