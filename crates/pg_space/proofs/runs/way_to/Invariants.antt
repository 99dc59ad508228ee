use Rattle.std.proofs.Common.{◌<◌, length}
use Rattle.pg_space.specs.Runs.{LeadsBack}
use Rattle.pg_space.proofs.runs.way_to.Given as goal

abbrev pub invariant-back : goal.invariant-back
invariant-back l = (l.at < length l.labels) × LeadsBack l.labels l.index l.way.items l.at

abbrev pub decreases-back : goal.decreases-back
decreases-back l = l.at
