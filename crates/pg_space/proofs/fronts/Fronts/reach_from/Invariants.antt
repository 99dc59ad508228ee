use Rattle.std.proofs.Common.{length}
use Rattle.pg_space.proofs.fronts.Fronts.reach_from.Given as goal

abbrev pub decreases-reaches : goal.decreases-reaches
decreases-reaches g l = length l.rest
