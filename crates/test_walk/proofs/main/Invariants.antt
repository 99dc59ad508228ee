use Rattle.std.proofs.Common.{length}
use Rattle.test_walk.proofs.main.Given as goal

abbrev pub decreases-files : goal.decreases-files
decreases-files l = length l.left
