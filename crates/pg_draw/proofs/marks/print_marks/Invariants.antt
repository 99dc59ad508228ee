use Rattle.std.proofs.Common.{length}
use Rattle.pg_draw.proofs.marks.print_marks.Given as goal

abbrev pub decreases-marks : goal.decreases-marks
decreases-marks l = length l.rest
