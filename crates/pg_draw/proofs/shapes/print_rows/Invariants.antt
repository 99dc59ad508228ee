use Rattle.std.proofs.Common.{length}
use Rattle.pg_draw.proofs.shapes.print_rows.Given as goal

abbrev pub decreases-rows : goal.decreases-rows
decreases-rows l = length l.rest
