use Rattle.std.proofs.Common.{length}
use Rattle.pg_draw_page.proofs.letters.row_count.Given as goal

abbrev pub decreases-rows : goal.decreases-rows
decreases-rows l = length l.rest
