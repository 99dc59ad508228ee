use Rattle.std.proofs.Common.{◌≤◌, length}
use Rattle.pg_draw_page.proofs.letters.next_row.Given as goal

abbrev pub invariant-rows : goal.invariant-rows
invariant-rows l = length l.rest ≤ length l.words

abbrev pub decreases-rows : goal.decreases-rows
decreases-rows l = length l.rest
