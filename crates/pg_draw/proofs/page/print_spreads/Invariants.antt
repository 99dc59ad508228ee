use Rattle.std.proofs.Common.{length}
use Rattle.pg_draw.proofs.page.print_spreads.Given as goal

abbrev pub decreases-pages : goal.decreases-pages
decreases-pages l = length l.rest
