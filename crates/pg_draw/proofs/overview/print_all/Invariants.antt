use Rattle.std.proofs.Common.{length}
use Rattle.pg_draw.proofs.overview.print_all.Given as goal

abbrev pub decreases-pages : goal.decreases-pages
decreases-pages l = length l.rest
