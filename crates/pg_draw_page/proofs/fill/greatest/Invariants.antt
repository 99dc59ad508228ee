use Rattle.std.proofs.Common.{◌≡◌, length, pos}
use Rattle.pg_draw_page.specs.Fills.{greatest}
use Rattle.pg_draw_page.proofs.fill.greatest.Given as goal

abbrev pub invariant-columns : goal.invariant-columns
invariant-columns l = greatest l.most.badness l.rest ≡ greatest (pos 0) l.columns

abbrev pub decreases-columns : goal.decreases-columns
decreases-columns l = length l.rest
