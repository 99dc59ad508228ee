use Rattle.std.proofs.Common.{◌≡◌, ◌++◌, length}
use Rattle.pg_space.specs.Paged.{double_pages}
use Rattle.pg_space.proofs.paging.doubles.Given as goal

abbrev pub invariant-pages : goal.invariant-pages
invariant-pages l = l.pages ++ double_pages l.rest ≡ double_pages l.moves

abbrev pub decreases-pages : goal.decreases-pages
decreases-pages l = length l.rest
