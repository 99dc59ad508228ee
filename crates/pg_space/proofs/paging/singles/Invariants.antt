use Rattle.std.proofs.Common.{◌≡◌, map, take}
use Rattle.pg_space.specs.Paged.{single_page}
use Rattle.pg_space.proofs.paging.singles.Given as goal

abbrev pub invariant-loop-first : goal.invariant-loop-first
invariant-loop-first l = l.pages ≡ map single_page (take l.first-index l.moves)
