use Rattle.std.proofs.Common.{◌≡◌, map}
use Rattle.std.specs.List.{range_with_len}
use Rattle.pg_fold.specs.Imposed.{cell_page}
use Rattle.pg_fold.proofs.layout.cells.Given as goal

abbrev pub invariant-loop-cell : goal.invariant-loop-cell
invariant-loop-cell l = l.cells ≡ map (cell_page l.layout l.start l.sheet l.side) (range_with_len 0 l.cell)
