use Rattle.std.proofs.Common.{◌≡◌, ◌++◌, length}
use Rattle.pg_drawing.specs.Letters.{rows_in}
use Rattle.pg_drawing.specs.Pieces.{texts}
use Rattle.pg_drawing.proofs.letters.push_letters.Given as goal

abbrev pub invariant-lines : goal.invariant-lines
invariant-lines l =
    l.out.items ++ rows_in l.row l.hyphen (texts l.rest) ≡ l.fn.out.items ++ rows_in l.first 0 (texts l.lines)

abbrev pub decreases-lines : goal.decreases-lines
decreases-lines l = length l.rest
