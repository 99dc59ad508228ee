use Rattle.std.proofs.Common.{◌≡◌, ◌++◌, length}
use Rattle.pg_pieces.specs.Pieces.{pieces_text}
use Rattle.pg_pieces.proofs.piece.print.Given as goal

abbrev pub invariant-pieces : goal.invariant-pieces
invariant-pieces l = l.out.items ++ pieces_text l.form l.rest ≡ l.fn.out.items ++ pieces_text l.form l.pieces

abbrev pub decreases-pieces : goal.decreases-pieces
decreases-pieces l = length l.rest
