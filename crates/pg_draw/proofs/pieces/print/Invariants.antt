use Rattle.std.proofs.Common.{◌≡◌, ◌++◌, length}
use Rattle.pg_draw.specs.Escaped.{pieces_text}
use Rattle.pg_draw.proofs.pieces.print.Given as goal

abbrev pub invariant-pieces : goal.invariant-pieces
invariant-pieces l = l.out.items ++ pieces_text l.rest ≡ l.fn.out.items ++ pieces_text l.pieces

abbrev pub decreases-pieces : goal.decreases-pieces
decreases-pieces l = length l.rest
