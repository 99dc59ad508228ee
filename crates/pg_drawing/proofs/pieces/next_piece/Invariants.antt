use Rattle.std.proofs.Common.{◌≡◌, ◌≤◌, length}
use Rattle.pg_drawing.specs.Pieces.{begins, cut, texts}
use Rattle.pg_drawing.proofs.pieces.next_piece.Given as goal

abbrev pub invariant-lines : goal.invariant-lines
invariant-lines l = record {
  pieces : cut (begins l.kind) (texts l.ahead) ≡ cut (begins l.kind) (texts l.lines);
  shorter : length l.ahead ≤ length l.lines;
}

abbrev pub decreases-lines : goal.decreases-lines
decreases-lines l = length l.ahead
