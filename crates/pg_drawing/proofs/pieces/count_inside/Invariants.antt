use Rattle.std.proofs.Common.{◌≡◌, ◌+◌, length}
use Rattle.pg_drawing.specs.Pieces.{begins, inside_count, texts}
use Rattle.pg_drawing.proofs.pieces.count_inside.Given as goal

abbrev pub invariant-lines : goal.invariant-lines
invariant-lines l = record {
  count : inside_count (begins l.kind) (texts l.lines) ≡ l.count + inside_count (begins l.kind) (texts l.rest);
  bound : l.count + length l.rest ≡ length l.lines;
}

abbrev pub decreases-lines : goal.decreases-lines
decreases-lines l = length l.rest
