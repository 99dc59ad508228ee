use Rattle.std.proofs.Common.{◌≤◌, take}
use Rattle.std.specs.Io.KnownBytes.{Appends}
use Rattle.pg_command.specs.Lines.{line_text}
use Rattle.pg_command.proofs.line.write_pieces.Given as goal

abbrev pub invariant-loop-piece : goal.invariant-loop-piece
invariant-loop-piece g l = record {
  written :
      Appends (g.E.Sink.written l.initial.say) (g.E.Sink.written l.say) (line_text (take l.piece-index l.pieces));
  later : g.E.Sink.faults l.initial.say ≤ g.E.Sink.faults l.say;
}
