use Rattle.std.proofs.Common.{rules}
use Rattle.pg_command.proofs.Fronts.{on_err}
use Rattle.pg_command.proofs.Pieces.{front_of_pieces, one_more_piece}
use Rattle.pg_command.proofs.line.write_pieces.Goals as goal

pub returns-in_err-write_piece-clause-front : goal.returns-in_err-write_piece-clause-front
returns-in_err-write_piece-clause-front g c =
    on_err c.from_residual.result (front_of_pieces (g.E.Sink.written c.args.say.now)
    (g.E.Sink.written c.loop-piece.say) (g.E.Sink.written c.write_piece.new.say) c.args.pieces.now
    c.loop-piece.piece-index _ c.loop-piece-test.true c.loop-piece.invariant.written
    c.in_err-write_piece.ensures.front)

pub loop-piece-preserved : goal.loop-piece-preserved
loop-piece-preserved g c = record {
  written =
      one_more_piece (g.E.Sink.written c.args.say.now) (g.E.Sink.written c.loop-piece.say)
      (g.E.Sink.written c.write_piece.new.say) c.args.pieces.now c.loop-piece.piece-index _
      c.loop-piece-test.true c.loop-piece.invariant.written c.in_ok-write_piece.ensures.all;
  later = search rules;
}
