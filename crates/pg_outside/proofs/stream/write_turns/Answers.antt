use Rattle.std.proofs.Common.{arith}
use Rattle.std.proofs.lemmas.Grind.{common_steps}
use Rattle.pg_outside.proofs.Pieces.{appends_next}
use Rattle.pg_outside.proofs.stream.write_turns.Goals as goal

pub loop-done-preserved : goal.loop-done-preserved
loop-done-preserved g c = record {
  bounded = grind (arith, common_steps, c.in-Ok.ensures.bound);
  written =
      appends_next (g.W.Write.contents c.args.inner.now) (g.W.Write.contents c.loop-done.inner)
      (g.W.Write.contents c.write.new.self) c.loop-done.done c.in-Ok.count c.args.bytes.now
      c.loop-done.invariant.written c.in-Ok.ensures.bytes;
}
