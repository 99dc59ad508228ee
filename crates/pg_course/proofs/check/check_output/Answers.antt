use Rattle.std.proofs.Common.{subst, sym}
use Rattle.pg_outside.specs.Outside.{output_over, sent}
use Rattle.pg_command.specs.declared.ending.Ending.{Ending}
use Rattle.pg_course.specs.Calls.{Writes}
use Rattle.pg_course.specs.Course.{CheckOutput}
use Rattle.pg_course.proofs.Checks.{not_proved, proved_writes}
use Rattle.pg_course.proofs.check.check_output.Goals as goal

pub returns-in-Err-clause-writes : goal.returns-in-Err-clause-writes
returns-in-Err-clause-writes g c =
    subst (λ (end : Ending). Writes (CheckOutput c.args.basis.now.style.now c.args.basis.now.galley.now
    c.args.output.now)
    (output_over (sent g.O.Sink.written g.O.Sink.writes c.args.out.now) (sent g.O.Sink.written g.O.Sink.writes c.args.out.now)
    (g.O.Sink.faults c.args.out.now) (g.O.Sink.faults c.args.out.now)) end) (sym c.ending_of_no.ensures)
    (not_proved c.args.basis.now.style.now c.args.basis.now.galley.now c.args.output.now (sent g.O.Sink.written
    g.O.Sink.writes c.args.out.now)
    (g.O.Sink.faults c.args.out.now) c.in-Err.fault c.in-Err.ensures.checked c.in-Err.ensures.solved)

pub returns-in-Err-clause-counted : goal.returns-in-Err-clause-counted
returns-in-Err-clause-counted g c = c.check.ensures.bounded

pub returns-in-Ok-clause-writes : goal.returns-in-Ok-clause-writes
returns-in-Ok-clause-writes g c =
    proved_writes c.args.basis.now.style.now c.args.basis.now.galley.now c.args.output.now c.in-Ok.proved
    (output_over (sent g.O.Sink.written g.O.Sink.writes c.args.out.now) (sent g.O.Sink.written g.O.Sink.writes c.write_yes.new.out)
    (g.O.Sink.faults c.args.out.now) (g.O.Sink.faults c.write_yes.new.out)) c.write_yes.result
    c.in-Ok.ensures.checked c.in-Ok.ensures.truth c.write_yes.ensures.writes

pub returns-in-Ok-clause-counted : goal.returns-in-Ok-clause-counted
returns-in-Ok-clause-counted g c = c.check.ensures.bounded
