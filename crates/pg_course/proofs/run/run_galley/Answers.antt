use Rattle.std.proofs.Common.{subst, sym}
use Rattle.pg_outside.specs.Outside.{output_over, sent}
use Rattle.pg_session.specs.SessionValue.{SessionValue}
use Rattle.pg_session.specs.Shows.{one_show}
use Rattle.pg_command.specs.Lines.{status_of}
use Rattle.pg_command.specs.declared.ending.Ending.{Ending}
use Rattle.pg_course.specs.Calls.{Writes}
use Rattle.pg_course.specs.Counted.{made_shows, taken_shows}
use Rattle.pg_course.specs.Course.{MakesGalley, RunGalley}
use Rattle.pg_course.proofs.Counts.{new_made, still_counted, taken_counted, unless_memory, whatever}
use Rattle.pg_course.proofs.Runs.{no_floats, taken_writes}
use Rattle.pg_course.proofs.run.run_galley.Goals as goal

pub returns-in-Err-clause-writes : goal.returns-in-Err-clause-writes
returns-in-Err-clause-writes g c =
    subst (λ (end : Ending). Writes (RunGalley c.args.product c.args.style c.args.galley)
    (output_over (sent g.O.Sink.written g.O.Sink.writes c.args.out.now) (sent g.O.Sink.written g.O.Sink.writes c.args.out.now)
    (g.O.Sink.faults c.args.out.now) (g.O.Sink.faults c.args.out.now)) end) (sym c.float_ending.ensures)
    (no_floats (MakesGalley c.args.product c.args.style c.args.galley) c.args.style c.args.galley
    (sent g.O.Sink.written g.O.Sink.writes c.args.out.now) (g.O.Sink.faults c.args.out.now) c.in-Err.fault c.in-Err.ensures)

pub returns-in-Err-clause-counted : goal.returns-in-Err-clause-counted
returns-in-Err-clause-counted g c =
    whatever (status_of c.float_ending.result) (still_counted c.args.style
    (taken_shows c.args.style c.args.galley
    (made_shows c.args.product c.args.style c.args.galley (one_show c.args.galley))) c.args.steps.now)

pub returns-in-Ok-clause-writes : goal.returns-in-Ok-clause-writes
returns-in-Ok-clause-writes g c =
    let out = output_over (sent g.O.Sink.written g.O.Sink.writes c.args.out.now) (sent g.O.Sink.written g.O.Sink.writes c.write_product.new.out)
    (g.O.Sink.faults c.args.out.now) (g.O.Sink.faults c.write_product.new.out) in
    taken_writes c.args.product c.args.style c.args.galley out c.write_product.result
    c.in-Ok.ensures.1 c.in-Ok.ensures.2
    (subst (λ (s : SessionValue). Writes (MakesGalley c.args.product s.style s.galley) out c.write_product.result)
    c.in-Ok.ensures.0.is c.write_product.ensures.writes)

pub returns-in-Ok-clause-counted : goal.returns-in-Ok-clause-counted
returns-in-Ok-clause-counted g c =
    unless_memory (status_of c.write_product.result)
    (λ counted. taken_counted c.args.style c.args.galley
    (made_shows c.args.product c.args.style c.args.galley (one_show c.args.galley)) c.args.steps.now
    c.write_product.new.steps c.in-Ok.ensures.1 c.in-Ok.ensures.2
    (new_made c.args.product c.args.galley c.args.style c.in-Ok.session c.args.steps.now c.write_product.new.steps
    c.in-Ok.ensures.0 counted)) c.write_product.ensures.counted
