use Rattle.std.proofs.Common.{subst, sym}
use Rattle.pg_outside.specs.Outside.{output_over, sent}
use Rattle.pg_session.specs.Shows.{AreCounted, show_of, shows_from}
use Rattle.pg_command.specs.Lines.{status_of}
use Rattle.pg_command.specs.declared.ending.Ending.{Ending}
use Rattle.pg_command.specs.declared.status.Status.TheVariants.{Done}
use Rattle.pg_course.specs.Calls.{WritesOn}
use Rattle.pg_course.specs.Counted.{UnlessMemory}
use Rattle.pg_course.specs.Course.{EditFront, EditSteps}
use Rattle.pg_course.proofs.Edited.{made_writes}
use Rattle.pg_course.proofs.edit.make_steps.Goals as goal

pub returns-in-Ok-clause-writes : goal.returns-in-Ok-clause-writes
returns-in-Ok-clause-writes g c =
    let out = output_over (sent g.O.Sink.written g.O.Sink.writes c.args.out.now) (sent g.O.Sink.written g.O.Sink.writes c.make_each.new.out)
    (g.O.Sink.faults c.args.out.now) (g.O.Sink.faults c.make_each.new.out) in
    subst (λ (end : Ending). WritesOn
    (EditSteps c.args.labels c.args.session.now.style c.args.session.now.galley 1 Done c.args.script.now)
    (EditFront c.args.labels c.args.session.now.style c.args.session.now.galley c.args.script.now) out end)
    (sym c.made_ending.ensures)
    (made_writes c.args.labels c.args.session.now c.make_each.new.session c.args.script.now c.in-Ok.legal
    (sent g.O.Sink.written g.O.Sink.writes c.args.out.now) (sent g.O.Sink.written g.O.Sink.writes c.make_each.new.out) (g.O.Sink.faults c.args.out.now)
    (g.O.Sink.faults c.make_each.new.out) c.args.steps.now c.make_each.new.steps c.in-Ok.ensures.made).0

pub returns-in-Ok-clause-counted : goal.returns-in-Ok-clause-counted
returns-in-Ok-clause-counted g c =
    subst (λ (end : Ending). UnlessMemory (status_of end) (AreCounted c.args.session.now.style
    (shows_from (show_of c.args.session.now) c.args.session.now.style c.args.script.now) c.args.steps.now
    c.make_each.new.steps)) (sym c.made_ending.ensures)
    (made_writes c.args.labels c.args.session.now c.make_each.new.session c.args.script.now c.in-Ok.legal
    (sent g.O.Sink.written g.O.Sink.writes c.args.out.now) (sent g.O.Sink.written g.O.Sink.writes c.make_each.new.out) (g.O.Sink.faults c.args.out.now)
    (g.O.Sink.faults c.make_each.new.out) c.args.steps.now c.make_each.new.steps c.in-Ok.ensures.made).1
