use Rattle.std.proofs.Common.{List, subst}
use Rattle.pg_session.specs.Shows.{AreCounted, show_of, shows_from}
use Rattle.std.specs.Prelude.{Result}
use Rattle.pg_edits.specs.declared.script.ScriptStep.{ScriptStep}
use Rattle.pg_outside.specs.Outside.{Held, output_over, sent}
use Rattle.pg_command.specs.Lines.{status_of}
use Rattle.pg_command.specs.declared.status.Status.TheVariants.{Done}
use Rattle.pg_course.specs.Calls.{WritesOn, over_shelf}
use Rattle.pg_course.specs.Counted.{CountsScript}
use Rattle.pg_course.specs.Course.{EditFront, EditSteps, Stop, opened_script}
use Rattle.pg_course.proofs.Checks.{all_told}
use Rattle.pg_course.proofs.Counts.{still_script, taken_counted, unless_memory, whatever}
use Rattle.pg_course.proofs.Runs.{when_said}
use Rattle.pg_course.proofs.Scripts.{script_goes, script_stops}
use Rattle.pg_course.proofs.edit.edit_file.Goals as goal

pub returns-in-Err-clause-goes : goal.returns-in-Err-clause-goes
returns-in-Err-clause-goes g c =
    script_stops c.args.task.now.job.labels c.args.session.now.style c.args.session.now.galley
    c.args.task.now.job.script.now
    (over_shelf (g.H.Shelf.held c.args.shelf.now) (g.H.Shelf.faults c.args.shelf.now)
    (g.H.Shelf.faults c.open_script.new.shelf) (g.H.Shelf.last_failed c.open_script.new.shelf))
    (sent g.O.Sink.written g.O.Sink.writes c.args.out.now) (g.O.Sink.faults c.args.out.now) c.in-Err.ending c.in-Err.ensures.stopped

pub returns-in-Err-clause-counted : goal.returns-in-Err-clause-counted
returns-in-Err-clause-counted g c =
    whatever (status_of c.in-Err.ending) (all_told (g.H.Shelf.held c.args.shelf.now) (λ held.
    still_script c.args.session.now.style (show_of c.args.session.now)
    (opened_script c.args.task.now.job.script.now (held c.args.task.now.job.script.now)) c.args.steps.now))

pub returns-in-Ok-clause-goes : goal.returns-in-Ok-clause-goes
returns-in-Ok-clause-goes g c =
    script_goes c.args.task.now.job.labels c.args.session.now.style c.args.session.now.galley
    c.args.task.now.job.script.now
    (g.H.Shelf.held c.args.shelf.now) c.in-Ok.script (g.H.Shelf.faults c.args.shelf.now)
    (g.H.Shelf.faults c.open_script.new.shelf) (g.H.Shelf.last_failed c.open_script.new.shelf)
    (output_over (sent g.O.Sink.written g.O.Sink.writes c.args.out.now) (sent g.O.Sink.written g.O.Sink.writes c.make_steps.new.out)
    (g.O.Sink.faults c.args.out.now) (g.O.Sink.faults c.make_steps.new.out)) c.make_steps.result
    c.in-Ok.ensures.script (subst (λ (steps : List ScriptStep). WritesOn
    (EditSteps c.args.task.now.job.labels c.args.session.now.style c.args.session.now.galley 1 Done steps)
    (EditFront c.args.task.now.job.labels c.args.session.now.style c.args.session.now.galley steps)
    (output_over (sent g.O.Sink.written g.O.Sink.writes c.args.out.now) (sent g.O.Sink.written g.O.Sink.writes c.make_steps.new.out)
    (g.O.Sink.faults c.args.out.now) (g.O.Sink.faults c.make_steps.new.out)) c.make_steps.result) c.as_slice.ensures
    c.make_steps.ensures.writes)

pub returns-in-Ok-clause-counted : goal.returns-in-Ok-clause-counted
returns-in-Ok-clause-counted g c =
    unless_memory (status_of c.make_steps.result) (λ counted.
    when_said (λ (said : Result (List ScriptStep) Stop). CountsScript c.args.session.now.style
    (show_of c.args.session.now) said c.args.steps.now c.make_steps.new.steps) (g.H.Shelf.held c.args.shelf.now)
    (λ (held : Held). opened_script c.args.task.now.job.script.now (held c.args.task.now.job.script.now)) c.in-Ok.script
    c.in-Ok.ensures.script (taken_counted c.args.session.now.style c.args.session.now.galley
    (shows_from (show_of c.args.session.now) c.args.session.now.style c.in-Ok.script) c.args.steps.now
    c.make_steps.new.steps c.requires.known c.requires.few
    (subst (λ (steps : List ScriptStep). AreCounted c.args.session.now.style
    (shows_from (show_of c.args.session.now) c.args.session.now.style steps) c.args.steps.now
    c.make_steps.new.steps) c.as_slice.ensures counted))) c.make_steps.ensures.counted
