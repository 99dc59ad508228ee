use Rattle.std.specs.Prelude.{Ok, Result, Some}
use Rattle.pg_list.specs.GalleyValue.{GalleyValue}
use Rattle.pg_outside.specs.Outside.{Held, output_over, sent}
use Rattle.pg_command.specs.Lines.{status_of}
use Rattle.pg_command.specs.Words.{edit}
use Rattle.pg_course.specs.Calls.{over_shelf}
use Rattle.pg_course.specs.Counted.{CountsEdit}
use Rattle.pg_course.specs.Course.{Stop, opened, opened_script}
use Rattle.pg_course.proofs.Checks.{all_told, both_read, goes_earlier}
use Rattle.pg_course.proofs.Counts.{read_counts, still_edit, unless_memory, whatever}
use Rattle.pg_course.proofs.Scripts.{stopped_goes}
use Rattle.pg_course.proofs.edit.edit_styled.Goals as goal

pub returns-in-Err-clause-goes : goal.returns-in-Err-clause-goes
returns-in-Err-clause-goes g c = λ style said.
    stopped_goes style c.args.task.now.job.galley.now c.args.task.now.job.script.now c.args.task.now.job.labels
    c.args.task.now.job.wrap c.args.style
    (over_shelf (g.H.Shelf.held c.args.shelf.now) (g.H.Shelf.faults c.args.shelf.now)
    (g.H.Shelf.faults c.open_galley.new.shelf) (g.H.Shelf.last_failed c.open_galley.new.shelf))
    (sent g.O.Sink.written g.O.Sink.writes c.args.out.now) (g.O.Sink.faults c.args.out.now) c.in-Err.ending said
    c.in-Err.ensures.stopped

pub returns-in-Err-clause-counted : goal.returns-in-Err-clause-counted
returns-in-Err-clause-counted g c =
    whatever (status_of c.in-Err.ending) (all_told (g.H.Shelf.held c.args.shelf.now) (λ held.
    still_edit (Ok c.args.style) (opened c.args.task.now.job.galley.now c.args.task.now.job.wrap (held
    c.args.task.now.job.galley.now))
    (opened_script c.args.task.now.job.script.now (held c.args.task.now.job.script.now)) c.args.steps.now))

pub returns-in-Ok-clause-goes : goal.returns-in-Ok-clause-goes
returns-in-Ok-clause-goes g c = λ style said.
    let told = g.H.Shelf.held c.args.shelf.now in
    let mid = g.H.Shelf.held c.open_galley.new.shelf in
    goes_earlier (Some (edit style c.args.task.now.job.galley.now c.args.task.now.job.script.now
    c.args.task.now.job.labels c.args.task.now.job.wrap)) told mid
    (g.H.Shelf.faults c.args.shelf.now) (g.H.Shelf.faults c.open_galley.new.shelf)
    (g.H.Shelf.faults c.edit_galley.new.shelf) (g.H.Shelf.last_failed c.edit_galley.new.shelf)
    (output_over (sent g.O.Sink.written g.O.Sink.writes c.args.out.now) (sent g.O.Sink.written g.O.Sink.writes c.edit_galley.new.out)
    (g.O.Sink.faults c.args.out.now) (g.O.Sink.faults c.edit_galley.new.out)) c.edit_galley.result
    c.open_galley.ensures.same c.open_galley.ensures.later
    (c.edit_galley.ensures.goes style c.args.task.now.job.galley.now c.args.task.now.job.wrap
    (both_read style c.args.task.now.job.galley.now c.args.task.now.job.wrap c.args.style c.in-Ok.galley told mid
    c.open_galley.ensures.same
    said c.in-Ok.ensures.galley))

pub returns-in-Ok-clause-counted : goal.returns-in-Ok-clause-counted
returns-in-Ok-clause-counted g c =
    unless_memory (status_of c.edit_galley.result)
    (read_counts (g.H.Shelf.held c.args.shelf.now) (g.H.Shelf.held c.open_galley.new.shelf)
    (λ held. opened c.args.task.now.job.galley.now c.args.task.now.job.wrap (held c.args.task.now.job.galley.now))
    c.in-Ok.galley
    (λ (said : Result GalleyValue Stop) (held : Held). CountsEdit (Ok c.args.style) said
    (opened_script c.args.task.now.job.script.now (held c.args.task.now.job.script.now)) c.args.steps.now
    c.edit_galley.new.steps)
    c.open_galley.ensures.same c.in-Ok.ensures.galley) c.edit_galley.ensures.counted
