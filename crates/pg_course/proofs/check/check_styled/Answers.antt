use Rattle.std.specs.Prelude.{Ok, Result, Some}
use Rattle.pg_list.specs.GalleyValue.{GalleyValue}
use Rattle.pg_outside.specs.Outside.{Held, output_over, sent}
use Rattle.pg_command.specs.Lines.{status_of}
use Rattle.pg_command.specs.Words.{check}
use Rattle.pg_course.specs.Calls.{over_shelf}
use Rattle.pg_course.specs.Counted.{CountsCheck}
use Rattle.pg_course.specs.Course.{Stop, opened, opened_output}
use Rattle.pg_course.proofs.Checks.{all_told, both_read, goes_earlier, stopped_goes}
use Rattle.pg_course.proofs.Complete.{complete_earlier, no_galley_complete}
use Rattle.pg_course.proofs.Counts.{read_counts, still_check}
use Rattle.pg_course.proofs.check.check_styled.Goals as goal

pub returns-in-Err-clause-goes : goal.returns-in-Err-clause-goes
returns-in-Err-clause-goes g c = λ style said.
    stopped_goes style c.args.task.now.job.galley.now c.args.task.now.job.output.now c.args.task.now.job.wrap
    c.args.style.now
    (over_shelf (g.H.Shelf.held c.args.shelf.now) (g.H.Shelf.faults c.args.shelf.now)
    (g.H.Shelf.faults c.open_galley.new.shelf) (g.H.Shelf.last_failed c.open_galley.new.shelf))
    (sent g.O.Sink.written g.O.Sink.writes c.args.out.now) (g.O.Sink.faults c.args.out.now) c.in-Err.ending said
    c.in-Err.ensures.stopped

pub returns-in-Err-clause-counted : goal.returns-in-Err-clause-counted
returns-in-Err-clause-counted g c = all_told (g.H.Shelf.held c.args.shelf.now) (λ held.
    still_check (Ok c.args.style.now) (opened c.args.task.now.job.galley.now c.args.task.now.job.wrap (held
    c.args.task.now.job.galley.now))
    (opened_output c.args.task.now.job.output.now (held c.args.task.now.job.output.now)) c.args.steps.now)

pub returns-in-Err-clause-complete : goal.returns-in-Err-clause-complete
returns-in-Err-clause-complete g c = λ style said.
    let old = sent g.O.Sink.written g.O.Sink.writes c.args.out.now in
    let writes = g.O.Sink.faults c.args.out.now in
    no_galley_complete style c.args.task.now.job.galley.now c.args.task.now.job.output.now c.args.task.now.job.wrap
    (over_shelf (g.H.Shelf.held c.args.shelf.now) (g.H.Shelf.faults c.args.shelf.now)
    (g.H.Shelf.faults c.open_galley.new.shelf) (g.H.Shelf.last_failed c.open_galley.new.shelf))
    (output_over old old writes writes) c.in-Err.ending c.in-Err.ensures.stopped

pub returns-in-Ok-clause-goes : goal.returns-in-Ok-clause-goes
returns-in-Ok-clause-goes g c = λ style said.
    let told = g.H.Shelf.held c.args.shelf.now in
    let mid = g.H.Shelf.held c.open_galley.new.shelf in
    goes_earlier (Some (check style c.args.task.now.job.galley.now c.args.task.now.job.output.now
    c.args.task.now.job.wrap)) told mid
    (g.H.Shelf.faults c.args.shelf.now) (g.H.Shelf.faults c.open_galley.new.shelf)
    (g.H.Shelf.faults c.check_galley.new.shelf) (g.H.Shelf.last_failed c.check_galley.new.shelf)
    (output_over (sent g.O.Sink.written g.O.Sink.writes c.args.out.now) (sent g.O.Sink.written g.O.Sink.writes c.check_galley.new.out)
    (g.O.Sink.faults c.args.out.now) (g.O.Sink.faults c.check_galley.new.out)) c.check_galley.result
    c.open_galley.ensures.same c.open_galley.ensures.later
    (c.check_galley.ensures.goes style c.args.task.now.job.galley.now c.args.task.now.job.wrap
    (both_read style c.args.task.now.job.galley.now c.args.task.now.job.wrap c.args.style.now c.in-Ok.galley told mid
    c.open_galley.ensures.same
    said c.in-Ok.ensures.galley))

pub returns-in-Ok-clause-counted : goal.returns-in-Ok-clause-counted
returns-in-Ok-clause-counted g c =
    read_counts (g.H.Shelf.held c.args.shelf.now) (g.H.Shelf.held c.open_galley.new.shelf)
    (λ held. opened c.args.task.now.job.galley.now c.args.task.now.job.wrap (held c.args.task.now.job.galley.now))
    c.in-Ok.galley
    (λ (said : Result GalleyValue Stop) (held : Held). CountsCheck (Ok c.args.style.now) said
    (opened_output c.args.task.now.job.output.now (held c.args.task.now.job.output.now)) c.args.steps.now
    c.check_galley.new.steps)
    c.open_galley.ensures.same c.in-Ok.ensures.galley c.check_galley.ensures.counted

pub returns-in-Ok-clause-complete : goal.returns-in-Ok-clause-complete
returns-in-Ok-clause-complete g c = λ style said.
    let told = g.H.Shelf.held c.args.shelf.now in
    let mid = g.H.Shelf.held c.open_galley.new.shelf in
    complete_earlier style c.args.task.now.job.galley.now c.args.task.now.job.output.now c.args.task.now.job.wrap told
    mid
    (g.H.Shelf.faults c.args.shelf.now) (g.H.Shelf.faults c.open_galley.new.shelf)
    (g.H.Shelf.faults c.check_galley.new.shelf) (g.H.Shelf.last_failed c.check_galley.new.shelf)
    (output_over (sent g.O.Sink.written g.O.Sink.writes c.args.out.now) (sent g.O.Sink.written g.O.Sink.writes c.check_galley.new.out)
    (g.O.Sink.faults c.args.out.now) (g.O.Sink.faults c.check_galley.new.out)) (status_of c.check_galley.result)
    c.open_galley.ensures.same c.open_galley.ensures.later
    (c.check_galley.ensures.complete style c.args.task.now.job.galley.now c.args.task.now.job.wrap
    (both_read style c.args.task.now.job.galley.now c.args.task.now.job.wrap c.args.style.now c.in-Ok.galley told mid
    c.open_galley.ensures.same
    said c.in-Ok.ensures.galley))
