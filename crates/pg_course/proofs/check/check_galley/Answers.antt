use Rattle.std.proofs.Common.{subst, sym}
use Rattle.std.specs.Prelude.{Some}
use Rattle.pg_outside.specs.Outside.{output_over, sent}
use Rattle.pg_command.specs.declared.ending.Ending.{Ending}
use Rattle.pg_command.specs.Words.{check}
use Rattle.pg_course.specs.Calls.{Goes, over_shelf}
use Rattle.pg_course.specs.Course.{opened_output}
use Rattle.pg_course.proofs.Checks.{all_told, if_some, refused_goes, taken_goes}
use Rattle.pg_course.proofs.Complete.{goes_complete}
use Rattle.pg_course.proofs.Counts.{still_taken, text_counted}
use Rattle.pg_course.proofs.check.check_galley.Goals as goal

pub returns-in-Err-clause-goes : goal.returns-in-Err-clause-goes
returns-in-Err-clause-goes g c = λ style galley wrap are.
    let told = g.H.Shelf.held c.args.shelf.now in
    let before = g.H.Shelf.faults c.args.shelf.now in
    let last = g.H.Shelf.last_failed c.args.shelf.now in
    let old = sent g.O.Sink.written g.O.Sink.writes c.args.out.now in
    let faults = g.O.Sink.faults c.args.out.now in
    subst (λ (end : Ending). Goes (Some (check style galley c.args.task.now.job.output.now wrap))
    (over_shelf told before before last) (output_over old old faults faults) end) (sym c.float_ending.ensures)
    (refused_goes style galley c.args.task.now.job.output.now wrap c.args.style.now c.args.galley.now told before last
    old faults
    c.in-Err.fault c.in-Err.ensures are)

pub returns-in-Err-clause-counted : goal.returns-in-Err-clause-counted
returns-in-Err-clause-counted g c = all_told (g.H.Shelf.held c.args.shelf.now) (λ held.
    still_taken c.args.style.now c.args.galley.now (opened_output c.args.task.now.job.output.now (held
    c.args.task.now.job.output.now))
    c.args.steps.now)

pub returns-in-Err-clause-complete : goal.returns-in-Err-clause-complete
returns-in-Err-clause-complete g c = λ style galley wrap are.
    let faults = g.H.Shelf.faults c.args.shelf.now in
    let old = sent g.O.Sink.written g.O.Sink.writes c.args.out.now in
    let writes = g.O.Sink.faults c.args.out.now in
    goes_complete style galley c.args.task.now.job.output.now wrap c.args.style.now c.args.galley.now
    c.labelled_texts_tell.ensures.best c.labelled_texts_tell.ensures.none
    (over_shelf (g.H.Shelf.held c.args.shelf.now) faults faults (g.H.Shelf.last_failed c.args.shelf.now))
    (output_over old old writes writes) c.float_ending.result are (returns-in-Err-clause-goes g c style galley wrap are)

pub returns-in-Ok-clause-goes : goal.returns-in-Ok-clause-goes
returns-in-Ok-clause-goes g c = λ style galley wrap are.
    taken_goes style galley c.args.task.now.job.output.now wrap c.args.style.now c.args.galley.now
    (over_shelf (g.H.Shelf.held c.args.shelf.now) (g.H.Shelf.faults c.args.shelf.now)
    (g.H.Shelf.faults c.check_file.new.shelf) (g.H.Shelf.last_failed c.check_file.new.shelf))
    (output_over (sent g.O.Sink.written g.O.Sink.writes c.args.out.now) (sent g.O.Sink.written g.O.Sink.writes c.check_file.new.out)
    (g.O.Sink.faults c.args.out.now) (g.O.Sink.faults c.check_file.new.out)) c.check_file.result
    c.in-Ok.ensures.1 c.in-Ok.ensures.2 are c.check_file.ensures.goes

pub returns-in-Ok-clause-counted : goal.returns-in-Ok-clause-counted
returns-in-Ok-clause-counted g c =
    if_some (g.H.Shelf.held c.args.shelf.now) (λ held counted.
    text_counted c.args.style.now c.args.galley.now (opened_output c.args.task.now.job.output.now (held
    c.args.task.now.job.output.now))
    c.args.steps.now c.check_file.new.steps c.in-Ok.ensures.1 c.in-Ok.ensures.2 counted) c.check_file.ensures.counted

pub returns-in-Ok-clause-complete : goal.returns-in-Ok-clause-complete
returns-in-Ok-clause-complete g c = λ style galley wrap are.
    goes_complete style galley c.args.task.now.job.output.now wrap c.args.style.now c.args.galley.now
    c.labelled_texts_tell.ensures.best c.labelled_texts_tell.ensures.none
    (over_shelf (g.H.Shelf.held c.args.shelf.now) (g.H.Shelf.faults c.args.shelf.now)
    (g.H.Shelf.faults c.check_file.new.shelf) (g.H.Shelf.last_failed c.check_file.new.shelf))
    (output_over (sent g.O.Sink.written g.O.Sink.writes c.args.out.now) (sent g.O.Sink.written g.O.Sink.writes c.check_file.new.out)
    (g.O.Sink.faults c.args.out.now) (g.O.Sink.faults c.check_file.new.out)) c.check_file.result are
    (returns-in-Ok-clause-goes g c style galley wrap are)
