use Rattle.std.proofs.Common.{◌≡◌, subst, sym}
use Rattle.std.specs.Prelude.{IfSome, Ok, Option, Result, Some}
use Rattle.pg_style.specs.Values.{StyleValue}
use Rattle.pg_outside.specs.Outside.{Held, output_over, sent}
use Rattle.pg_command.specs.Lines.{status_of}
use Rattle.pg_command.specs.Words.{check, named}
use Rattle.pg_course.specs.Calls.{over_shelf}
use Rattle.pg_course.specs.Counted.{CountsCheck}
use Rattle.pg_course.specs.Course.{Stop, opened, opened_output, opened_style}
use Rattle.pg_course.proofs.Checks.{all_told, goes_earlier}
use Rattle.pg_course.proofs.Complete.{complete_earlier, no_style_complete}
use Rattle.pg_course.proofs.Counts.{read_counts, still_check, whatever}
use Rattle.pg_course.proofs.check.check_course.Goals as goal

pub returns-in-Err-clause-counted : goal.returns-in-Err-clause-counted
returns-in-Err-clause-counted g c =
    whatever (status_of c.in-Err.ending) (all_told (g.H.Shelf.held c.args.shelf.now) (λ held.
    still_check (opened_style (named c.args.job.style.now) held)
    (opened c.args.job.galley.now c.args.job.wrap (held c.args.job.galley.now))
    (opened_output c.args.job.output.now (held c.args.job.output.now)) c.args.steps.now))

pub returns-in-Err-clause-complete : goal.returns-in-Err-clause-complete
returns-in-Err-clause-complete g c =
    let old = sent g.O.Sink.written g.O.Sink.writes c.args.out.now in
    let writes = g.O.Sink.faults c.args.out.now in
    no_style_complete c.args.job.style.now c.args.job.galley.now c.args.job.output.now c.args.job.wrap
    (over_shelf (g.H.Shelf.held c.args.shelf.now) (g.H.Shelf.faults c.args.shelf.now)
    (g.H.Shelf.faults c.open_style.new.shelf) (g.H.Shelf.last_failed c.open_style.new.shelf))
    (output_over old old writes writes) c.in-Err.ending c.in-Err.ensures.stopped

pub returns-in-Ok-clause-goes : goal.returns-in-Ok-clause-goes
returns-in-Ok-clause-goes g c =
    let told = g.H.Shelf.held c.args.shelf.now in
    let mid = g.H.Shelf.held c.open_style.new.shelf in
    goes_earlier (Some (check c.args.job.style.now c.args.job.galley.now c.args.job.output.now c.args.job.wrap)) told
    mid
    (g.H.Shelf.faults c.args.shelf.now) (g.H.Shelf.faults c.open_style.new.shelf)
    (g.H.Shelf.faults c.check_styled.new.shelf) (g.H.Shelf.last_failed c.check_styled.new.shelf)
    (output_over (sent g.O.Sink.written g.O.Sink.writes c.args.out.now) (sent g.O.Sink.written g.O.Sink.writes c.check_styled.new.out)
    (g.O.Sink.faults c.args.out.now) (g.O.Sink.faults c.check_styled.new.out)) c.check_styled.result
    c.open_style.ensures.same c.open_style.ensures.later
    (c.check_styled.ensures.goes c.args.job.style.now
    (subst (λ (t : Option Held). IfSome t (λ held. opened_style (named c.args.job.style.now) held ≡ Ok c.in-Ok.style))
    (sym c.open_style.ensures.same) c.in-Ok.ensures.style))

pub returns-in-Ok-clause-counted : goal.returns-in-Ok-clause-counted
returns-in-Ok-clause-counted g c =
    whatever (status_of c.check_styled.result)
    (read_counts (g.H.Shelf.held c.args.shelf.now) (g.H.Shelf.held c.open_style.new.shelf)
    (λ held. opened_style (named c.args.job.style.now) held) c.in-Ok.style
    (λ (said : Result StyleValue Stop) (held : Held). CountsCheck said
    (opened c.args.job.galley.now c.args.job.wrap (held c.args.job.galley.now))
    (opened_output c.args.job.output.now (held c.args.job.output.now)) c.args.steps.now c.check_styled.new.steps)
    c.open_style.ensures.same c.in-Ok.ensures.style c.check_styled.ensures.counted)

pub returns-in-Ok-clause-complete : goal.returns-in-Ok-clause-complete
returns-in-Ok-clause-complete g c =
    let told = g.H.Shelf.held c.args.shelf.now in
    let mid = g.H.Shelf.held c.open_style.new.shelf in
    complete_earlier c.args.job.style.now c.args.job.galley.now c.args.job.output.now c.args.job.wrap told mid
    (g.H.Shelf.faults c.args.shelf.now) (g.H.Shelf.faults c.open_style.new.shelf)
    (g.H.Shelf.faults c.check_styled.new.shelf) (g.H.Shelf.last_failed c.check_styled.new.shelf)
    (output_over (sent g.O.Sink.written g.O.Sink.writes c.args.out.now) (sent g.O.Sink.written g.O.Sink.writes c.check_styled.new.out)
    (g.O.Sink.faults c.args.out.now) (g.O.Sink.faults c.check_styled.new.out)) (status_of c.check_styled.result)
    c.open_style.ensures.same c.open_style.ensures.later
    (c.check_styled.ensures.complete c.args.job.style.now
    (subst (λ (t : Option Held). IfSome t (λ held. opened_style (named c.args.job.style.now) held ≡ Ok c.in-Ok.style))
    (sym c.open_style.ensures.same) c.in-Ok.ensures.style))
