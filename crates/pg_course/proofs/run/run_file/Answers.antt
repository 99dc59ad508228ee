use Rattle.std.proofs.Common.{rules}
use Rattle.std.specs.Prelude.{Ok, Result}
use Rattle.pg_outside.specs.Outside.{Held, sent}
use Rattle.pg_list.specs.GalleyValue.{GalleyValue}
use Rattle.pg_command.specs.Lines.{line_of, status_of}
use Rattle.pg_course.specs.Counted.{CountsRun}
use Rattle.pg_course.specs.Course.{BeginsBy, EndsBy, RunCourse, Stop, opened}
use Rattle.pg_course.proofs.Checks.{all_told}
use Rattle.pg_course.proofs.Counts.{still_run, unless_memory, whatever}
use Rattle.pg_course.proofs.Runs.{on_settled, on_write_fault, when_said}
use Rattle.pg_course.specs.Calls.{over_shelf}
use Rattle.pg_course.proofs.Stops.{stopped_run}
use Rattle.pg_course.proofs.run.run_file.Goals as goal

pub returns-in-Err-clause-goes : goal.returns-in-Err-clause-goes
returns-in-Err-clause-goes g c =
    stopped_run c.args.product c.args.style c.args.file.now.name.now c.args.file.now.wrap
    (over_shelf (g.H.Shelf.held c.args.shelf.now) (g.H.Shelf.faults c.args.shelf.now)
    (g.H.Shelf.faults c.open_galley.new.shelf) (g.H.Shelf.last_failed c.open_galley.new.shelf))
    (sent g.O.Sink.written g.O.Sink.writes c.args.out.now) (g.O.Sink.faults c.args.out.now) c.in-Err.ending c.in-Err.ensures.stopped

pub returns-in-Err-clause-counted : goal.returns-in-Err-clause-counted
returns-in-Err-clause-counted g c =
    whatever (status_of c.in-Err.ending) (all_told (g.H.Shelf.held c.args.shelf.now) (λ held.
    still_run c.args.product (Ok c.args.style) (opened c.args.file.now.name.now c.args.file.now.wrap (held
    c.args.file.now.name.now)) c.args.steps.now))

pub returns-in-Ok-clause-goes : goal.returns-in-Ok-clause-goes
returns-in-Ok-clause-goes g c =
    let old = sent g.O.Sink.written g.O.Sink.writes c.args.out.now in
    let new = sent g.O.Sink.written g.O.Sink.writes c.run_galley.new.out in
    let end = c.run_galley.result in
    record {
      settled =
          on_settled (status_of end) (when_said (λ (said : Result GalleyValue Stop).
          EndsBy (RunCourse c.args.product c.args.style said) old new (status_of end) (line_of end))
          (g.H.Shelf.held c.args.shelf.now)
          (λ (held : Held). opened c.args.file.now.name.now c.args.file.now.wrap (held c.args.file.now.name.now))
          c.in-Ok.galley
          c.in-Ok.ensures.galley)
          c.run_galley.ensures.writes.settled;
      read = search rules;
      read_keeps = search rules;
      write = search rules;
      front =
          on_write_fault (status_of end) (when_said (λ (said : Result GalleyValue Stop).
          BeginsBy (RunCourse c.args.product c.args.style said) old new)
          (g.H.Shelf.held c.args.shelf.now)
          (λ (held : Held). opened c.args.file.now.name.now c.args.file.now.wrap (held c.args.file.now.name.now))
          c.in-Ok.galley
          c.in-Ok.ensures.galley)
          c.run_galley.ensures.writes.front;
      memory = search rules;
      no_usage = search rules;
    }

pub returns-in-Ok-clause-counted : goal.returns-in-Ok-clause-counted
returns-in-Ok-clause-counted g c =
    unless_memory (status_of c.run_galley.result) (when_said (λ (said : Result GalleyValue Stop).
    CountsRun c.args.product (Ok c.args.style) said c.args.steps.now c.run_galley.new.steps) (g.H.Shelf.held c.args.shelf.now)
    (λ (held : Held). opened c.args.file.now.name.now c.args.file.now.wrap (held c.args.file.now.name.now))
    c.in-Ok.galley
    c.in-Ok.ensures.galley) c.run_galley.ensures.counted
