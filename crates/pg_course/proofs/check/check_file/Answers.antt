use Rattle.std.proofs.Common.{rules}
use Rattle.std.specs.Prelude.{Result}
use Rattle.pg_labels.specs.declared.output.Output.{Output}
use Rattle.pg_outside.specs.Outside.{Held, sent}
use Rattle.pg_command.specs.Lines.{line_of, status_of}
use Rattle.pg_course.specs.Counted.{CountsText}
use Rattle.pg_course.specs.Course.{BeginsBy, CheckText, EndsBy, Stop, opened_output}
use Rattle.pg_course.specs.Calls.{over_shelf}
use Rattle.pg_course.proofs.Checks.{all_told}
use Rattle.pg_course.proofs.Counts.{still_text}
use Rattle.pg_course.proofs.Runs.{on_read_fault, on_settled, on_write_fault, when_said}
use Rattle.pg_course.proofs.Stops.{stopped_check}
use Rattle.pg_course.proofs.check.check_file.Goals as goal

pub returns-in-Err-clause-goes : goal.returns-in-Err-clause-goes
returns-in-Err-clause-goes g c =
    stopped_check c.args.basis.now.style.now c.args.basis.now.galley.now c.args.task.now.job.output.now
    (over_shelf (g.H.Shelf.held c.args.shelf.now) (g.H.Shelf.faults c.args.shelf.now)
    (g.H.Shelf.faults c.open_output.new.shelf) (g.H.Shelf.last_failed c.open_output.new.shelf))
    (sent g.O.Sink.written g.O.Sink.writes c.args.out.now) (g.O.Sink.faults c.args.out.now) c.in-Err.ending
    c.in-Err.ensures.stopped

pub returns-in-Err-clause-counted : goal.returns-in-Err-clause-counted
returns-in-Err-clause-counted g c = all_told (g.H.Shelf.held c.args.shelf.now) (λ held.
    still_text (opened_output c.args.task.now.job.output.now (held c.args.task.now.job.output.now)) c.args.steps.now)

pub returns-in-Ok-clause-goes : goal.returns-in-Ok-clause-goes
returns-in-Ok-clause-goes g c =
    let old = sent g.O.Sink.written g.O.Sink.writes c.args.out.now in
    let new = sent g.O.Sink.written g.O.Sink.writes c.check_output.new.out in
    let end = c.check_output.result in
    record {
      settled =
          on_settled (status_of end) (when_said (λ (said : Result Output Stop).
          EndsBy (CheckText c.args.basis.now.style.now c.args.basis.now.galley.now said) old new (status_of end)
          (line_of end))
          (g.H.Shelf.held c.args.shelf.now)
          (λ (held : Held). opened_output c.args.task.now.job.output.now (held c.args.task.now.job.output.now))
          c.in-Ok.output
          c.in-Ok.ensures.output) c.check_output.ensures.writes.settled;
      read = on_read_fault (status_of end) (λ never. absurd never) c.check_output.ensures.writes.no_read;
      read_keeps = on_read_fault (status_of end) (λ never. absurd never) c.check_output.ensures.writes.no_read;
      write = c.check_output.ensures.writes.write;
      front =
          on_write_fault (status_of end) (when_said (λ (said : Result Output Stop).
          BeginsBy (CheckText c.args.basis.now.style.now c.args.basis.now.galley.now said) old new)
          (g.H.Shelf.held c.args.shelf.now)
          (λ (held : Held). opened_output c.args.task.now.job.output.now (held c.args.task.now.job.output.now))
          c.in-Ok.output
          c.in-Ok.ensures.output) c.check_output.ensures.writes.front;
      memory = search rules;
      no_usage = search rules;
    }

pub returns-in-Ok-clause-counted : goal.returns-in-Ok-clause-counted
returns-in-Ok-clause-counted g c =
    when_said (λ (said : Result Output Stop). CountsText said c.args.steps.now c.check_output.new.steps)
    (g.H.Shelf.held c.args.shelf.now) (λ (held : Held). opened_output c.args.task.now.job.output.now (held
    c.args.task.now.job.output.now))
    c.in-Ok.output c.in-Ok.ensures.output c.check_output.ensures.counted
