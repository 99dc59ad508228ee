use Rattle.pg_outside.specs.Outside.{sent}
use Rattle.std.proofs.Common.{rules}
use Rattle.pg_command.specs.Words.{named}
use Rattle.pg_command.specs.Lines.{line_of, status_of}
use Rattle.pg_course.specs.Counted.{CountsRun}
use Rattle.pg_course.specs.Course.{opened, opened_style}
use Rattle.pg_course.proofs.Checks.{all_told}
use Rattle.pg_course.proofs.Counts.{still_run, read_counts, unless_memory, whatever}
use Rattle.pg_course.proofs.Runs.{styled_begins, styled_ends}
use Rattle.pg_course.specs.declared.product.Product.TheVariants.{Sheets}
use Rattle.pg_course.proofs.fold.fold_course.Goals as goal

pub returns-in-Err-clause-counted : goal.returns-in-Err-clause-counted
returns-in-Err-clause-counted g c =
    whatever (status_of c.in-Err.ending) (all_told (g.H.Shelf.held c.args.shelf.now) (λ held.
    still_run (Sheets c.args.job.folds c.args.job.nest) (opened_style (named c.args.job.style.now) held)
    (opened c.args.job.galley.now c.args.job.wrap (held c.args.job.galley.now)) c.args.steps.now))

pub returns-in-Ok-clause-goes : goal.returns-in-Ok-clause-goes
returns-in-Ok-clause-goes g c = record {
  settled =
      styled_ends (g.H.Shelf.held c.args.shelf.now) (g.H.Shelf.held c.open_style.new.shelf)
      (named c.args.job.style.now) c.in-Ok.style c.args.job.galley.now (Sheets c.args.job.folds c.args.job.nest)
      c.args.job.wrap
      (sent g.O.Sink.written g.O.Sink.writes c.args.out.now) (sent g.O.Sink.written g.O.Sink.writes c.run_file.new.out)
      (status_of c.run_file.result) (line_of c.run_file.result) c.in-Ok.ensures.style c.open_style.ensures.same
      c.run_file.ensures.goes.settled;
  read = search rules;
  read_keeps = search rules;
  write = search rules;
  front =
      styled_begins (g.H.Shelf.held c.args.shelf.now) (g.H.Shelf.held c.open_style.new.shelf)
      (named c.args.job.style.now) c.in-Ok.style c.args.job.galley.now (Sheets c.args.job.folds c.args.job.nest)
      c.args.job.wrap
      (sent g.O.Sink.written g.O.Sink.writes c.args.out.now) (sent g.O.Sink.written g.O.Sink.writes c.run_file.new.out)
      (status_of c.run_file.result) c.in-Ok.ensures.style c.open_style.ensures.same
      c.run_file.ensures.goes.front;
  memory = search rules;
  usage = search rules;
  usage_keeps = search rules;
}

pub returns-in-Ok-clause-counted : goal.returns-in-Ok-clause-counted
returns-in-Ok-clause-counted g c =
    unless_memory (status_of c.run_file.result)
    (λ counted. read_counts (g.H.Shelf.held c.args.shelf.now) (g.H.Shelf.held c.open_style.new.shelf)
    (λ held. opened_style (named c.args.job.style.now) held) c.in-Ok.style
    (λ said held. CountsRun (Sheets c.args.job.folds c.args.job.nest) said (opened c.args.job.galley.now c.args.job.wrap
    (held c.args.job.galley.now)) c.args.steps.now
    c.run_file.new.steps) c.open_style.ensures.same c.in-Ok.ensures.style counted) c.run_file.ensures.counted
