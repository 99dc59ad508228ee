use Rattle.std.proofs.Common.{◌≡◌, ◌≤◌, ◌^◌, subst, sym}
use Rattle.std.specs.Prelude.{None, Ok, Some}
use Rattle.pg_floats.specs.AreFloats.{float_total, unknown_class}
use Rattle.pg_session.specs.SessionValue.{SessionValue}
use Rattle.pg_session.specs.Shows.{show_of}
use Rattle.pg_outside.specs.Outside.{Held, output_over, sent}
use Rattle.pg_command.specs.declared.ending.Ending.{Ending}
use Rattle.pg_command.specs.Lines.{status_of}
use Rattle.pg_command.specs.Words.{edit}
use Rattle.pg_course.specs.Calls.{Goes, GoesThrough, over_shelf}
use Rattle.pg_course.specs.Counted.{CountsScript}
use Rattle.pg_course.specs.Course.{EditScript, ScriptFront, opened_script}
use Rattle.pg_course.proofs.Checks.{all_told, if_some}
use Rattle.pg_course.proofs.Counts.{still_edit, unless_memory, whatever}
use Rattle.pg_course.proofs.Scripts.{refused_goes, taken_goes}
use Rattle.pg_course.proofs.edit.edit_galley.Goals as goal

pub returns-in-Err-clause-goes : goal.returns-in-Err-clause-goes
returns-in-Err-clause-goes g c = λ style galley wrap are.
    let told = g.H.Shelf.held c.args.shelf.now in
    let before = g.H.Shelf.faults c.args.shelf.now in
    let last = g.H.Shelf.last_failed c.args.shelf.now in
    let old = sent g.O.Sink.written g.O.Sink.writes c.args.out.now in
    let faults = g.O.Sink.faults c.args.out.now in
    subst (λ (end : Ending). Goes (Some (edit style galley c.args.task.now.job.script.now c.args.task.now.job.labels
    wrap))
    (over_shelf told before before last) (output_over old old faults faults) end) (sym c.float_ending.ensures)
    (refused_goes style galley c.args.task.now.job.script.now c.args.task.now.job.labels wrap c.args.style c.args.galley
    told before last old faults
    c.in-Err.fault c.in-Err.ensures are)

pub returns-in-Err-clause-counted : goal.returns-in-Err-clause-counted
returns-in-Err-clause-counted g c =
    whatever (status_of c.float_ending.result) (all_told (g.H.Shelf.held c.args.shelf.now) (λ held.
    still_edit (Ok c.args.style) (Ok c.args.galley) (opened_script c.args.task.now.job.script.now (held
    c.args.task.now.job.script.now))
    c.args.steps.now))

pub edit_file-requires-clause-known : goal.edit_file-requires-clause-known
edit_file-requires-clause-known g c =
    subst (λ (s : SessionValue). unknown_class s.galley.blocks s.style ≡ None) (sym c.in-Ok.ensures.0.is)
    c.in-Ok.ensures.1

pub edit_file-requires-clause-few : goal.edit_file-requires-clause-few
edit_file-requires-clause-few g c =
    subst (λ (s : SessionValue). float_total s.galley.blocks s.style ≤ 2 ^ 12) (sym c.in-Ok.ensures.0.is)
    c.in-Ok.ensures.2

pub returns-in-Ok-clause-goes : goal.returns-in-Ok-clause-goes
returns-in-Ok-clause-goes g c = λ style galley wrap are.
    let shelf = over_shelf (g.H.Shelf.held c.args.shelf.now) (g.H.Shelf.faults c.args.shelf.now)
    (g.H.Shelf.faults c.edit_file.new.shelf) (g.H.Shelf.last_failed c.edit_file.new.shelf) in
    let out = output_over (sent g.O.Sink.written g.O.Sink.writes c.args.out.now) (sent g.O.Sink.written g.O.Sink.writes c.edit_file.new.out)
    (g.O.Sink.faults c.args.out.now) (g.O.Sink.faults c.edit_file.new.out) in
    taken_goes style galley c.args.task.now.job.script.now c.args.task.now.job.labels wrap c.args.style c.args.galley
    shelf out c.edit_file.result
    c.in-Ok.ensures.1 c.in-Ok.ensures.2 are
    (subst (λ (s : SessionValue). GoesThrough
    (λ (held : Held). EditScript c.args.task.now.job.labels s.style s.galley (opened_script
    c.args.task.now.job.script.now (held c.args.task.now.job.script.now)))
    (λ (held : Held). ScriptFront c.args.task.now.job.labels s.style s.galley (opened_script
    c.args.task.now.job.script.now (held c.args.task.now.job.script.now)))
    c.args.task.now.job.script.now shelf out c.edit_file.result) c.in-Ok.ensures.0.is c.edit_file.ensures.goes)

pub returns-in-Ok-clause-counted : goal.returns-in-Ok-clause-counted
returns-in-Ok-clause-counted g c =
    unless_memory (status_of c.edit_file.result) (if_some (g.H.Shelf.held c.args.shelf.now) (λ held counted.
    subst (λ (s : SessionValue). CountsScript s.style (show_of s) (opened_script c.args.task.now.job.script.now (held
    c.args.task.now.job.script.now))
    c.args.steps.now c.edit_file.new.steps) c.in-Ok.ensures.0.is counted)) c.edit_file.ensures.counted
