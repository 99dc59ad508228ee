use Rattle.std.proofs.Common.{subst, sym}
use Rattle.std.specs.Prelude.{IfErr}
use Rattle.pg_outside.specs.Outside.{output_over, sent}
use Rattle.pg_edits.specs.declared.script.ScriptStep.{ScriptStep}
use Rattle.pg_course.specs.Steps.{IsNoStep}
use Rattle.pg_course.proofs.edit.make_step.Goals as goal

pub returns-in-Show-clause-not_made : goal.returns-in-Show-clause-not_made
returns-in-Show-clause-not_made g c =
    subst (λ (step : ScriptStep). IfErr c.show.result (IsNoStep c.args.labels step c.args.numbered.now.number
    c.args.session.now
    c.show.new.session (output_over (sent g.O.Sink.written g.O.Sink.writes c.args.out.now) (sent g.O.Sink.written g.O.Sink.writes c.show.new.out)
    (g.O.Sink.faults c.args.out.now) (g.O.Sink.faults c.show.new.out)) c.args.steps.now c.show.new.steps))
    (sym c.in-Show.is) (c.show.ensures.not_made c.args.numbered.now.number)
