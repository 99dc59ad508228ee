use Rattle.pg_outside.specs.Outside.{sent}
use Rattle.std.proofs.Common.{◌≡◌, ◌≤◌, take}
use Rattle.pg_course.specs.Steps.{AreMade}
use Rattle.pg_course.proofs.edit.make_each.Given as goal

abbrev pub invariant-loop-step : goal.invariant-loop-step
invariant-loop-step g l = record {
  number : l.number ≡ l.step-index;
  made :
      AreMade l.labels l.initial.session (take l.step-index l.script) l.session l.legal
      (sent g.O.Sink.written g.O.Sink.writes l.initial.out) (sent g.O.Sink.written g.O.Sink.writes l.out) l.initial.steps l.steps;
  later : g.O.Sink.faults l.initial.out ≤ g.O.Sink.faults l.out;
}
