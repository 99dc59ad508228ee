use Rattle.pg_outside.specs.Outside.{sent}
use Rattle.std.proofs.Common.{ap, arith, refl, sym, ℕ, ◌+◌}
use Rattle.pg_course.proofs.Edited.{none_made, step_failed, step_made}
use Rattle.pg_course.proofs.edit.make_each.Goals as goal

pub loop-step-init : goal.loop-step-init
loop-step-init g c = record {
  number = refl;
  made = none_made c.args.labels c.args.session.now (sent g.O.Sink.written g.O.Sink.writes c.args.out.now) c.args.steps.now;
  later = omega arith;
}

pub returns-in-Err-clause-ends : goal.returns-in-Err-clause-ends
returns-in-Err-clause-ends g c =
    (step_failed c.args.labels c.args.session.now c.loop-step.session c.make_step.new.session c.args.script.now
    c.loop-step.step-index c.step-item.result c.loop-step.number c.loop-step.legal (sent g.O.Sink.written g.O.Sink.writes c.args.out.now)
    (sent g.O.Sink.written g.O.Sink.writes c.loop-step.out) (sent g.O.Sink.written g.O.Sink.writes c.make_step.new.out) (g.O.Sink.faults c.args.out.now) (g.O.Sink.faults c.loop-step.out)
    (g.O.Sink.faults c.make_step.new.out) c.args.steps.now c.loop-step.steps c.make_step.new.steps c.in-Err.ending
    c.loop-step-test.true (sym c.step-item.is) c.loop-step.invariant.number c.loop-step.invariant.made
    c.loop-step.invariant.later c.in-Err.ensures.not_made).0

pub returns-in-Err-clause-counted : goal.returns-in-Err-clause-counted
returns-in-Err-clause-counted g c =
    (step_failed c.args.labels c.args.session.now c.loop-step.session c.make_step.new.session c.args.script.now
    c.loop-step.step-index c.step-item.result c.loop-step.number c.loop-step.legal (sent g.O.Sink.written g.O.Sink.writes c.args.out.now)
    (sent g.O.Sink.written g.O.Sink.writes c.loop-step.out) (sent g.O.Sink.written g.O.Sink.writes c.make_step.new.out) (g.O.Sink.faults c.args.out.now) (g.O.Sink.faults c.loop-step.out)
    (g.O.Sink.faults c.make_step.new.out) c.args.steps.now c.loop-step.steps c.make_step.new.steps c.in-Err.ending
    c.loop-step-test.true (sym c.step-item.is) c.loop-step.invariant.number c.loop-step.invariant.made
    c.loop-step.invariant.later c.in-Err.ensures.not_made).1

pub loop-step-preserved : goal.loop-step-preserved
loop-step-preserved g c = record {
  number = ap (λ (n : ℕ). n + 1) c.loop-step.invariant.number;
  made =
      step_made c.args.labels c.args.session.now c.loop-step.session c.make_step.new.session c.args.script.now
      c.loop-step.step-index c.step-item.result c.loop-step.legal c.in-Ok.shown (sent g.O.Sink.written g.O.Sink.writes c.args.out.now)
      (sent g.O.Sink.written g.O.Sink.writes c.loop-step.out) (sent g.O.Sink.written g.O.Sink.writes c.make_step.new.out) c.args.steps.now c.loop-step.steps
      c.make_step.new.steps c.loop-step-test.true (sym c.step-item.is) c.loop-step.invariant.made c.in-Ok.ensures.made;
  later = let a = c.loop-step.invariant.later in let b = c.make_step.ensures.later in omega (arith, a, b);
}
