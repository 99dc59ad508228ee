use Rattle.pg_plan.proofs.BackwardsLemmas.{move_is}
use Rattle.pg_plan.proofs.backwards.MoveView.of.Goals as goal

pub returns : goal.returns
returns c = move_is c.args.step.now.column c.args.step.now.run c.args.step.now.wide c.as_slice.result.now c.as_slice.ensures
