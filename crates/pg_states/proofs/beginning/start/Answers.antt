use Rattle.std.proofs.Common.{◌≡◌, subst, IfOk}
use Rattle.pg_plan.specs.declared.states.State.{State}
use Rattle.pg_states.proofs.beginning.start.Goals as goal

pub returns : goal.returns
returns c = subst (λ (state : State). IfOk c.of.result (λ it. it ≡ state)) c.first_state.ensures c.of.ensures
