use Rattle.law_columns.proofs.StateOrder.{states_total, state_equal}
use Rattle.law_columns.proofs.BeginningContracts.{plans_total, tells_apart}
use Rattle.law_columns.proofs.beginning_laws.order_is_total.Goals as goal

pub returns-clause-total : goal.returns-clause-total
returns-clause-total c = plans_total

pub returns-clause-equal : goal.returns-clause-equal
returns-clause-equal c = tells_apart c.args.style.now

pub returns-clause-states : goal.returns-clause-states
returns-clause-states c = states_total

pub returns-clause-equal_states : goal.returns-clause-equal_states
returns-clause-equal_states c = state_equal
