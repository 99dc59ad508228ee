use Rattle.law_columns.proofs.BoundContracts.{start_is_state, states_lead}
use Rattle.law_columns.proofs.bound_laws.states_lead_to_states.Goals as goal

pub returns-clause-start : goal.returns-clause-start
returns-clause-start c = start_is_state _ _ c.requires

pub returns-clause-next : goal.returns-clause-next
returns-clause-next c = states_lead _ _ c.requires
