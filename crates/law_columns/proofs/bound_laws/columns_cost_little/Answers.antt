use Rattle.law_columns.proofs.BoundContracts.{columns_cost}
use Rattle.law_columns.proofs.bound_laws.columns_cost_little.Goals as goal

pub returns : goal.returns
returns c = columns_cost _ _ c.requires
