use Rattle.law_check.proofs.Cover.{closed_bound, closed_none}
use Rattle.law_check.proofs.label_laws.closed_labels_bound.Goals as goal

pub returns-clause-cost : goal.returns-clause-cost
returns-clause-cost c = closed_bound _ _ c.requires

pub returns-clause-none : goal.returns-clause-none
returns-clause-none c = closed_none _ _ c.requires
