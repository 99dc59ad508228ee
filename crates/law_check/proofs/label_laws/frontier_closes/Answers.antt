use Rattle.law_check.proofs.Complete.{frontier_closes, frontier_bounds, frontier_none}
use Rattle.law_check.proofs.label_laws.frontier_closes.Goals as goal

pub returns-clause-closed : goal.returns-clause-closed
returns-clause-closed c = frontier_closes _ _ c.requires

pub returns-clause-best : goal.returns-clause-best
returns-clause-best c = frontier_bounds _ _ c.requires

pub returns-clause-none : goal.returns-clause-none
returns-clause-none c = frontier_none _ _ c.requires
