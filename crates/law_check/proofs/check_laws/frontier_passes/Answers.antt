use Rattle.law_check.proofs.Passing.{best_shown_passes, none_shown_passes}
use Rattle.law_check.proofs.check_laws.frontier_passes.Goals as goal

pub returns-clause-best : goal.returns-clause-best
returns-clause-best c = best_shown_passes _ _ c.requires

pub returns-clause-none : goal.returns-clause-none
returns-clause-none c = none_shown_passes _ _ c.requires
