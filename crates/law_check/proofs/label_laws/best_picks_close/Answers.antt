use Rattle.law_check.proofs.Cover.{best_close, best_gap}
use Rattle.law_check.proofs.label_laws.best_picks_close.Goals as goal

pub returns-clause-closed : goal.returns-clause-closed
returns-clause-closed c = best_close _ _ c.requires

pub returns-clause-gap : goal.returns-clause-gap
returns-clause-gap c = best_gap _ _ c.requires
