use Rattle.law_check.proofs.BestPicks.{best_fault, best_pass}
use Rattle.law_check.proofs.check_laws.best_picks_decide.Goals as goal

pub returns-clause-pass : goal.returns-clause-pass
returns-clause-pass c = best_pass _ _ c.requires

pub returns-clause-fault : goal.returns-clause-fault
returns-clause-fault c = best_fault _ _ c.requires
