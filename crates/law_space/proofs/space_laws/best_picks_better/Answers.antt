use Rattle.law_space.proofs.SpaceContracts.{best_exist, best_betters}
use Rattle.law_space.proofs.Least.{best_narrower, best_unique}
use Rattle.law_space.proofs.space_laws.best_picks_better.Goals as goal

pub returns-clause-exist : goal.returns-clause-exist
returns-clause-exist c = best_exist _

pub returns-clause-narrower : goal.returns-clause-narrower
returns-clause-narrower c = best_narrower _

pub returns-clause-better : goal.returns-clause-better
returns-clause-better c = best_betters _ _ c.requires

pub returns-clause-unique : goal.returns-clause-unique
returns-clause-unique c = best_unique _
