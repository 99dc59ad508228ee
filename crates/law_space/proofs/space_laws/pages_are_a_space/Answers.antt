use Rattle.law_space.proofs.Bounds.{pages_lawful}
use Rattle.law_space.proofs.SpaceContracts.{best_lawful}
use Rattle.law_space.proofs.space_laws.pages_are_a_space.Goals as goal

pub returns-clause-wide : goal.returns-clause-wide
returns-clause-wide c = pages_lawful _ _ c.requires

pub returns-clause-best : goal.returns-clause-best
returns-clause-best c = best_lawful _ _ c.requires
