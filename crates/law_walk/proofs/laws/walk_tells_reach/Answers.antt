use Rattle.law_walk.proofs.Contracts.{labels_reach, stretch_reach, tells_reach}
use Rattle.law_walk.proofs.laws.walk_tells_reach.Goals as goal

pub returns-clause-walk : goal.returns-clause-walk
returns-clause-walk c = tells_reach _ c.requires.blocks c.requires.ranges

pub returns-clause-labels : goal.returns-clause-labels
returns-clause-labels c = labels_reach _ c.requires.blocks c.requires.ranges

pub returns-clause-stretch : goal.returns-clause-stretch
returns-clause-stretch c = stretch_reach _ c.requires.blocks c.requires.ranges
