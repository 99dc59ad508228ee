use Rattle.law_walk.proofs.Contracts.{is_space, stretch, suffice}
use Rattle.law_walk.proofs.laws.walk_is_a_space.Goals as goal

pub returns-clause-space : goal.returns-clause-space
returns-clause-space c = is_space _ c.requires.blocks c.requires.few

pub returns-clause-labels : goal.returns-clause-labels
returns-clause-labels c = suffice _ c.requires.blocks

pub returns-clause-stretch : goal.returns-clause-stretch
returns-clause-stretch c = stretch _ c.requires.blocks
