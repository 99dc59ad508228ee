use Rattle.law_moves.proofs.Contracts.{listed_moves, reach_is_ceiling}
use Rattle.law_moves.proofs.laws.listed_steps_are_moves.Goals as goal

pub returns-clause-moves : goal.returns-clause-moves
returns-clause-moves c = listed_moves _ _ c.requires

pub returns-clause-ceiling : goal.returns-clause-ceiling
returns-clause-ceiling c = reach_is_ceiling _ _ c.requires
