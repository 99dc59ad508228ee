use Rattle.law_space.proofs.Bounds.{rank_low}
use Rattle.law_space.proofs.space_laws.ranks_fit.Goals as goal

pub returns : goal.returns
returns c = rank_low _ _ c.requires
