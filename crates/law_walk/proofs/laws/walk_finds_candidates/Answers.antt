use Rattle.law_walk.proofs.Contracts.{finds_candidates}
use Rattle.law_walk.proofs.laws.walk_finds_candidates.Goals as goal

pub returns : goal.returns
returns c = finds_candidates _ c.requires
