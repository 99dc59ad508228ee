use Rattle.law_space.proofs.SpaceContracts.{better_go_on}
use Rattle.law_space.proofs.space_laws.better_beginnings_go_on.Goals as goal

pub returns : goal.returns
returns c = better_go_on _ _ c.requires
