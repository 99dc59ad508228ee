use Rattle.law_space.proofs.SpaceContracts.{tells_all}
use Rattle.law_space.proofs.space_laws.filled_table_tells_all.Goals as goal

pub returns : goal.returns
returns c = tells_all _ _ c.requires
