use Rattle.law_places.proofs.CutContracts.{leads_cut}
use Rattle.law_places.proofs.cut_laws.picks_cut_the_flat_list.Goals as goal

pub returns : goal.returns
returns c = leads_cut _ c.requires
