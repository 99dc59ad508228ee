use Rattle.law_places.proofs.PlaceContracts.{leads_go_on}
use Rattle.law_places.proofs.place_laws.picks_lead_on.Goals as goal

pub returns : goal.returns
returns c = leads_go_on _ c.requires
