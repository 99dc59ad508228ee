use Rattle.law_places.proofs.PlaceContracts.{behind_have_more, among_all}
use Rattle.law_places.proofs.place_laws.places_behind_have_more.Goals as goal

pub returns-clause-more : goal.returns-clause-more
returns-clause-more c = behind_have_more _ c.requires

pub returns-clause-among_all : goal.returns-clause-among_all
returns-clause-among_all c = among_all _ c.requires
