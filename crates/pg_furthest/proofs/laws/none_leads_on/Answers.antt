use Rattle.pg_furthest.proofs.Furthest.{leads_on}
use Rattle.pg_furthest.proofs.laws.none_leads_on.Goals as goal

pub returns : goal.returns
returns c = leads_on c.args.galley.now c.args.style.now c.requires
