use Rattle.pg_alone.proofs.Finding.{forbids}
use Rattle.pg_alone.proofs.High.{high_forbid}
use Rattle.pg_alone.proofs.Placeless.{placeless_forbid}
use Rattle.pg_alone.proofs.laws.alone_forbids.Goals as goal

pub returns-clause-high : goal.returns-clause-high
returns-clause-high c = high_forbid c.args.galley.now c.args.style.now c.requires

pub returns-clause-placeless : goal.returns-clause-placeless
returns-clause-placeless c = placeless_forbid c.args.galley.now c.args.style.now c.requires

pub returns-clause-found : goal.returns-clause-found
returns-clause-found c = forbids c.args.galley.now c.args.style.now c.requires
