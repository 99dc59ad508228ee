use Rattle.pg_parts.proofs.AddUp.{add_up}
use Rattle.pg_parts.proofs.laws.parts_add_up.Goals as goal

pub returns : goal.returns
returns c = add_up
