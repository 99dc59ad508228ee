use Rattle.std.proofs.Common.{refl}
use Rattle.pg_table.proofs.pending.close.Goals as goal

pub returns : goal.returns
returns g c = (c.new.result, (c.new.ensures, refl))
