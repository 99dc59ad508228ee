use Rattle.pg_table.proofs.BelowLemmas.{right_below_less}
use Rattle.pg_table.proofs.laws.right_below_goes_down.Goals as goal

pub returns : goal.returns
returns g c = right_below_less _ _ (g.met.S.Space.lawful c.args.space.now) _
