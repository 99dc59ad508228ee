use Rattle.pg_table.proofs.BelowLemmas.{right_below_all}
use Rattle.pg_table.proofs.laws.table_is_right_below.Goals as goal

pub returns : goal.returns
returns g c = λ t. right_below_all _ _ (g.met.S.Space.lawful c.args.space.now) _ t c.requires
