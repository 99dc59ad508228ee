use Rattle.pg_table.proofs.Statements.{begins}
use Rattle.pg_table.proofs.laws.table_begins_with_start.Goals as goal

pub returns : goal.returns
returns g c = begins _ _ (g.met.S.Space.lawful c.args.space.now) _ c.requires
