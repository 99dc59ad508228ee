use Rattle.pg_table.proofs.Statements.{none_done}
use Rattle.pg_table.proofs.laws.none_done_no_run_done.Goals as goal

pub returns : goal.returns
returns g c = none_done _ _ (g.met.S.Space.lawful c.args.space.now) _ c.requires.table c.requires.none
