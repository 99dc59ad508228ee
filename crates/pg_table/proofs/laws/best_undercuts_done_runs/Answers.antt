use Rattle.pg_table.proofs.Statements.{best_undercuts}
use Rattle.pg_table.proofs.laws.best_undercuts_done_runs.Goals as goal

pub returns : goal.returns
returns g c = best_undercuts _ _ (g.met.S.Space.lawful c.args.space.now) _ c.requires
