use Rattle.pg_table.proofs.Statements.{empty_right}
use Rattle.pg_table.proofs.laws.empty_table_is_right_below_0.Goals as goal

pub returns : goal.returns
returns g c = empty_right _ _ c.requires
