use Rattle.pg_plan.proofs.OrderLaws.{column_equal}
use Rattle.pg_plan.proofs.laws.equal_moves_are_same.Goals as goal

pub returns : goal.returns
returns c = column_equal
