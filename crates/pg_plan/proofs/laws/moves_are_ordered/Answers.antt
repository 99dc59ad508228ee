use Rattle.pg_plan.proofs.OrderLaws.{columns_total}
use Rattle.pg_plan.proofs.laws.moves_are_ordered.Goals as goal

pub returns : goal.returns
returns c = columns_total
