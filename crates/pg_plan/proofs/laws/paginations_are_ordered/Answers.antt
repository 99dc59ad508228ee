use Rattle.pg_plan.proofs.OrderLaws.{plans_total}
use Rattle.pg_plan.proofs.laws.paginations_are_ordered.Goals as goal

pub returns : goal.returns
returns c = plans_total
