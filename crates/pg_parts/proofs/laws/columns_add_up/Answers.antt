use Rattle.pg_parts.proofs.Amounts.{columns_sum}
use Rattle.pg_parts.proofs.laws.columns_add_up.Goals as goal

pub returns : goal.returns
returns c = columns_sum
