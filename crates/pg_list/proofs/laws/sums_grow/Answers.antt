use Rattle.pg_list.proofs.SumsLaws.{sum_push}
use Rattle.pg_list.proofs.laws.sums_grow.Goals as goal

pub returns : goal.returns
returns c = λ f xs x. sum_push f xs x
