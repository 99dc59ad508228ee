use Rattle.pg_list.proofs.SumsLaws.{depth_push}
use Rattle.pg_list.proofs.laws.depth_is_of_last.Goals as goal

pub returns : goal.returns
returns c = λ m xs x. depth_push m xs x
