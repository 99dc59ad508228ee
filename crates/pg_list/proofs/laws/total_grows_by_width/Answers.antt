use Rattle.pg_list.proofs.SumsLaws.{total_width}
use Rattle.pg_list.proofs.laws.total_grows_by_width.Goals as goal

pub returns : goal.returns
returns c = λ t m xs x plain. total_width t m xs x plain
