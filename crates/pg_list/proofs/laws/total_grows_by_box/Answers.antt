use Rattle.pg_list.proofs.SumsLaws.{total_box, box_full}
use Rattle.pg_list.proofs.laws.total_grows_by_box.Goals as goal

pub returns : goal.returns
returns c = λ t m xs x box. total_box t m xs x box (box_full x box)
