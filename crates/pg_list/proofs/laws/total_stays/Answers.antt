use Rattle.pg_list.proofs.SumsLaws.{total_plain, sizeless}
use Rattle.pg_list.proofs.laws.total_stays.Goals as goal

pub returns-clause-total : goal.returns-clause-total
returns-clause-total c = λ t m xs x none. (total_plain t m xs x (sizeless x none).0 none (sizeless x none).1).0

pub returns-clause-depth : goal.returns-clause-depth
returns-clause-depth c = λ m xs x none. (total_plain m m xs x (sizeless x none).0 none (sizeless x none).1).1
