use Rattle.pg_course.proofs.Checks.{other_fault}
use Rattle.pg_course.proofs.check.ending_of_no.Goals as goal

pub returns-in_default : goal.returns-in_default
returns-in_default c = other_fault c.args.fault c.in_default.not-Memory
