use Rattle.pg_course.proofs.Fits.{other_fit}
use Rattle.pg_course.proofs.compare.no_fit.Goals as goal

pub returns-in_default : goal.returns-in_default
returns-in_default c = other_fit c.args.fault c.in_default.not-Memory
