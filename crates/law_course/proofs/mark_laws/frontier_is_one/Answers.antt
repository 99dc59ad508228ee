use Rattle.law_course.proofs.OneFrontier.{frontier_one}
use Rattle.law_course.proofs.mark_laws.frontier_is_one.Goals as goal

pub returns : goal.returns
returns c = frontier_one
