use Rattle.law_course.proofs.OneBest.{best_one}
use Rattle.law_course.proofs.mark_laws.best_pagination_is_one.Goals as goal

pub returns : goal.returns
returns c = best_one c.args.galley.now c.args.style.now
