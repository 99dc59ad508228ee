use Rattle.law_course.proofs.ShortFits.{fits_short}
use Rattle.law_course.proofs.size_laws.first_fits_are_short.Goals as goal

pub returns : goal.returns
returns c = fits_short c.args.galley.now c.args.style.now c.requires c.first_fit_is_one.ensures
