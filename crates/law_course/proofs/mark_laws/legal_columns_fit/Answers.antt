use Rattle.law_course.proofs.FittingColumns.{columns_of_legal}
use Rattle.law_course.proofs.mark_laws.legal_columns_fit.Goals as goal

pub returns : goal.returns
returns c = columns_of_legal c.args.galley.now c.args.style.now c.requires
