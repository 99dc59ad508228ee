use Rattle.law_course.proofs.FlatMarks.{marks_flat}
use Rattle.law_course.proofs.mark_laws.marks_are_those_of_the_flat_list.Goals as goal

pub returns : goal.returns
returns c = marks_flat c.args.galley.now c.args.style.now c.requires
