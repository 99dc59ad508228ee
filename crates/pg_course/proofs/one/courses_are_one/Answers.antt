use Rattle.pg_course.proofs.OneCourse.{course_one}
use Rattle.pg_course.proofs.one.courses_are_one.Goals as goal

pub returns : goal.returns
returns c = course_one
