use Rattle.std.proofs.Common.{[], refl}
use Rattle.pg_tell.proofs.course.tell_faults.Goals as goal

pub returns-in-Ok : goal.returns-in-Ok
returns-in-Ok g c = c.write_text.ensures [] (c.deref.result.now, refl)
