use Rattle.std.proofs.Common.{[], refl}
use Rattle.pg_tell.proofs.course.tell_words.Goals as goal

pub returns : goal.returns
returns g c = c.write_text.ensures [] (c.as_bytes.result.now, refl)
