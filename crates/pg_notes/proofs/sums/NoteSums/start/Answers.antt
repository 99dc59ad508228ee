use Rattle.std.proofs.Common.{refl}
use Rattle.pg_notes.proofs.Kept.{are_none}
use Rattle.pg_notes.proofs.sums.NoteSums.start.Goals as goal

pub returns-clause-notes : goal.returns-clause-notes
returns-clause-notes c = λ style is. record { count_is = refl; sums_are = are_none style.classes 8 is.classes_in.few }
