use Rattle.pg_fold.proofs.ReadSheets.{folded_read}
use Rattle.pg_fold.proofs.laws.folded_sheets_read.Goals as goal

pub returns : goal.returns
returns c = folded_read
