use Rattle.pg_fold.proofs.OneReading.{sheets_one}
use Rattle.pg_fold.proofs.laws.read_sheets_are_one.Goals as goal

pub returns : goal.returns
returns c = sheets_one
