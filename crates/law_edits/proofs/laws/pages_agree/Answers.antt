use Rattle.law_edits.proofs.Agree.{pages_agree}
use Rattle.law_edits.proofs.laws.pages_agree.Goals as goal

pub returns : goal.returns
returns c = pages_agree
