use Rattle.law_edits.proofs.Agree.{beginnings_agree}
use Rattle.law_edits.proofs.laws.beginnings_agree.Goals as goal

pub returns : goal.returns
returns c = beginnings_agree _ _ _ c.requires.galley c.requires.other
