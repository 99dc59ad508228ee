use Rattle.law_texts.proofs.EachOnce.{each_once}
use Rattle.law_texts.proofs.laws.legal_plans_have_each_once.Goals as goal

pub returns : goal.returns
returns c = each_once _ _ c.requires
