use Rattle.law_page_text.proofs.Shown.{shown_once}
use Rattle.law_page_text.proofs.page_laws.pages_have_each_once.Goals as goal

pub returns : goal.returns
returns c = shown_once _ _ c.requires
