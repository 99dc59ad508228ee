use Rattle.law_page_text.proofs.Filling.{goals_filled}
use Rattle.law_page_text.proofs.page_laws.glue_fills_goals.Goals as goal

pub returns : goal.returns
returns c = goals_filled _ _ c.requires
