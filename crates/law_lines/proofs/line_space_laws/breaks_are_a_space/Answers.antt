use Rattle.law_lines.proofs.BestCount.{best_lawful}
use Rattle.law_lines.proofs.line_space_laws.breaks_are_a_space.Goals as goal

pub returns : goal.returns
returns c = λ para. best_lawful c.args.rule.now para
