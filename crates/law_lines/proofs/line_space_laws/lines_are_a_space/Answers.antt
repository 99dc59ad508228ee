use Rattle.law_lines.proofs.SpaceLaws.{lines_lawful}
use Rattle.law_lines.proofs.line_space_laws.lines_are_a_space.Goals as goal

pub returns : goal.returns
returns c = λ para low most. lines_lawful c.args.rule.now para low most
