use Rattle.law_lines.proofs.Ways.{runs_and_lines}
use Rattle.law_lines.proofs.line_space_laws.runs_are_lines.Goals as goal

pub returns : goal.returns
returns c = λ para low most. runs_and_lines c.args.rule.now para low most
