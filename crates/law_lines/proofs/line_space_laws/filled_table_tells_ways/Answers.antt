use Rattle.law_lines.proofs.Tells.{tells_ways}
use Rattle.law_lines.proofs.line_space_laws.filled_table_tells_ways.Goals as goal

pub returns : goal.returns
returns c = λ para low most. tells_ways c.args.rule.now para low most
