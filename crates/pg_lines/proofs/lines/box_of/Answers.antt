use Rattle.pg_lines.proofs.LineRanges.{box_in_range}
use Rattle.pg_lines.proofs.lines.box_of.Goals as goal

pub returns-clause-range : goal.returns-clause-range
returns-clause-range c =
    box_in_range c.args.rule.now c.args.line.now c.line_box.result c.requires.para.ranges c.line_box.ensures
