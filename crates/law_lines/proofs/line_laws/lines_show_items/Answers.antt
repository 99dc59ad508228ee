use Rattle.law_lines.proofs.GalleysShown.{show_items}
use Rattle.law_lines.proofs.line_laws.lines_show_items.Goals as goal

pub returns : goal.returns
returns c = show_items c.args.rule.now c.requires
