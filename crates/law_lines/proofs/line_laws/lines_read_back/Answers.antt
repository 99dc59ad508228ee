use Rattle.law_lines.proofs.GalleysShown.{read_back}
use Rattle.law_lines.proofs.line_laws.lines_read_back.Goals as goal

pub returns : goal.returns
returns c = read_back c.args.rule.now c.requires
