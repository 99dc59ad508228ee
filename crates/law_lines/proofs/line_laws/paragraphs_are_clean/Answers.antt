use Rattle.law_lines.proofs.CleanRead.{read_clean}
use Rattle.law_lines.proofs.line_laws.paragraphs_are_clean.Goals as goal

pub returns : goal.returns
returns c = read_clean
