use Rattle.std.proofs.Common.{[]}
use Rattle.law_lines.proofs.Shapes.{blocks_made}
use Rattle.law_lines.proofs.paragraphs_laws.paragraphs_make_blocks.Goals as goal

pub returns : goal.returns
returns c = λ paras h galley b. blocks_made c.args.rule.now 1 [] paras galley h tt b
