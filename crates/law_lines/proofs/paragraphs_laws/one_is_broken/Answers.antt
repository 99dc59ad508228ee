use Rattle.std.proofs.Common.{[]}
use Rattle.law_lines.proofs.Broken.{one_broken}
use Rattle.law_lines.proofs.paragraphs_laws.one_is_broken.Goals as goal

pub returns : goal.returns
returns c = λ paras r s. one_broken c.args.rule.now 1 [] paras r s
