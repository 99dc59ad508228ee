use Rattle.std.proofs.Common.{[]}
use Rattle.law_lines.proofs.Broken.{broken_is}
use Rattle.law_lines.proofs.paragraphs_laws.listing_is_broken.Goals as goal

pub returns : goal.returns
returns c = λ paras. broken_is c.args.rule.now 1 [] paras
