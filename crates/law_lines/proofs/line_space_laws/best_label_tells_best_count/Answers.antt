use Rattle.law_lines.proofs.BestCount.{tells_best_count}
use Rattle.law_lines.proofs.line_space_laws.best_label_tells_best_count.Goals as goal

pub returns : goal.returns
returns c = λ para. tells_best_count c.args.rule.now para
