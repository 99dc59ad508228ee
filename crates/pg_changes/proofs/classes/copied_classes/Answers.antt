use Rattle.std.proofs.Common.{◌∙◌}
use Rattle.pg_changes.proofs.InOrder.{past}
use Rattle.pg_changes.proofs.classes.copied_classes.Goals as goal

pub returns-clause-value : goal.returns-clause-value
returns-clause-value c = c.kinded_classes.ensures.value ∙ past c.args.classes.now 8 _ c.as_slice.ensures.range.few
