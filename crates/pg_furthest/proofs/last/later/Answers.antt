use Rattle.pg_furthest.proofs.Lasts.{next_last, stays_last}
use Rattle.pg_furthest.proofs.last.later.Goals as goal

pub returns-then-is_before-clause-last : goal.returns-then-is_before-clause-last
returns-then-is_before-clause-last c = next_last c.args.labels.now c.args.next c.args.best c.is_before.result c.requires.best
    c.requires.last c.is_before.ensures c.if-is_before.true

pub returns-else-is_before-clause-last : goal.returns-else-is_before-clause-last
returns-else-is_before-clause-last c = stays_last c.args.labels.now c.args.next c.args.best c.is_before.result
    c.requires.last c.is_before.ensures c.if-is_before.false
