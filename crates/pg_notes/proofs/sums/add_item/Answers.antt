use Rattle.pg_notes.proofs.Kept.{not_insert, plain_sums}
use Rattle.pg_notes.proofs.sums.add_item.Goals as goal

pub returns-in_default-clause-sums : goal.returns-in_default-clause-sums
returns-in_default-clause-sums c = λ items order are.
    plain_sums items c.args.item.now c.args.classes.now c.args.sums.now
    (not_insert c.args.item.now c.in_default.not-Insert) are
