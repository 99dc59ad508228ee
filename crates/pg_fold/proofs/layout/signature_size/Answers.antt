use Rattle.pg_fold.proofs.LayoutSizes.{size_is, size_small}
use Rattle.pg_fold.proofs.layout.signature_size.Goals as goal

pub returns-clause-small : goal.returns-clause-small
returns-clause-small c =
    size_small c.args.folds c.args.nest c.times.result
    (size_is c.args.folds c.args.nest c.from-2.result c.from.result c.pow.result c.times.result c.from-2.ensures
    c.from.ensures c.pow.ensures c.times.ensures)
    c.requires.folds c.requires.nest
