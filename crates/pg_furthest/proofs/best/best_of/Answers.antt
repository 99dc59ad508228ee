use Rattle.pg_furthest.proofs.Columns.{told}
use Rattle.pg_furthest.proofs.best.best_of.Goals as goal

pub returns : goal.returns
returns c = told c.args.space.now.sources.galley.now c.args.space.now.sources.style.now c.args.table.now c.best.result
    (c.table_tells_all.ensures c.args.table.now c.requires) c.best.ensures.some c.best.ensures.none
