use Rattle.pg_furthest.proofs.Columns.{best_legal}
use Rattle.pg_furthest.proofs.legal.has_best.Goals as goal

pub returns-in-Some : goal.returns-in-Some
returns-in-Some c = best_legal c.args.galley.now c.args.style.now c.args.table.now c.in-Some.at c.requires.filled
    c.in-Some.ensures
