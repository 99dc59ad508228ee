use Rattle.std.proofs.Common.{◌∙◌, ap, ◌++◌, ◌∷◌, []}
use Rattle.pg_fold.specs.Imposed.{cell_page}
use Rattle.pg_fold.proofs.Runs.{mapped_next}
use Rattle.pg_fold.proofs.layout.cells.Goals as goal

pub loop-cell-preserved : goal.loop-cell-preserved
loop-cell-preserved c =
    mapped_next (cell_page c.args.layout.now c.args.start c.args.sheet c.args.side)
    c.loop-cell.cell [] c.loop-cell.cells c.push.new.self c.loop-cell.invariant
    (c.in_ok-push.ensures.ok ∙ ap (λ page. c.loop-cell.cells ++ page ∷ []) c.cell_page.ensures)
