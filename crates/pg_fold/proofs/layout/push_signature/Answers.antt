use Rattle.std.proofs.Common.{◌∙◌, ap, ap₂, ◌++◌, ◌∷◌, []}
use Rattle.pg_fold.specs.Imposed.{sheet_of}
use Rattle.pg_fold.proofs.LayoutSizes.{sheet}
use Rattle.pg_fold.proofs.Runs.{mapped_next}
use Rattle.pg_fold.proofs.layout.push_signature.Goals as goal

pub loop-sheet-preserved : goal.loop-sheet-preserved
loop-sheet-preserved c =
    mapped_next (sheet_of c.args.layout.now c.args.start)
    c.loop-sheet.sheet c.args.sheets.now c.loop-sheet.sheets c.push.new.self c.loop-sheet.invariant
    (c.in_ok-push.ensures.ok
    ∙ ap (λ it. c.loop-sheet.sheets ++ it ∷ []) (ap₂ sheet c.in_ok-cells.ensures c.in_ok-cells-2.ensures))
