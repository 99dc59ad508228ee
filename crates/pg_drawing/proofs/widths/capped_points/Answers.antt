use Rattle.std.proofs.Common.{◌∙◌, ap, ◌+◌, ◌*◌, ◌^◌, min, ℕ}
use Rattle.pg_drawing.proofs.WidthLemmas.{points_step}
use Rattle.pg_drawing.proofs.widths.capped_points.Goals as goal

pub loop-d-preserved : goal.loop-d-preserved
loop-d-preserved c =
    let each = c.requires c.loop-d.d-index c.loop-d-test.true in
    c.min-points.ensures
    ∙ ap (λ (digit : ℕ). min (10 * c.loop-d.points + digit) (2 ^ 104)) c.from.ensures
    ∙ points_step c.args.digits.now c.loop-d.d-index c.loop-d.points c.loop-d-test.true each.0 each.1
    c.loop-d.invariant
