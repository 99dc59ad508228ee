use Rattle.std.proofs.Common.{◌∙◌}
use Rattle.pg_scan.proofs.WholeLemmas.{value_step}
use Rattle.pg_scan.proofs.numbers.capped_value.Goals as goal

pub loop-d-preserved : goal.loop-d-preserved
loop-d-preserved c =
    let each = c.requires c.loop-d.d-index c.loop-d-test.true in
    c.min-value.ensures ∙ value_step c.args.digits.now c.loop-d.d-index c.loop-d.value c.loop-d-test.true each.0
    each.1 c.loop-d.invariant
