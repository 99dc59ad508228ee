use Rattle.pg_words.proofs.Sizes.{size_step}
use Rattle.pg_words.proofs.numbers.capped_size.Goals as goal

pub loop-d-preserved : goal.loop-d-preserved
loop-d-preserved c =
    let each = c.requires c.loop-d.d-index c.loop-d-test.true in
    size_step c.args.digits.now c.loop-d.d-index c.loop-d.value c.saturating_mul.result c.from.result
    c.saturating_add-value.result c.loop-d-test.true each.0 each.1 c.loop-d.invariant c.saturating_mul.ensures
    c.from.ensures c.saturating_add-value.ensures
