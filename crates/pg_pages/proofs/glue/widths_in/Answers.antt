use Rattle.std.proofs.Common.{ap, ◌∙◌, arith, length}
use Rattle.pg_pages.proofs.Printed.{behind_long}
use Rattle.pg_pages.proofs.Widths.{between_few, between_from}
use Rattle.pg_column.specs.Between.{behind}
use Rattle.pg_pages.proofs.glue.widths_in.Goals as goal

pub set_widths-requires-clause-few : goal.set_widths-requires-clause-few
set_widths-requires-clause-few c =
    let glues = c.args.glues.now in
    let whole = c.as_slice.ensures.value ∙ between_from c.args.sense glues.above.now (behind glues.items.now)
    glues.below.now _ _ _ _ c.in_ok-list.ensures.items c.in_ok-push_gaps.ensures c.in_ok-push_items.ensures
    c.in_ok-push_gaps-2.ensures in
    let same = ap length whole in
    let few = between_few c.args.sense glues.above.now (behind glues.items.now) glues.below.now in
    let long = behind_long glues.items.now in
    omega (arith, same, few, long, c.requires.few)
