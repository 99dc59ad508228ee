use Rattle.std.proofs.Common.{ap, arith, length}
use Rattle.pg_lines.proofs.Widths.{elastics_few}
use Rattle.pg_lines.proofs.glue.widths_in.Goals as goal

pub set_widths-requires-clause-few : goal.set_widths-requires-clause-few
set_widths-requires-clause-few c =
    let same = ap length c.as_slice.ensures.value in
    let list = ap length c.in_ok-list.ensures in
    let few = elastics_few c.args.sense c.args.items.now in
    omega (arith, same, list, few, c.requires.few)
