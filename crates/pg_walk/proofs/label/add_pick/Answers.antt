use Rattle.std.proofs.Common.{ap, arith, length}
use Rattle.pg_hops.proofs.Left.{picked_left}
use Rattle.pg_walk.proofs.label.add_pick.Goals as goal

pub picked-ahead-requires : goal.picked-ahead-requires
picked-ahead-requires c = omega (arith, c.requires.few, c.requires.own.block)

pub walk_on-requires-clause-few : goal.walk_on-requires-clause-few
walk_on-requires-clause-few c =
    let left = picked_left c.args.context.now.galley.now.blocks c.args.label.now.state.block c.args.pick in
    let same = ap length c.picked-ahead.ensures.items in
    (omega (arith, left, same, c.requires.own.sums), omega (arith, left, same, c.requires.own.notes))
