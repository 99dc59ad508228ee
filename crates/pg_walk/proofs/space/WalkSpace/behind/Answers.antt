use Rattle.std.proofs.Common.{ap, arith, length}
use Rattle.pg_list.proofs.Sizes.{blocks_le}
use Rattle.pg_hops.proofs.Left.{picked_left}
use Rattle.pg_walk.proofs.space.WalkSpace.behind.Goals as goal

pub picked-ahead-requires : goal.picked-ahead-requires
picked-ahead-requires c =
    let range = c.args.self.now.in_range in
    let long = blocks_le c.args.self.now.galley.now.blocks range.blocks in
    let limit = range.limit in
    let at = c.requires.block in
    omega (arith, long, limit, at)

pub pass_on-passing-requires-clause-few : goal.pass_on-passing-requires-clause-few
pass_on-passing-requires-clause-few c =
    let left = picked_left c.args.self.now.galley.now.blocks c.args.state.now.block c.args.pick in
    let same = ap length c.picked-ahead.ensures.items in
    (omega (arith, left, same, c.requires.sums), omega (arith, left, same, c.requires.notes))
