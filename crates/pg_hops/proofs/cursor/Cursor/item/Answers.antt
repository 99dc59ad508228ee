use Rattle.std.proofs.Common.{subst, arith}
use Rattle.std.specs.List.{AllByRecursion}
use Rattle.pg_list.specs.Shapes.{IsBlock}
use Rattle.pg_list.proofs.Sizes.{blocks_le}
use Rattle.pg_hops.proofs.Cursors.{few, item_in_range}
use Rattle.pg_hops.proofs.cursor.Cursor.item.Goals as goal

pub returns-clause-range : goal.returns-clause-range
returns-clause-range c =
    item_in_range c.args.galley.now.blocks
    (subst (AllByRecursion IsBlock) c.blocks-2.ensures.blocks c.as_slice.ensures.shape) c.args.self.now

pub returns-clause-few : goal.returns-clause-few
returns-clause-few c =
    let all = subst (AllByRecursion IsBlock) c.blocks-2.ensures.blocks c.as_slice.ensures.shape in
    let long = blocks_le c.args.galley.now.blocks all in
    let count = c.blocks-2.ensures.limit in
    few c.args.galley.now.blocks (omega (arith, long, count)) count c.args.self.now
