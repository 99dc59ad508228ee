use Rattle.std.proofs.Common.{arith}
use Rattle.pg_session.proofs.Spliced.{count_is, gone_is}
use Rattle.pg_session.proofs.asked.count_after.Goals as goal

pub overflow_sub-count_items : goal.overflow_sub-count_items
overflow_sub-count_items c =
    let parts = gone_is c.blocks_of.result.now c.args.galley.now.blocks c.args.edit.now.at c.args.edit.now.gone
    c.count_on-gone.result c.blocks_of.ensures.blocks c.count_on-gone.ensures c.blocks_of.ensures.limit in
    omega (arith, parts, c.count_items.ensures.count)

pub returns : goal.returns
returns c = count_is c.args.galley.now.blocks c.as_slice.result.now c.args.edit.now c.count_on-gone.result
    c.count_items.result c.count_on.result c.as_slice.ensures.blocks
    (gone_is c.blocks_of.result.now c.args.galley.now.blocks c.args.edit.now.at c.args.edit.now.gone
    c.count_on-gone.result c.blocks_of.ensures.blocks c.count_on-gone.ensures c.blocks_of.ensures.limit)
    c.count_items.ensures.count c.count_on.ensures
