use Rattle.std.proofs.Common.{◌∙◌, ap, List}
use Rattle.pg_list.specs.declared.blocks.Block.{Block}
use Rattle.pg_hops.specs.declared.cursor.Cursor.{Cursor}
use Rattle.pg_hops.specs.Ahead.{items_ahead, settled}
use Rattle.pg_hops.proofs.Cursors.{begun_items}
use Rattle.pg_hops.proofs.cursor.Cursor.first.Goals as goal

pub returns-clause-items : goal.returns-clause-items
returns-clause-items c =
    let bs = c.args.galley.now.blocks in
    ap (items_ahead bs) c.settled.ensures
    ∙ ap (λ (xs : List Block). items_ahead bs (settled xs c.begun.result))
    (c.as_slice.ensures.blocks ∙ c.blocks-2.ensures.blocks)
    ∙ ap (λ (q : Cursor). items_ahead bs (settled bs q)) c.begun.ensures
    ∙ begun_items bs c.args.from
