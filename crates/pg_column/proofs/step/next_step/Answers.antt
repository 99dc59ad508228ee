use Rattle.std.proofs.Common.{sym, subst, ◌<◌, ◌≤◌, ◌^◌, List}
use Rattle.pg_list.specs.declared.blocks.Block.{Block}
use Rattle.pg_list.specs.declared.galley.Place.{Place}
use Rattle.pg_list.specs.Counts.{item_count}
use Rattle.pg_column.specs.Ahead.{item_place}
use Rattle.pg_column.proofs.Spans.{index_small}
use Rattle.pg_column.proofs.step.next_step.Goals as goal

pub next_index_of-requires : goal.next_index_of-requires
next_index_of-requires c =
    let bs = c.blocks_of-blocks.result.now in
    subst (λ (q : Place). q.index < 2 ^ 20) (sym c.item_place-here.ensures)
    (index_small bs (item_place bs c.args.at c.args.left.now) c.in_ok-item.item.now
    (subst (λ (b : List Block). item_count b ≤ 2 ^ 20) (sym c.blocks_of-blocks.ensures.blocks)
    c.blocks_of-blocks.ensures.count) (sym c.in_ok-item.ensures))
