use Rattle.std.proofs.Common.{subst, List}
use Rattle.std.specs.List.{AllByRecursion}
use Rattle.pg_list.specs.Shapes.{IsBlock}
use Rattle.pg_list.specs.declared.blocks.Block.{Block}
use Rattle.pg_reasons.proofs.Ranges.{read_ranges}
use Rattle.pg_reasons.proofs.ends.item_in.Goals as goal

pub returns-clause-range : goal.returns-clause-range
returns-clause-range c = read_ranges c.args.galley.now.blocks
    (subst (λ (blocks : List Block). AllByRecursion IsBlock blocks) c.blocks-2.ensures.blocks c.as_slice.ensures.shape)
    c.args.at c.item_at.result c.item_at.ensures
