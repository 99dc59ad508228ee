use Rattle.std.proofs.Common.{subst}
use Rattle.std.specs.List.{AllByRecursion}
use Rattle.pg_list.specs.declared.blocks.Block.{Block}
use Rattle.std.proofs.Common.{List}
use Rattle.pg_scaled.specs.Ranges.{IsScaled}
use Rattle.pg_list.specs.Shapes.{IsBlock}
use Rattle.pg_showbox.proofs.GalleyReads.{galley_reads}
use Rattle.pg_showbox.proofs.laws.printed_reads_back.Goals as goal

pub returns : goal.returns
returns c =
    galley_reads c.args.galley.now (subst IsScaled c.width.ensures.width c.width.ensures.in_range)
    c.blocks-2.ensures.limit
    (subst (λ (blocks : List Block). AllByRecursion IsBlock blocks) c.blocks-2.ensures.blocks
    c.as_slice.ensures.shape) c.requires
