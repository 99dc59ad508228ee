-- The law in the form of its contract.
use Rattle.std.proofs.Common.{List}
use Rattle.std.specs.List.{AllByRecursion}
use Rattle.pg_list.specs.Shapes.{IsBlock}
use Rattle.pg_list.specs.declared.blocks.Block.{Block}
use Rattle.law_places.specs.CutLaws.{LeadsCut}
use Rattle.law_places.proofs.Splits.{splits}

pub leads_cut : (blocks : List Block) → AllByRecursion IsBlock blocks → LeadsCut blocks
leads_cut blocks each from to picks later n l =
    splits blocks from to picks later n each l.place l.named l.steps l.fronts_are
