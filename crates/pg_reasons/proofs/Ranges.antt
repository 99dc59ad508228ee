-- An item that was read at a place is in range.
use Rattle.std.proofs.Common.{◌≡◌, sym, List, Option, Some, None}
use Rattle.std.specs.Borrow.{Bor}
use Rattle.std.specs.List.{AllByRecursion}
use Rattle.std.specs.Prelude.{option_copied, IfSome}
use Rattle.pg_column.proofs.Spans.{item_range}
use Rattle.pg_list.specs.Places.{item_at}
use Rattle.pg_list.specs.Ranges.{IsItemInRange}
use Rattle.pg_list.specs.Shapes.{IsBlock}
use Rattle.pg_list.specs.declared.blocks.Block.{Block}
use Rattle.pg_list.specs.declared.galley.Place.{Place}
use Rattle.pg_list.specs.declared.item.Item.{Item}

pub read_ranges : (blocks : List Block) → AllByRecursion IsBlock blocks → (at : Place) (found : Option (Bor Item)) →
    option_copied found ≡ item_at blocks at → IfSome found (λ item. IsItemInRange item.now)
read_ranges blocks shape at None is = tt
read_ranges blocks shape at (Some item) is = item_range blocks shape at item.now (sym is)
