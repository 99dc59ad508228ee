-- Galleys without choices, where each item is a block.
use Rattle.std.specs.Prelude.{List, [], ◌∷◌}
use Rattle.pg_list.specs.declared.blocks.Block.{Block}
use Rattle.pg_list.specs.declared.blocks.Block.TheVariants.{One, Choice}
use Rattle.pg_list.specs.declared.item.Item.{Item}

-- no block is a choice
abbrev pub AreSingle : List Block → Type 0
AreSingle [] = Unit {0}
AreSingle (One item ∷ blocks) = AreSingle blocks
AreSingle (Choice variants ∷ blocks) = ⊥

-- the items of the blocks that are no choices
abbrev pub singles : List Block → List Item
singles [] = []
singles (One item ∷ blocks) = item ∷ singles blocks
singles (Choice variants ∷ blocks) = singles blocks
