-- Items that show what they are: the body reads as the item.
use Rattle.std.specs.Prelude.{◌≡◌, ◌⊎◌, ℕ, List, [], ◌∷◌, ◌++◌, Ok}
use Rattle.std.specs.List.{AllByRecursion}
use Rattle.pg_list.specs.Barrier.{barrier_body}
use Rattle.pg_list.specs.declared.item.Item.{Item}
use Rattle.pg_list.specs.declared.item.Item.TheVariants.{Carry}
use Rattle.pg_list.specs.declared.variants.Variant.{Variant}
use Rattle.pg_list.specs.declared.blocks.Block.{Block}
use Rattle.pg_list.specs.declared.blocks.Block.TheVariants as block
use Rattle.pg_showbox.specs.declared.node.Node.{Node}
use Rattle.pg_showbox.specs.declared.parsed.ParsedLine.TheVariants as said
use Rattle.pg_scan.specs.Lines.{IsClean}
use Rattle.pg_showbox.specs.Nodes.{node_item}
use Rattle.pg_showbox.specs.ParsedLine.{pointed_at}

-- a deeper line behind its first point
pub record IsDeeper (line : List ℕ) : Type 0 where
  pub clean : IsClean (46 ∷ line)
  pub says : pointed_at line ≡ Ok said.Deeper

abbrev pub deeper_text : List (List ℕ) → List ℕ
deeper_text [] = []
deeper_text (line ∷ lines) = 10 ∷ (line ++ deeper_text lines)

-- the body's first line says the item's numbers, and all others are deeper lines
pub record IsShown (item : Item) : Type 0 where
  pub node : Node
  pub first : List ℕ
  pub deeper : List (List ℕ)
  pub clean : IsClean (46 ∷ first)
  pub says : pointed_at first ≡ Ok (said.Item node)
  pub each : AllByRecursion IsDeeper deeper
  pub is : item ≡ node_item node (first ++ deeper_text deeper)

-- the body's first line says a barrier, and all others are deeper lines
pub record IsShownBarrier (item : Item) : Type 0 where
  pub deeper : List (List ℕ)
  pub each : AllByRecursion IsDeeper deeper
  pub is : item ≡ Carry (barrier_body ++ deeper_text deeper)

abbrev pub IsShownBlock : Block → Type 0
IsShownBlock (block.One item) = IsShown item ⊎ IsShownBarrier item
IsShownBlock (block.Choice variants) = AllByRecursion (λ (variant : Variant). AllByRecursion IsShown variant.items)
    variants
