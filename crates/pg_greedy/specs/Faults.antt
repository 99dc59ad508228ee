-- Why a galley has no first fit.
use Rattle.std.specs.Prelude.{◌≡◌, ◌⊎◌, ℕ, ◌+◌, ◌==◌, Bool, false, if◌then◌else◌, is_some, List, [], ◌∷◌, Option, Some, None}
use Rattle.pg_list.specs.declared.item.Item.{Item}
use Rattle.pg_list.specs.declared.item.Item.TheVariants.{Insert}
use Rattle.pg_list.specs.declared.blocks.Block.{Block}
use Rattle.pg_list.specs.declared.blocks.Block.TheVariants as block
use Rattle.pg_style.specs.Values.{StyleValue}
use Rattle.pg_style.specs.Classes.{class_in, is_float_class}
use Rattle.std.specs.Option.{option_map_or}
use Rattle.pg_greedy.specs.declared.fault.GreedyFault.{GreedyFault}
use Rattle.pg_greedy.specs.declared.fault.GreedyFault.TheVariants.{Columns, Choice, Float, Memory}

-- the style has a float class of this number
abbrev pub is_float : StyleValue → ℕ → Bool
is_float style number = option_map_or is_float_class (class_in style.classes number) false

abbrev pub item_fault : StyleValue → ℕ → Item → Option GreedyFault
item_fault style n (Insert class size body) = if is_float style class then Some (Float n) else None
item_fault style n _ = None

-- the first block that is a choice or an insert of a float class
abbrev pub block_fault : StyleValue → ℕ → List Block → Option GreedyFault
block_fault style n [] = None
block_fault style n (block.Choice variants ∷ blocks) = Some (Choice n)
block_fault style n (block.One item ∷ blocks) =
    if is_some (item_fault style n item) then item_fault style n item else block_fault style (n + 1) blocks

abbrev pub greedy_fault : StyleValue → List Block → Option GreedyFault
greedy_fault style blocks = if style.columns == 2 then Some Columns else block_fault style 0 blocks

-- the fault of a refusal: the galley's, or want of memory where it has none
abbrev pub Causes : StyleValue → List Block → GreedyFault → Type 0
Causes style blocks fault =
    (greedy_fault style blocks ≡ Some fault) ⊎ ((fault ≡ Memory) × (greedy_fault style blocks ≡ None))
