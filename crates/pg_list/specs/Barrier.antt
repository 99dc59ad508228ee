-- Barriers for floats, and where a text begins.
use Rattle.std.specs.Prelude.{ℕ, ◌+◌, ◌==◌, ◌&&◌, not, Bool, false, if◌then◌else◌, List, [], ◌∷◌, drop, length, codes}
use Rattle.std.specs.List.{list_any, position}
use Rattle.std.specs.Option.{option_map_or}
use Rattle.std.specs.Str.{bytes_eq}
use Rattle.pg_list.specs.declared.blocks.Block.{Block}
use Rattle.pg_list.specs.declared.blocks.Block.TheVariants.{One, Choice}
use Rattle.pg_list.specs.declared.galley.Place.{Place}
use Rattle.pg_list.specs.declared.item.Item.{Item}
use Rattle.pg_list.specs.declared.item.Item.TheVariants.{Carry}
use Rattle.pg_list.specs.Places.{has_box, items_around}
use Rattle.pg_list.specs.Shapes.{is_box}

-- what the item of a barrier shows
unfoldable pub barrier_body : List ℕ
barrier_body = codes "\\special{pg:flush}"

-- an item that carries just that
abbrev pub is_flush : Item → Bool
is_flush (Carry body) = bytes_eq body barrier_body
is_flush _ = false

-- a barrier stands between blocks, never in a choice
abbrev pub is_barrier : Block → Bool
is_barrier (One item) = is_flush item
is_barrier (Choice variants) = false

-- the blocks up to the last barrier among them; none where there is none
abbrev pub up_to_barrier : List Block → List Block
up_to_barrier [] = []
up_to_barrier (block ∷ blocks) = if list_any is_barrier (block ∷ blocks) then block ∷ up_to_barrier blocks else []

-- a box stands in the rest of the variant in which a place is
abbrev pub has_box_left : List Block → Place → Bool
has_box_left blocks at = not (at.index == 0) && list_any is_box (drop at.index (items_around blocks at))

-- the first block that begins at a place or behind it
abbrev pub next_block : Place → ℕ
next_block at = if at.index == 0 then at.block else at.block + 1

-- the block in which the first box from a place on stands; past the last block where there is none
abbrev pub text_block : List Block → Place → ℕ
text_block blocks from =
    if has_box_left blocks from then from.block
    else option_map_or (λ (n : ℕ). next_block from + n) (position has_box (drop (next_block from) blocks)) (length blocks)
