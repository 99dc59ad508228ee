-- What the items near a place say of a break there, without a flat list.
use Rattle.std.specs.Prelude.{ℕ, zero, suc, ◌+◌, Bool, true, false, ◌&&◌, ◌||◌, not, nat_le, nat_lt, if◌then◌else◌, List, [], ◌∷◌, Option, Some, None, slice_get, drop, ℤ, pos, int_lt}
use Rattle.std.specs.List.{list_any}
use Rattle.std.specs.Option.{option_map_or}
use Rattle.pg_list.specs.declared.item.Item.{Item}
use Rattle.pg_list.specs.declared.item.Item.TheVariants.{Glue, Kern, Penalty}
use Rattle.pg_list.specs.declared.blocks.Block.{Block}
use Rattle.pg_list.specs.declared.blocks.Block.TheVariants.{One, Choice}
use Rattle.pg_list.specs.declared.galley.Place.{Place}
use Rattle.pg_list.specs.Places.{items_around, item_at, is_solid_block, solid, tail}
use Rattle.pg_list.specs.Shapes.{is_box, is_discardable}
use Rattle.pg_list.specs.Break.{is_glue, is_forcing, has_at}

-- a choice begins with a box or a rule
abbrev pub begins_with_glue : List Block → Bool
begins_with_glue [] = false
begins_with_glue (One item ∷ blocks) = is_glue item
begins_with_glue (Choice variants ∷ blocks) = false

-- the block before a front ends with an item that is not discardable; the word `first` stands for what comes
-- before all blocks
abbrev pub front_follows : Bool → List Block → ℕ → Bool
front_follows first blocks zero = first
front_follows first blocks (suc b) = option_map_or is_solid_block (slice_get blocks b) false

abbrev pub index_follows : Bool → List Block → List Item → ℕ → ℕ → Bool
index_follows first blocks items b zero = front_follows first blocks b
index_follows first blocks items b (suc i) = has_at (λ item. not (is_discardable item)) items i

-- the item before a place is there, and is not discardable
abbrev pub solid_before : List Block → Place → Bool
solid_before blocks at = index_follows false blocks (items_around blocks at) at.block at.index

abbrev pub glue_first : List Item → List Block → Bool
glue_first [] blocks = begins_with_glue blocks
glue_first (item ∷ items) blocks = is_glue item

-- the items of the variant behind a place, and the blocks behind that
abbrev pub items_after : List Block → Place → List Item
items_after blocks at = drop (at.index + 1) (items_around blocks at)

abbrev pub blocks_after : List Block → Place → List Block
blocks_after blocks at = drop (at.block + 1) blocks

abbrev pub glue_after : List Block → Place → Bool
glue_after blocks at = glue_first (items_after blocks at) (blocks_after blocks at)

-- a later block holds a box or a rule, or the rest of the variant does
abbrev pub text_after : List Block → Place → Bool
text_after blocks at = nat_lt (at.block + 1) (tail blocks) || list_any is_box (items_after blocks at)

abbrev pub near_penalty : Option Item → Bool → Bool → Option ℤ
near_penalty None solid glue = Some (pos 0)
near_penalty (Some (Glue width stretch order shrink body)) solid glue = if solid then Some (pos 0) else None
near_penalty (Some (Kern width body)) solid glue = if glue then Some (pos 0) else None
near_penalty (Some (Penalty value body)) solid glue = if int_lt value (pos 10000) then Some value else None
near_penalty (Some _) solid glue = None

abbrev pub place_penalty : List Block → Place → Option ℤ
place_penalty blocks at = near_penalty (item_at blocks at) (solid_before blocks at) (glue_after blocks at)

abbrev pub place_forced : List Block → Place → Bool
place_forced blocks at = option_map_or (λ item. is_forcing item && text_after blocks at) (item_at blocks at) true

-- no block from the place's on is solid
abbrev pub place_spent : List Block → Place → Bool
place_spent blocks at = nat_le (solid blocks) at.block
