-- What is ahead of a place, with the picks that are left: the next item, and what is ahead behind it.
use Rattle.std.specs.Prelude.{◌≡◌, ℕ, ◌+◌, ◌-◌, Bool, true, false, ◌==◌, ◌&&◌, not, nat_lt, if◌then◌else◌, List, [], ◌∷◌, length, drop, slice_get, Option, Some, None, is_some}
use Rattle.pg_list.specs.declared.blocks.Block.{Block}
use Rattle.pg_list.specs.declared.blocks.Block.TheVariants.{One, Choice}
use Rattle.pg_list.specs.declared.variants.Variant.{Variant}
use Rattle.pg_list.specs.declared.galley.Place.{Place}
use Rattle.pg_list.specs.declared.item.Item.{Item}
use Rattle.pg_list.specs.Places.{item_at, place}
use Rattle.pg_list.specs.Flat.{FlatItem, is_same_place}

-- the block is there and is a choice
abbrev pub is_choice : Option Block → Bool
is_choice None = false
is_choice (Some (One item)) = false
is_choice (Some (Choice variants)) = true

-- the front of a choice stands at a place
abbrev pub is_front : List Block → Place → Bool
is_front blocks at = (at.index == 0) && is_choice (slice_get blocks at.block)

-- the variant of the next choice; where no pick is left, its first
abbrev pub first_pick : List ℕ → ℕ
first_pick [] = 0
first_pick (pick ∷ picks) = pick

-- the place of the next item with its variant, which the front of a choice does not name
abbrev pub item_place : List Block → Place → List ℕ → Place
item_place blocks at picks = place at.block (if is_front blocks at then first_pick picks else at.variant) at.index

-- the picks left behind the next item
abbrev pub picks_behind : List Block → Place → List ℕ → List ℕ
picks_behind blocks at picks = if is_front blocks at then drop 1 picks else picks

-- one index on
abbrev pub next_index : Place → Place
next_index at = place at.block at.variant (at.index + 1)

-- the place itself where an item of its variant stands there, else the front of the next block
abbrev pub settled : List Block → Place → Place
settled blocks at =
    if at.index == 0 then place at.block 0 0
    else (if is_some (item_at blocks at) then at
    else place (if nat_lt at.block (length blocks) then at.block + 1 else at.block) 0 0)

-- the step over the next item: the item, the place behind it, and the picks left there
pub record IsStep (blocks : List Block) (at : Place) (left : List ℕ) (item : Item) (next : Place) (behind : List ℕ) :
    Type 0 where
  pub item_is : item_at blocks (item_place blocks at left) ≡ Some item
  pub next_is : next ≡ settled blocks (next_index (item_place blocks at left))
  pub left_is : behind ≡ picks_behind blocks at left

-- the items ahead lead to a place, or to the end, past a front for each pick that is left
abbrev pub leads_to : Bool → Place → List FlatItem → ℕ → Bool
leads_to is_end to [] left = is_end && (left == 0)
leads_to is_end to (x ∷ xs) left =
    if not is_end && is_same_place x.place to then left == 0
    else (if x.is_front then nat_lt 0 left && leads_to is_end to xs (left - 1) else leads_to is_end to xs left)

-- ---- picks and blocks

-- the picks left behind a block, where the first names a variant of it, if it is a choice
abbrev pub picks_past : Block → List ℕ → Option (List ℕ)
picks_past (One item) picks = Some picks
picks_past (Choice variants) [] = Some []
picks_past (Choice variants) (pick ∷ picks) = if nat_lt pick (length variants) then Some picks else None

-- the variant of a block that the first pick names
abbrev pub first_variant : Block → List ℕ → Option Variant
first_variant (One item) picks = None
first_variant (Choice variants) [] = None
first_variant (Choice variants) (pick ∷ picks) = slice_get variants pick

-- the picks left behind a block
abbrev pub picks_after : Block → List ℕ → List ℕ
picks_after (One item) picks = picks
picks_after (Choice variants) picks = drop 1 picks
