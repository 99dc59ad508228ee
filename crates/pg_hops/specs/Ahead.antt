-- The items ahead of a cursor.
use Rattle.std.specs.Prelude.{◌≡◌, ℕ, ◌+◌, Bool, true, false, ◌==◌, ◌&&◌, not, if◌then◌else◌, List, ◌++◌, drop, Option, Some, None, is_none, slice_get}
use Rattle.pg_list.specs.declared.item.Item.{Item}
use Rattle.pg_list.specs.declared.blocks.Block.{Block}
use Rattle.pg_list.specs.declared.blocks.Block.TheVariants.{One, Choice}
use Rattle.pg_list.specs.declared.galley.Place.{Place}
use Rattle.pg_list.specs.Places.{item_at, items_around, place}
use Rattle.pg_list.specs.Flat.{FlatItem, variant_flat_items}
use Rattle.law_walk.specs.Walk.{next_front, singles}
use Rattle.pg_hops.specs.declared.cursor.Cursor.{Cursor}

-- the item of a block that is one item
abbrev pub single_in : Option Block → Option Item
single_in (Some (One item)) = Some item
single_in (Some (Choice variants)) = None
single_in None = None

-- the next item
abbrev pub item_ahead : List Block → Cursor → Option Item
item_ahead blocks c =
    if c.is_inner then item_at blocks (place c.block c.variant c.index) else single_in (slice_get blocks c.block)

-- where it stands; the front of a choice is written with variant 0
abbrev pub place_ahead : Cursor → Place
place_ahead c = if c.is_inner && not (c.index == 0) then place c.block c.variant c.index else place c.block 0 0

-- all items ahead: the variant's, and the single blocks behind them
abbrev pub items_ahead : List Block → Cursor → List FlatItem
items_ahead blocks c =
    if c.is_inner
    then drop c.index (variant_flat_items c.block c.variant (items_around blocks (place c.block c.variant 0)))
    ++ singles (c.block + 1) (drop (c.block + 1) blocks)
    else singles c.block (drop c.block blocks)

-- the front behind them
abbrev pub front_ahead : List Block → Cursor → ℕ
front_ahead blocks c =
    if c.is_inner then next_front (c.block + 1) (drop (c.block + 1) blocks)
    else next_front c.block (drop c.block blocks)

-- before a block of one item
abbrev pub before : ℕ → Cursor
before block = record { block = block; variant = 0; index = 0; is_inner = false }

-- before the items from a place on
abbrev pub begun : Place → Cursor
begun from =
    if from.index == 0 then before from.block
    else record { block = from.block; variant = from.variant; index = from.index; is_inner = true }

-- no item of the variant is left
abbrev pub is_behind : List Block → Cursor → Bool
is_behind blocks c = c.is_inner && is_none (item_at blocks (place c.block c.variant c.index))

-- behind a variant's last item come the single blocks behind it
abbrev pub settled : List Block → Cursor → Cursor
settled blocks c = if is_behind blocks c then before (c.block + 1) else c

abbrev pub IsSettled : List Block → Cursor → Type 0
IsSettled blocks c = is_behind blocks c ≡ false

-- one item on
abbrev pub stepped : Cursor → Cursor
stepped c =
    if c.is_inner then record { block = c.block; variant = c.variant; index = c.index + 1; is_inner = true }
    else before (c.block + 1)
