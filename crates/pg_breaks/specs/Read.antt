-- A list read from a place on, with variants picked.
use Rattle.std.specs.Prelude.{◌≡◌, ℕ, List, length, map}
use Rattle.pg_list.specs.declared.item.Item.{Item}
use Rattle.pg_list.specs.declared.blocks.Block.{Block}
use Rattle.pg_list.specs.declared.galley.Place.{Place}
use Rattle.pg_list.specs.Flat.{FlatItem, flat_items_at, picked_variants}

-- each pick names a variant of its choice
abbrev pub AreNamed : List Block → List ℕ → Type 0
AreNamed blocks picks = length (picked_variants blocks picks) ≡ length picks

-- the items from a place on
abbrev pub items_at : List Block → Place → List ℕ → List Item
items_at blocks from picks = map (λ (flat_item : FlatItem). flat_item.item) (flat_items_at blocks from picks)
