-- The items of a column's text.
use Rattle.std.specs.Prelude.{ℕ, Bool, ◌&&◌, not, if◌then◌else◌, List, [], ◌∷◌, map, take}
use Rattle.std.specs.Borrow.{Bor}
use Rattle.std.specs.Option.{option_map_or}
use Rattle.pg_list.specs.declared.blocks.Block.{Block}
use Rattle.pg_list.specs.declared.galley.Place.{Place}
use Rattle.pg_list.specs.declared.item.Item.{Item}
use Rattle.pg_list.specs.Flat.{FlatItem, flat_items_at, is_same_place, steps_to}
use Rattle.pg_breaks.specs.Read.{items_at}
use Rattle.pg_plan.specs.declared.pages.Column.{Column}

-- the items from the column's start up to its end, with the variants that its picks name
abbrev pub column_text : List Block → Column → List Item
column_text blocks column =
    option_map_or (λ (n : ℕ). take n (items_at blocks column.from column.picks))
    (steps_to blocks (flat_items_at blocks column.from column.picks) column.to) []

-- what is behind references, one after another
abbrev pub behind : {T : Type 0} → List (Bor T) → List T
behind xs = map (λ x. x.now) xs

-- the items ahead up to a place, or up to the end; nobody need believe this
abbrev pub items_to : Bool → Place → List FlatItem → List Item
items_to is_end to [] = []
items_to is_end to (x ∷ xs) = if not is_end && is_same_place x.place to then [] else x.item ∷ items_to is_end to xs
