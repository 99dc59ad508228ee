-- The places of a class's inserts, in every variant of a galley.
use Rattle.std.specs.Prelude.{ℕ, ◌+◌, Bool, ◌==◌, nat_lt, is_some, if◌then◌else◌, List, [], ◌∷◌, ◌++◌}
use Rattle.pg_list.specs.declared.item.Item.{Item}
use Rattle.pg_list.specs.declared.variants.Variant.{Variant}
use Rattle.pg_list.specs.declared.blocks.Block.{Block}
use Rattle.pg_list.specs.declared.blocks.Block.TheVariants.{One, Choice}
use Rattle.pg_list.specs.declared.galley.Place.{Place}
use Rattle.pg_list.specs.Places.{place}
use Rattle.pg_rules.specs.Floats.{insert_size}

-- a place comes before another: by block, then by variant, then by index
abbrev pub is_before : Place → Place → Bool
is_before at to =
    if at.block == to.block
    then (if at.variant == to.variant then nat_lt at.index to.index else nat_lt at.variant to.variant)
    else nat_lt at.block to.block

-- the places of the inserts among the items of a variant, of which the first has this index
abbrev pub places_in : ℕ → ℕ → ℕ → ℕ → List Item → List Place
places_in number block variant index [] = []
places_in number block variant index (item ∷ items) =
    (if is_some (insert_size number item) then place block variant index ∷ [] else [])
    ++ places_in number block variant (index + 1) items

-- those in the variants of a choice, of which the first has this number
abbrev pub places_among : ℕ → ℕ → ℕ → List Variant → List Place
places_among number block variant [] = []
places_among number block variant (first ∷ variants) =
    places_in number block variant 0 first.items ++ places_among number block (variant + 1) variants

abbrev pub places_of_block : ℕ → ℕ → Block → List Place
places_of_block number n (One item) = places_in number n 0 0 (item ∷ [])
places_of_block number n (Choice variants) = places_among number n 0 variants

-- those in the blocks from the n-th on
abbrev pub places_from : ℕ → ℕ → List Block → List Place
places_from number n [] = []
places_from number n (block ∷ blocks) = places_of_block number n block ++ places_from number (n + 1) blocks
