-- The flat list of a galley with one variant picked for each choice, and where its items stand.
use Rattle.std.specs.Prelude.{ℕ, ◌+◌, Bool, true, false, ◌==◌, ◌&&◌, if◌then◌else◌, List, [], ◌∷◌, ◌++◌, length, map, Option, Some}
use Rattle.std.specs.Prelude.{take, drop, slice_get}
use Rattle.std.specs.List.{position, count_by}
use Rattle.std.specs.Option.{option_map_or}
use Rattle.pg_list.specs.declared.variants.Variant.{Variant}
use Rattle.pg_list.specs.declared.item.Item.{Item}
use Rattle.pg_list.specs.declared.blocks.Block.{Block}
use Rattle.pg_list.specs.declared.blocks.Block.TheVariants.{One, Choice}
use Rattle.pg_list.specs.declared.galley.Place.{Place}
use Rattle.pg_list.specs.Places.{place, picked_items, items_around}

-- an item of the flat list, its place, and whether it is the front of a choice
pub record FlatItem : Type 0 where
  pub place : Place
  pub item : Item
  pub is_front : Bool

-- the items of a variant behind its front
abbrev pub later_flat_items : ℕ → ℕ → ℕ → List Item → List FlatItem
later_flat_items block variant index [] = []
later_flat_items block variant index (item ∷ items) =
    record { place = place block variant index; item = item; is_front = false }
    ∷ later_flat_items block variant (index + 1) items

-- the front of a choice has the place `block 0 0` whatever the variant
abbrev pub variant_flat_items : ℕ → ℕ → List Item → List FlatItem
variant_flat_items block variant [] = []
variant_flat_items block variant (item ∷ items) =
    record { place = place block 0 0; item = item; is_front = true } ∷ later_flat_items block variant 1 items

-- a choice with no pick left has variant 0
abbrev pub flat_items_from : ℕ → List Block → List ℕ → List FlatItem
flat_items_from n [] picks = []
flat_items_from n (One item ∷ blocks) picks =
    record { place = place n 0 0; item = item; is_front = false } ∷ flat_items_from (n + 1) blocks picks
flat_items_from n (Choice variants ∷ blocks) [] =
    variant_flat_items n 0 (picked_items (Choice variants) 0) ++ flat_items_from (n + 1) blocks []
flat_items_from n (Choice variants ∷ blocks) (pick ∷ picks) =
    variant_flat_items n pick (picked_items (Choice variants) pick) ++ flat_items_from (n + 1) blocks picks

-- the items of all blocks with these picks, with their places
abbrev pub flat_items : List Block → List ℕ → List FlatItem
flat_items blocks picks = flat_items_from 0 blocks picks

-- these items without their places
abbrev pub flat : List Block → List ℕ → List Item
flat blocks picks = map (λ (flat_item : FlatItem). flat_item.item) (flat_items blocks picks)

-- equal in block, variant and index
abbrev pub is_same_place : Place → Place → Bool
is_same_place a b = (a.block == b.block) && (a.variant == b.variant) && (a.index == b.index)

-- the place at the end
abbrev pub end_of : List Block → Place
end_of blocks = place (length blocks) 0 0

-- the items from a place on, with variants picked for the choices whose fronts are met;
-- where no pick is left, a choice has variant 0
abbrev pub flat_items_at : List Block → Place → List ℕ → List FlatItem
flat_items_at blocks at picks =
    if at.index == 0 then flat_items_from at.block (drop at.block blocks) picks
    else drop at.index (variant_flat_items at.block at.variant (items_around blocks at))
    ++ flat_items_from (at.block + 1) (drop (at.block + 1) blocks) picks

-- how many items stand before a place, where it is one of these or the end
abbrev pub steps_to : List Block → List FlatItem → Place → Option ℕ
steps_to blocks flat_items to =
    if is_same_place to (end_of blocks) then Some (length flat_items)
    else position (λ (flat_item : FlatItem). is_same_place flat_item.place to) flat_items

-- how many of the first choices' fronts are met on the way
abbrev pub fronts : List FlatItem → ℕ → ℕ
fronts flat_items n = count_by (λ (flat_item : FlatItem). flat_item.is_front) (take n flat_items)

-- the variants that picks name
abbrev pub picked_variants : List Block → List ℕ → List Variant
picked_variants [] picks = []
picked_variants (One item ∷ blocks) picks = picked_variants blocks picks
picked_variants (Choice variants ∷ blocks) [] = []
picked_variants (Choice variants ∷ blocks) (pick ∷ picks) =
    option_map_or (λ (variant : Variant). variant ∷ []) (slice_get variants pick) [] ++ picked_variants blocks picks

-- the blocks whose choices are met from a place on
abbrev pub blocks_at : List Block → Place → List Block
blocks_at blocks at = drop (if at.index == 0 then at.block else at.block + 1) blocks

-- the items before a place, with variant 0 for the choices that are passed
abbrev pub items_before : List Block → Place → List Item
items_before blocks at =
    flat (take at.block blocks) [] ++ (if at.index == 0 then [] else take at.index (items_around blocks at))
