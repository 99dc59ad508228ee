-- The items of a galley with variants picked, block by block.
use Rattle.std.proofs.Common.{◌≡◌, refl, ap, ◌∙◌, ℕ, suc, ◌+◌, ◌<◌, ◌≤◌, List, [], ◌∷◌, ◌++◌, length, map, arith, Option, Some, None}
use Rattle.std.specs.Prelude.{slice_get}
use Rattle.std.specs.Option.{option_map_or}
use Rattle.std.proofs.lemmas.List.{map-append}
use Rattle.std.proofs.lemmas.Option.{slice_get_within}
use Rattle.pg_list.specs.declared.item.Item.{Item}
use Rattle.pg_list.specs.declared.variants.Variant.{Variant}
use Rattle.pg_list.specs.declared.blocks.Block.{Block}
use Rattle.pg_list.specs.declared.blocks.Block.TheVariants.{One, Choice}
use Rattle.pg_list.specs.Places.{picked_items}
use Rattle.pg_list.specs.Flat.{FlatItem, flat_items_from, later_flat_items, variant_flat_items, picked_variants}
use Rattle.pg_list.proofs.Places.{picked_few}

abbrev pub listed : List Block → List ℕ → List Item
listed [] picks = []
listed (One item ∷ blocks) picks = item ∷ listed blocks picks
listed (Choice variants ∷ blocks) [] = picked_items (Choice variants) 0 ++ listed blocks []
listed (Choice variants ∷ blocks) (pick ∷ picks) = picked_items (Choice variants) pick ++ listed blocks picks

-- each pick names a variant of its choice
abbrev pub ArePicks : List Block → List ℕ → Type 0
ArePicks [] picks = Unit {0}
ArePicks (One item ∷ blocks) picks = ArePicks blocks picks
ArePicks (Choice variants ∷ blocks) [] = ArePicks blocks []
ArePicks (Choice variants ∷ blocks) (pick ∷ picks) = (pick < length variants) × ArePicks blocks picks

-- the item of a flat item
abbrev pub shown : FlatItem → Item
shown flat_item = flat_item.item

later_shown : (n v i : ℕ) (items : List Item) → map shown (later_flat_items n v i items) ≡ items
later_shown n v i [] = refl
later_shown n v i (item ∷ items) = ap (λ (xs : List Item). item ∷ xs) (later_shown n v (i + 1) items)

pub variant_shown : (n v : ℕ) (items : List Item) → map shown (variant_flat_items n v items) ≡ items
variant_shown n v [] = refl
variant_shown n v (item ∷ items) = ap (λ (xs : List Item). item ∷ xs) (later_shown n v 1 items)

two_shown : (n v : ℕ) (items : List Item) (xs : List FlatItem) (ys : List Item) → map shown xs ≡ ys →
    map shown (variant_flat_items n v items ++ xs) ≡ items ++ ys
two_shown n v items xs ys e =
    map-append shown (variant_flat_items n v items) xs
    ∙ (ap (λ (zs : List Item). zs ++ map shown xs) (variant_shown n v items)
    ∙ ap (λ (zs : List Item). items ++ zs) e)

pub blocks_shown : (n : ℕ) (blocks : List Block) (picks : List ℕ) →
    map shown (flat_items_from n blocks picks) ≡ listed blocks picks
blocks_shown n [] picks = refl
blocks_shown n (One item ∷ blocks) picks = ap (λ (xs : List Item). item ∷ xs) (blocks_shown (n + 1) blocks picks)
blocks_shown n (Choice variants ∷ blocks) [] =
    two_shown n 0 (picked_items (Choice variants) 0) (flat_items_from (n + 1) blocks []) (listed blocks [])
    (blocks_shown (n + 1) blocks [])
blocks_shown n (Choice variants ∷ blocks) (pick ∷ picks) =
    two_shown n pick (picked_items (Choice variants) pick) (flat_items_from (n + 1) blocks picks)
    (listed blocks picks) (blocks_shown (n + 1) blocks picks)

at_most : (o : Option Variant) → length (option_map_or (λ (variant : Variant). variant ∷ []) o []) ≤ 1
at_most None = omega arith
at_most (Some v) = omega arith

named_first : (o : Option Variant) (xs : List Variant) (n : ℕ) → length xs ≤ n →
    length (option_map_or (λ (variant : Variant). variant ∷ []) o [] ++ xs) ≡ suc n →
    (v : Variant) × (o ≡ Some v) × (length xs ≡ n)
named_first None xs n few e = absurd (omega arith)
named_first (Some v) xs n few e = (v, refl, omega arith)

pub are_picks : (blocks : List Block) (picks : List ℕ) → length (picked_variants blocks picks) ≡ length picks →
    ArePicks blocks picks
are_picks [] picks e = tt
are_picks (One item ∷ blocks) picks e = are_picks blocks picks e
are_picks (Choice variants ∷ blocks) [] e = are_none blocks
  where
    are_none : (blocks : List Block) → ArePicks blocks []
    are_none [] = tt
    are_none (One item ∷ blocks) = are_none blocks
    are_none (Choice variants ∷ blocks) = are_none blocks
are_picks (Choice variants ∷ blocks) (pick ∷ picks) e =
    let first = named_first (slice_get variants pick) (picked_variants blocks picks) (length picks)
    (picked_few blocks picks) e in
    (slice_get_within variants pick first.0 first.1, are_picks blocks picks first.2)
