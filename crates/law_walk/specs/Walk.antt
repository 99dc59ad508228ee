-- The walk from a place: stretches of items between the fronts of choices, the ends along a stretch, and all of them.
use Rattle.std.specs.Prelude.{ℕ, zero, suc, ◌+◌, ◌==◌, ◌&&◌, false, if◌then◌else◌, List, [], ◌∷◌, ◌++◌, length, drop, Option, Some, None, slice_get, ℤ, pos, ◌+ℤ◌}
use Rattle.std.specs.List.{flat_map, range_with_len}
use Rattle.std.specs.Option.{option_map_or}
use Rattle.pg_list.specs.declared.blocks.Block.{Block}
use Rattle.pg_list.specs.declared.blocks.Block.TheVariants.{One, Choice}
use Rattle.pg_list.specs.declared.galley.Place.{Place}
use Rattle.pg_list.specs.declared.variants.Variant.{Variant}
use Rattle.pg_list.specs.Places.{items_around, place}
use Rattle.pg_list.specs.Flat.{FlatItem, variant_flat_items}
use Rattle.pg_rules.specs.Room.{Document}
use Rattle.law_walk.specs.Candidates.{Candidate}
use Rattle.pg_column.specs.Passed.{Passed, are_within, fits, is_end_here, nothing, pass_item, pass_items}
use Rattle.pg_column.specs.Judged.{is_loose_enough}

-- ---- stretches

-- the single blocks up to the next choice
abbrev pub singles : ℕ → List Block → List FlatItem
singles n [] = []
singles n (One item ∷ blocks) =
    record { place = place n 0 0; item = item; is_front = false } ∷ singles (n + 1) blocks
singles n (Choice variants ∷ blocks) = []

-- the block of the next choice, or the number of blocks where none is left
abbrev pub next_front : ℕ → List Block → ℕ
next_front n [] = n
next_front n (One item ∷ blocks) = next_front (n + 1) blocks
next_front n (Choice variants ∷ blocks) = n

-- from a place up to the next front
abbrev pub first_items : List Block → Place → List FlatItem
first_items blocks from =
    if from.index == 0 then singles from.block (drop from.block blocks)
    else drop from.index (variant_flat_items from.block from.variant (items_around blocks from))
    ++ singles (from.block + 1) (drop (from.block + 1) blocks)

-- the front behind them
abbrev pub first_front : List Block → Place → ℕ
first_front blocks from =
    if from.index == 0 then next_front from.block (drop from.block blocks)
    else next_front (from.block + 1) (drop (from.block + 1) blocks)

-- from the front of a choice, with a variant picked, up to the next front
abbrev pub picked_stretch : List Block → ℕ → ℕ → List FlatItem
picked_stretch blocks b pick =
    variant_flat_items b pick (items_around blocks (place b pick 0)) ++ singles (b + 1) (drop (b + 1) blocks)

-- the front behind it
abbrev pub picked_front : List Block → ℕ → ℕ
picked_front blocks b = next_front (b + 1) (drop (b + 1) blocks)

-- the variants of a block that is a choice
abbrev pub variants_in : Option Block → List Variant
variants_in (Some (Choice variants)) = variants
variants_in _ = []

-- the variants of the choice at a block
abbrev pub variants_at : List Block → ℕ → List Variant
variants_at blocks b = variants_in (slice_get blocks b)

-- ---- ends along a stretch

-- the end at a place, where it is a break behind a box and the notes are within the limits
abbrev pub end_here : Document → List ℕ → ℤ → Place → Passed → List Candidate
end_here doc picks demerits at p =
    if is_end_here doc.blocks p at && are_within doc.style p
    then record { to = at; picks = picks; passed = p; pick_demerits = demerits } ∷ [] else []

-- the ends before each item and behind the last, up to a break that no room up to the greatest one lets pass
abbrev pub ends_along : Document → ℤ → List ℕ → ℤ → Place → Passed → List FlatItem → List Candidate
ends_along doc top picks demerits behind p [] = end_here doc picks demerits behind p
ends_along doc top picks demerits behind p (x ∷ xs) =
    end_here doc picks demerits x.place p
    ++ option_map_or
    (λ (q : Passed). if fits q.bound top then ends_along doc top picks demerits behind q xs else [])
    (pass_item doc p x) []

-- past a stretch, where some room up to the greatest one lets pass
abbrev pub past_stretch : Document → ℤ → Passed → List FlatItem → Option Passed
past_stretch doc top p xs =
    option_map_or (λ (q : Passed). if fits q.bound top then Some q else None) (pass_items doc p xs) None

-- ---- all ends, pick by pick

-- the ends behind the front of a choice, for each pick that is loose enough, through at most so many choices
abbrev pub walk_from : ℕ → Document → ℤ → List ℕ → ℤ → ℕ → Passed → List Candidate
walk_from zero doc top picks demerits b p = []
walk_from (suc fuel) doc top picks demerits b p =
    flat_map
    (λ (pick : ℕ). option_map_or
    (λ (v : Variant). if is_loose_enough doc.style v
    then ends_along doc top (picks ++ pick ∷ []) (demerits +ℤ pos v.demerits) (place (picked_front doc.blocks b) 0 0) p
    (picked_stretch doc.blocks b pick)
    ++ option_map_or
    (λ (q : Passed). walk_from fuel doc top (picks ++ pick ∷ []) (demerits +ℤ pos v.demerits)
    (picked_front doc.blocks b) q)
    (past_stretch doc top p (picked_stretch doc.blocks b pick)) []
    else [])
    (slice_get (variants_at doc.blocks b) pick) [])
    (range_with_len 0 (length (variants_at doc.blocks b)))

-- the candidates from a place, by all picks
unfoldable pub candidates_from : Document → ℤ → Place → List Candidate
candidates_from doc top from =
    ends_along doc top [] (pos 0) (place (first_front doc.blocks from) 0 0) nothing (first_items doc.blocks from)
    ++ option_map_or
    (λ (p : Passed). walk_from (length doc.blocks) doc top [] (pos 0) (first_front doc.blocks from) p)
    (past_stretch doc top nothing (first_items doc.blocks from)) []
