-- A note of a galley that by itself forbids every pagination.
use Rattle.std.specs.Prelude.{◌≡◌, ℕ, if◌then◌else◌, Option, Some, None, List, [], ◌∷◌, Contains, ℤ, ◌<ℤ◌, int_lt}
use Rattle.std.specs.Option.{option_map_or, option_or}
use Rattle.pg_list.specs.Flat.{flat}
use Rattle.pg_list.specs.GalleyValue.{GalleyValue}
use Rattle.pg_list.specs.Places.{picked_items}
use Rattle.pg_list.specs.declared.blocks.Block.{Block}
use Rattle.pg_list.specs.declared.item.Item.{Item}
use Rattle.pg_list.specs.declared.item.Item.TheVariants.{Insert}
use Rattle.pg_plan.specs.declared.pages.Pagination.{Pagination}
use Rattle.pg_style.specs.Values.{StyleValue}
use Rattle.pg_style.specs.declared.style.Class.{Class}
use Rattle.pg_style.specs.declared.style.Kind.{Kind}
use Rattle.pg_style.specs.declared.style.Kind.TheVariants.{Note, Float}
use Rattle.pg_rules.specs.Floats.{class_of, sizes_of}
use Rattle.pg_rules.specs.Legal.{Legal}
use Rattle.pg_alone.specs.declared.notes.HighNote.{HighNote}

-- the most that the notes of a class may take, where it is one of notes
abbrev pub limit_of : Kind → Option ℤ
limit_of (Note skip limit) = Some limit
limit_of (Float area distance) = None

-- a note of this class that is above the limit
abbrev pub IsHighNote : StyleValue → HighNote → Type 0
IsHighNote style it = (class : Class) × (class_of style it.class ≡ Some class) × (limit_of class.kind ≡ Some it.limit)
    × (it.limit <ℤ it.size)

-- nothing is legal where a note is above the limit of its class
abbrev pub HighNotesForbid : GalleyValue → StyleValue → Type 0
HighNotesForbid galley style = (it : HighNote) (plan : Pagination) → IsHighNote style it →
    Contains (sizes_of it.class (flat galley.blocks [])) it.size → Legal galley style plan → ⊥

-- ---- what is found

-- an insert of this kind, number and size, where it is a note above the limit
abbrev pub high_in : Kind → ℕ → ℤ → Option HighNote
high_in (Note skip limit) number size =
    if int_lt limit size then Some (record { class = number; size = size; limit = limit }) else None
high_in (Float area distance) number size = None

-- the item, where it is a note above the limit of its class
abbrev pub high_of : StyleValue → Item → Option HighNote
high_of style (Insert number size body) =
    option_map_or (λ (class : Class). high_in class.kind number size) (class_of style number) None
high_of style item = None

-- the first of these items that is one
abbrev pub first_high : StyleValue → List Item → Option HighNote
first_high style [] = None
first_high style (item ∷ items) = option_or (high_of style item) (first_high style items)

-- the same, block by block
abbrev pub high_blocks : StyleValue → List Block → Option HighNote
high_blocks style [] = None
high_blocks style (block ∷ blocks) = option_or (first_high style (picked_items block 0)) (high_blocks style blocks)

-- the first note of the galley that is above the limit of its class
abbrev pub high_note : GalleyValue → StyleValue → Option HighNote
high_note galley style = first_high style (flat galley.blocks [])

-- nothing is legal where there is one
abbrev pub HighNoteForbids : GalleyValue → StyleValue → Type 0
HighNoteForbids galley style = (it : HighNote) (plan : Pagination) → high_note galley style ≡ Some it →
    Legal galley style plan → ⊥
