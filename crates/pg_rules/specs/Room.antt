-- A column with all that its rules depend on, and the room of its text.
use Rattle.std.specs.Prelude.{ℕ, Bool, true, false, ◌==◌, ◌&&◌, not, if◌then◌else◌, List, length, map, Option, slice_get, ℤ, pos, ◌+ℤ◌, ◌-ℤ◌, int_le, unwrap_or}
use Rattle.std.specs.List.{list_all}
use Rattle.std.specs.Option.{option_map_or}
use Rattle.pg_list.specs.declared.blocks.Block.{Block}
use Rattle.pg_list.specs.declared.item.Item.{Item}
use Rattle.pg_plan.specs.declared.pages.Column.{Column}
use Rattle.pg_list.specs.Flat.{FlatItem, flat_items_at, steps_to, is_same_place}
use Rattle.pg_style.specs.Values.{StyleValue}
use Rattle.pg_style.specs.declared.style.Run.{Run}
use Rattle.pg_style.specs.declared.style.Class.{Class}
use Rattle.pg_style.specs.declared.style.Gap.{Gap}
use Rattle.pg_style.specs.declared.style.Kind.{Kind}
use Rattle.pg_style.specs.declared.style.Kind.TheVariants.{Note, Float}
use Rattle.pg_style.specs.Values.{AreaRuleValue}
use Rattle.pg_list.specs.Whole.{whole_sum_by, whole_sum}
use Rattle.pg_rules.specs.Floats.{dealt, has_all, floats, area_give, area_height, gap_shrink, is_area_allowed, takes_top, takes_bottom, takes_in_column, sizes_of, plus_counts}

-- the galley's blocks and the style
pub record Document : Type 0 where
  pub blocks : List Block
  pub style : StyleValue

-- a run that does not exist adds nothing
abbrev pub extra : StyleValue → ℕ → ℤ
extra style run = option_map_or (λ (it : Run). it.extra) (slice_get style.runs run) (pos 0)

-- a column, its page's run and the height of its page's wide area, and the floats placed before its top area
pub record ColumnContext : Type 0 where
  pub document : Document
  pub column : Column
  pub run : ℕ
  pub wide : Option ℤ
  pub before : List ℕ

-- the items from the column's start on
abbrev pub flat_items_of : ColumnContext → List FlatItem
flat_items_of it = flat_items_at it.document.blocks it.column.from it.column.picks

-- these items without their places
abbrev pub items_of : ColumnContext → List Item
items_of it = map (λ (flat_item : FlatItem). flat_item.item) (flat_items_of it)

-- the number of the column's items, where its end is a place after its start
abbrev pub size_of : ColumnContext → Option ℕ
size_of it = steps_to it.document.blocks (flat_items_of it) it.column.to

-- a column with text: its two places differ
abbrev pub is_text : ColumnContext → Bool
is_text it = not (is_same_place it.column.from it.column.to)

-- what a test says at the number of the column's items
abbrev pub at_size : ColumnContext → (ℕ → Bool) → Bool
at_size it test = option_map_or test (size_of it) false

-- the floats placed before the column's bottom area
abbrev pub before_bottom : ColumnContext → List ℕ
before_bottom it = plus_counts it.document.style it.before it.column.top

-- the counts at the top are those that a column with or without text may have
abbrev pub is_top_allowed : ColumnContext → Bool
is_top_allowed it =
    if is_text it then is_area_allowed it.document.style takes_top it.document.style.top.count it.column.top
    else is_area_allowed it.document.style takes_in_column it.document.style.float_column.count it.column.top

-- the counts at the bottom are those that a column with or without text may have
abbrev pub is_bottom_allowed : ColumnContext → Bool
is_bottom_allowed it =
    if is_text it then is_area_allowed it.document.style takes_bottom it.document.style.bottom.count it.column.bottom
    else is_area_allowed it.document.style takes_in_column it.document.style.float_column.count it.column.bottom

-- an area with counts that are not allowed, or with a float that is not there, has height 0
abbrev pub checked_height : List (List ℤ) → Bool → AreaRuleValue → List ℕ → List ℕ → ℤ
checked_height floats allowed rule before counts =
    if allowed && has_all floats before counts then area_height rule (dealt floats before counts) else pos 0

-- what the gaps of an area give; nothing with counts that are not allowed, or with a float that is not there
abbrev pub checked_give : (Gap → ℤ) → List (List ℤ) → Bool → AreaRuleValue → List ℕ → List ℕ → ℤ
checked_give part floats allowed rule before counts =
    if allowed && has_all floats before counts then area_give part rule (length (dealt floats before counts)) else pos 0

-- the height of the top area
abbrev pub top_height : ColumnContext → ℤ
top_height it =
    checked_height (floats it.document.blocks it.document.style) (is_top_allowed it) it.document.style.top
    it.before it.column.top

-- the height of the bottom area
abbrev pub bottom_height : ColumnContext → ℤ
bottom_height it =
    checked_height (floats it.document.blocks it.document.style) (is_bottom_allowed it) it.document.style.bottom
    (before_bottom it) it.column.bottom

-- what the gaps of the top area give
abbrev pub top_give : (Gap → ℤ) → ColumnContext → ℤ
top_give part it =
    checked_give part (floats it.document.blocks it.document.style) (is_top_allowed it) it.document.style.top
    it.before it.column.top

-- what the gaps of the bottom area give
abbrev pub bottom_give : (Gap → ℤ) → ColumnContext → ℤ
bottom_give part it =
    checked_give part (floats it.document.blocks it.document.style) (is_bottom_allowed it) it.document.style.bottom
    (before_bottom it) it.column.bottom

-- what the gaps of the areas give to the text between them; those of the wide area are rigid
abbrev pub areas_give : (Gap → ℤ) → ColumnContext → ℤ
areas_give part it = top_give part it +ℤ bottom_give part it

-- the height of a column on a page of this run
abbrev pub full_height : ColumnContext → ℤ
full_height it = it.document.style.height +ℤ extra it.document.style it.run

-- the height of the page's wide area, 0 where there is none
abbrev pub wide_height : ColumnContext → ℤ
wide_height it = unwrap_or it.wide (pos 0)

-- what the areas leave of the column's height for text and notes
abbrev pub room : ColumnContext → ℤ
room it = ((full_height it -ℤ wide_height it) -ℤ top_height it) -ℤ bottom_height it

-- the same where the gaps of the areas are shrunk
abbrev pub tallest_room : ColumnContext → ℤ
tallest_room it = room it +ℤ areas_give gap_shrink it

-- for a note class with a note in the list, its skip and the sizes
abbrev pub class_notes : List Item → ℕ → Kind → ℤ
class_notes items number (Note skip limit) =
    if length (sizes_of number items) == 0 then pos 0 else (skip.size +ℤ whole_sum (sizes_of number items))
class_notes items number (Float area distance) = pos 0

-- the height of all notes in a list of items
abbrev pub notes : StyleValue → List Item → ℤ
notes style items = whole_sum_by (λ (class : Class). class_notes items class.number class.kind) style.classes

-- for a note class with a note in the list, what its skip gives
abbrev pub class_give : (Gap → ℤ) → List Item → ℕ → Kind → ℤ
class_give part items number (Note skip limit) = if length (sizes_of number items) == 0 then pos 0 else part skip
class_give part items number (Float area distance) = pos 0

-- what the skips of all notes in a list of items give
abbrev pub skips_give : (Gap → ℤ) → StyleValue → List Item → ℤ
skips_give part style items =
    whole_sum_by (λ (class : Class). class_give part items class.number class.kind) style.classes

-- the height of the notes where their skips are shrunk
abbrev pub smallest_notes : StyleValue → List Item → ℤ
smallest_notes style items = notes style items -ℤ skips_give gap_shrink style items

-- what the gaps around a text with these items give
abbrev pub give : (Gap → ℤ) → ColumnContext → List Item → ℤ
give part it items = areas_give part it +ℤ skips_give part it.document.style items

-- the notes of a class in a list of items, without the skip, are within the class's limit
abbrev pub is_within_limit : List Item → ℕ → Kind → Bool
is_within_limit items number (Note skip limit) = int_le (whole_sum (sizes_of number items)) limit
is_within_limit items number (Float area distance) = true

-- the notes of every class are
abbrev pub are_notes_within_limits : StyleValue → List Item → Bool
are_notes_within_limits style items =
    list_all (λ (class : Class). is_within_limit items class.number class.kind) style.classes
