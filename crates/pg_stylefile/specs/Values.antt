-- What one value of a style file says, or the kind of its fault.
use Rattle.std.specs.Prelude.{Bool, true, is_some, ◌≡◌, ◌==◌, ◌&&◌, ℕ, ◌-◌, ◌^◌, ℤ, pos, negsuc, nat_le, int_le}
use Rattle.std.specs.Prelude.{if◌then◌else◌, List, [], ◌∷◌, length, drop, codes, Option, Some, None, Result, Ok, Err}
use Rattle.std.specs.Option.{ok_or}
use Rattle.std.specs.Str.{bytes_eq}
use Rattle.toml.specs.Data.{Data, Items, no_items, item, Members, as_integer, as_str, as_array, as_table}
use Rattle.toml.specs.View.{items_view}
use Rattle.toml.specs.declared.value.Value as value
use Rattle.pg_scaled.specs.Scaled.{scaled_value}
use Rattle.pg_scaled.specs.declared.read.Front.{Front}
use Rattle.pg_scaled.specs.declared.read.Front.TheVariants.{Value, NotNumber, TooLarge}
use Rattle.pg_scan.specs.Parts.{after, on}
use Rattle.pg_style.specs.Plain.{rigid}
use Rattle.pg_style.specs.Ranges.{has_table_range, rises}
use Rattle.pg_style.specs.declared.style.Gap.{Gap}
use Rattle.pg_style.specs.declared.style.First.{First}
use Rattle.pg_style.specs.declared.style.First.TheVariants.{Left, Right, Single}
use Rattle.pg_style.specs.declared.style.Area.{Area}
use Rattle.pg_style.specs.declared.style.Area.TheVariants.{Top, Bottom, Both, Wide}
use Rattle.pg_stylefile.specs.declared.values.Sort.{Sort}
use Rattle.pg_stylefile.specs.declared.values.Sort.TheVariants.{Note, Float}
use Rattle.pg_stylefile.specs.declared.fault.StyleKind.{StyleKind}
use Rattle.pg_stylefile.specs.declared.fault.StyleKind.TheVariants.{WrongKind, OutOfRange, Decreasing}
use Rattle.pg_stylefile.specs.Faults.{◌>>=◌}

abbrev pub Answers : {A B : Type 0} → (A → B) → Result A StyleKind → Result B StyleKind → Type 0
Answers view (Ok x) said = said ≡ Ok (view x)
Answers view (Err kind) said = said ≡ Err kind

-- a whole number within its range
abbrev pub whole_in : ℕ → ℕ → ℤ → Result ℕ StyleKind
whole_in low high (pos n) = if nat_le low n && nat_le n high then Ok n else Err OutOfRange
whole_in low high (negsuc n) = Err OutOfRange

unfoldable pub whole_of : ℕ → ℕ → Data → Result ℕ StyleKind
whole_of low high value = ok_or (as_integer value) WrongKind >>= whole_in low high

unfoldable pub text_of : Data → Result (List ℕ) StyleKind
text_of value = ok_or (as_str value) WrongKind

unfoldable pub table_of : Data → Result Members StyleKind
table_of value = ok_or (as_table value) WrongKind

-- a number of a list, as it stands in a text of this length
abbrev pub front_in : ℤ → ℤ → ℕ → Front → Result ℤ StyleKind
front_in low high size (Value value len) = if len == size
    then (if int_le low value && int_le value high then Ok value else Err OutOfRange) else Err WrongKind
front_in low high size (TooLarge len) = if len == size then Err OutOfRange else Err WrongKind
front_in low high size NotNumber = Err WrongKind

-- a text that is wholly a scaled number within its range
unfoldable pub dimension_in : ℤ → ℤ → List ℕ → Result ℤ StyleKind
dimension_in low high text = front_in low high (length text) (scaled_value text)

unfoldable pub dimension_of : ℤ → ℤ → Data → Result ℤ StyleKind
dimension_of low high value = text_of value >>= dimension_in low high

unfoldable pub first_named : List ℕ → Result First StyleKind
first_named text =
    if bytes_eq text (codes "left") then Ok Left
    else if bytes_eq text (codes "right") then Ok Right
    else if bytes_eq text (codes "single") then Ok Single
    else Err WrongKind

-- the side of the first page
unfoldable pub first_of : Data → Result First StyleKind
first_of value = text_of value >>= first_named

unfoldable pub area_named : List ℕ → Result Area StyleKind
area_named text =
    if bytes_eq text (codes "top") then Ok Top
    else if bytes_eq text (codes "bottom") then Ok Bottom
    else if bytes_eq text (codes "both") then Ok Both
    else if bytes_eq text (codes "wide") then Ok Wide
    else Err WrongKind

-- where the floats of a class may stand
unfoldable pub area_of : Data → Result Area StyleKind
area_of value = text_of value >>= area_named

unfoldable pub sort_named : List ℕ → Result Sort StyleKind
sort_named text =
    if bytes_eq text (codes "note") then Ok Note
    else if bytes_eq text (codes "float") then Ok Float
    else Err WrongKind

-- what the inserts of a class are
unfoldable pub sort_of : Data → Result Sort StyleKind
sort_of value = text_of value >>= sort_named

-- a dimension that is not negative
abbrev pub length_of : Data → Result ℤ StyleKind
length_of = dimension_of (pos 0) (pos (2 ^ 30 - 1))

-- the number in front of a text, none where it is too large, and what stands behind it
abbrev pub part_from : Front → List ℕ → Result (Option ℤ × List ℕ) StyleKind
part_from (Value value len) text = Ok (Some value, drop len text)
part_from (TooLarge len) text = Ok (None, drop len text)
part_from NotNumber text = Err WrongKind

unfoldable pub part_at : List ℕ → Result (Option ℤ × List ℕ) StyleKind
part_at text = part_from (scaled_value text) text

-- the number behind a word, 0 where the word does not stand in front
unfoldable pub part_behind : List ℕ → List ℕ → Result (Option ℤ × List ℕ) StyleKind
part_behind word text = on (after word text) part_at (Ok (Some (pos 0), text))

-- none of the three is below 0, and the shrink is not above the size
abbrev pub can_give : ℤ → ℤ → ℤ → Bool
can_give size stretch shrink = int_le (pos 0) size && (int_le (pos 0) stretch && (int_le (pos 0) shrink && int_le shrink size))

abbrev pub gap_of_numbers : ℤ → ℤ → ℤ → Result Gap StyleKind
gap_of_numbers size stretch shrink = if can_give size stretch shrink
    then Ok (record { size = size; stretch = stretch; shrink = shrink }) else Err OutOfRange

-- a gap of three numbers that are there, and may give so much
unfoldable pub gap_from : Option ℤ → Option ℤ → Option ℤ → Result Gap StyleKind
gap_from (Some size) (Some stretch) (Some shrink) = gap_of_numbers size stretch shrink
gap_from (Some size) (Some stretch) None = Err OutOfRange
gap_from (Some size) None shrink = Err OutOfRange
gap_from None stretch shrink = Err OutOfRange

-- a size, ` plus ` and a stretch or not, ` minus ` and a shrink or not
unfoldable pub gap_in : List ℕ → Result Gap StyleKind
gap_in text = do
  size ← part_at text
  stretch ← part_behind (codes " plus ") size.1
  shrink ← part_behind (codes " minus ") stretch.1
  if bytes_eq shrink.1 [] then gap_from size.0 stretch.0 shrink.0 else Err WrongKind

-- a gap, which before version 3 is a length
unfoldable pub gap_of : ℕ → Data → Result Gap StyleKind
gap_of version value = if version == 3 then (text_of value >>= gap_in)
    else (length_of value >>= (λ size. Ok (rigid size)))

-- the tables of an array that has no other elements
abbrev pub each_table : Items → Result (List Members) StyleKind
each_table no_items = Ok []
each_table (item value items) = table_of value >>= (λ members. each_table items >>= (λ tables. Ok (members ∷ tables)))

unfoldable pub tables_of : Data → Result (List Members) StyleKind
tables_of value = ok_or (as_array value) WrongKind >>= each_table

-- no tables for a fault
abbrev pub tables_or_none : Result (List Members) StyleKind → List Members
tables_or_none (Ok tables) = tables
tables_or_none (Err kind) = []

abbrev pub tables_in : List value.Value → List Members
tables_in values = tables_or_none (each_table (items_view values))

abbrev pub are_whole : Items → Bool
are_whole no_items = true
are_whole (item value items) = is_some (as_integer value) && are_whole items

-- the whole numbers of an array, each within the limit on demerits
abbrev pub each_entry : Items → Result (List ℕ) StyleKind
each_entry no_items = Ok []
each_entry (item value items) = whole_of 0 100000000 value
    >>= (λ entry. each_entry items >>= (λ entries. Ok (entry ∷ entries)))

-- the table of 1 to 9 entries, none below the one before
unfoldable pub made_table : List ℕ → Result (List ℕ) StyleKind
made_table entries = if has_table_range entries then (if rises entries then Ok entries else Err Decreasing)
    else Err OutOfRange

unfoldable pub entries_of : Items → Result (List ℕ) StyleKind
entries_of items = each_entry items >>= made_table

-- the distance table of a class of floats, where an element that is no whole number comes first
unfoldable pub distance_of : Data → Result (List ℕ) StyleKind
distance_of value = ok_or (as_array value) WrongKind
    >>= (λ items. if are_whole items then entries_of items else Err WrongKind)
