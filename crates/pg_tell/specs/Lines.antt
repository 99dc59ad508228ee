-- What is told first, and what is said.
use Rattle.std.specs.Prelude.{◌≡◌, ℕ, ◌-◌, Bool, true, false, List, [], ◌∷◌, ◌++◌, codes, decimal, take, length, ℤ, pos, if◌then◌else◌, Option, Some, None}
use Rattle.std.specs.List.{flat_map}
use Rattle.std.specs.Ordering.{int_eq}
use Rattle.pg_alone.specs.declared.alone.Alone.{Alone}
use Rattle.pg_alone.specs.declared.notes.HighNote.{HighNote}
use Rattle.pg_changes.specs.declared.change.Change.{Change}
use Rattle.pg_changes.specs.declared.helping.Helping.{Helping}
use Rattle.pg_changes.specs.declared.number.Number.{Number}
use Rattle.pg_changes.specs.declared.pairs.Pair.{Pair}
use Rattle.pg_changes.specs.declared.number.Number.TheVariants.{Tolerance, Looseness, LeastText, Height, TopCount, BottomCount, WideCount, ColumnCount, Limit, Distance}
use Rattle.pg_command.specs.Lines.{exit_number, line_of, status_of}
use Rattle.pg_command.specs.declared.ending.Ending.{Ending}
use Rattle.pg_command.specs.declared.ending.Ending.TheVariants as ending
use Rattle.pg_furthest.specs.declared.standing.Standing.{Standing}
use Rattle.pg_parts.specs.declared.part.Part.{Part}
use Rattle.pg_parts.specs.declared.part.Part.TheVariants.{Line, Badness, Penalties, Empty, Picks, Runs, Floats, Fitness}
use Rattle.pg_pieces.specs.Pieces.{letter_text, letters_of}
use Rattle.pg_pieces.specs.declared.letters.Form.{Form}
use Rattle.pg_pieces.specs.declared.letters.Form.TheVariants.{Plain, Json}
use Rattle.pg_scaled.specs.Scaled.{scaled_text}
use Rattle.pg_words.specs.Written.{whole_text}
use Rattle.pg_tell.specs.declared.findings.Findings.{Findings}

-- a line without its first four bytes and its last one
abbrev pub inner : List ℕ → List ℕ
inner (a ∷ b ∷ c ∷ d ∷ rest) = take (length rest - 1) rest
inner line = []

-- the line of `pg` for an ending, without the program's name in front and the line feed
abbrev pub said_of : Ending → List ℕ
said_of cause = inner (line_of cause)

-- a text of a file, or with the name of one, in a form
abbrev pub in_form : Form → List ℕ → List ℕ
in_form form text = flat_map (letter_text (letters_of form text)) text

-- what a refusal begins with: the line of `pg` with this program's name in front, or its status and the same as a string
abbrev pub refusal_front : Form → Ending → List ℕ
refusal_front Plain cause = codes "pg_tell: " ++ (in_form Plain (said_of cause) ++ (codes "\n" ++ []))
refusal_front Json cause = codes "{\"version\":1,\"status\":" ++ (decimal (exit_number (status_of cause))
    ++ (codes ",\"said\":\"" ++ (in_form Json (said_of cause) ++ (codes "\"" ++ []))))

-- the name of a part of the cost
abbrev pub part_name : Part → List ℕ
part_name Line = codes "line"
part_name Badness = codes "badness"
part_name Penalties = codes "penalties"
part_name Empty = codes "columns without text"
part_name Picks = codes "versions"
part_name Runs = codes "runs"
part_name Floats = codes "floats"
part_name Fitness = codes "fitness"

-- a part of the cost that is not 0, on a line of its own
abbrev pub part_line : Part → ℤ → List ℕ
part_line part amount = if int_eq amount (pos 0) then []
    else codes "  " ++ (part_name part ++ (codes " " ++ (whole_text amount ++ (codes "\n" ++ []))))

-- a part of the cost; as a key of the object also where it is 0
abbrev pub part_text : Form → Part → ℤ → List ℕ
part_text Plain part amount = part_line part amount
part_text Json part amount = codes ",\"" ++ (part_name part ++ (codes "\":" ++ (whole_text amount ++ [])))

-- the parts that texts pay
unfoldable pub text_parts : Form → (Part → ℤ) → List ℕ
text_parts form sums = part_text form Line (sums Line) ++ part_text form Badness (sums Badness)
    ++ part_text form Penalties (sums Penalties)

-- the parts that columns without text, versions and runs pay
unfoldable pub column_parts : Form → (Part → ℤ) → List ℕ
column_parts form sums = part_text form Empty (sums Empty) ++ part_text form Picks (sums Picks)
    ++ part_text form Runs (sums Runs)

-- the parts that floats and differences of fitness pay
unfoldable pub float_parts : Form → (Part → ℤ) → List ℕ
float_parts form sums = part_text form Floats (sums Floats) ++ part_text form Fitness (sums Fitness)

-- all parts of the cost
unfoldable pub parts_text : Form → (Part → ℤ) → List ℕ
parts_text form sums = text_parts form sums ++ column_parts form sums ++ float_parts form sums

-- how many pages there are, and what they cost
abbrev pub count_text : Form → ℕ → ℤ → List ℕ
count_text Plain pages cost = codes "pages " ++ (decimal pages ++ (codes ", cost " ++ (whole_text cost ++ (codes "\n" ++ []))))
count_text Json pages cost = codes "{\"version\":1,\"status\":0,\"pages\":" ++ (decimal pages
    ++ (codes ",\"cost\":" ++ (whole_text cost ++ [])))

-- what the best pages begin with: how many there are, what they cost, and the parts of that
unfoldable pub pages_front : Form → ℕ → ℤ → (Part → ℤ) → List ℕ
pages_front form pages cost sums = count_text form pages cost ++ parts_text form sums

-- why no column can hold it
abbrev pub alone_why : Alone → List ℕ
alone_why it = if it.is_high then codes " points is higher than any column: nothing is legal while it stands there.\n"
    else codes " points has no place: no area takes its class, and nothing is legal while it stands there.\n"

abbrev pub alone_key : Alone → List ℕ
alone_key it = if it.is_high then codes "\",\"cause\":\"high\"}" else codes "\",\"cause\":\"no place\"}"

-- a float that no column can hold, and by itself forbids every pagination
abbrev pub alone_text : Form → Option Alone → List ℕ
alone_text form None = []
alone_text Plain (Some it) = codes "A float of " ++ (scaled_text it.size ++ (alone_why it ++ []))
alone_text Json (Some it) = codes ",\"alone\":{\"size\":\"" ++ (scaled_text it.size ++ (alone_key it ++ []))

-- the class of a note above its limit
abbrev pub note_class : Form → HighNote → List ℕ
note_class Plain it = codes "A note of class " ++ (decimal it.class ++ [])
note_class Json it = codes ",\"note\":{\"class\":" ++ (decimal it.class ++ [])

-- its size
abbrev pub note_size : Form → HighNote → List ℕ
note_size Plain it = codes " is " ++ (scaled_text it.size ++ (codes " points high" ++ []))
note_size Json it = codes ",\"size\":\"" ++ (scaled_text it.size ++ (codes "\"" ++ []))

-- the limit of its class, between words
abbrev pub limit_text : List ℕ → HighNote → List ℕ → List ℕ
limit_text front it end = front ++ (scaled_text it.limit ++ (end ++ []))

-- what its class may take
abbrev pub note_limit : Form → HighNote → List ℕ
note_limit Plain it =
    limit_text (codes ", and its class may take ") it (codes " in a column: nothing is legal while it stands there.\n")
note_limit Json it = limit_text (codes ",\"limit\":\"") it (codes "\"}")

-- a note above the limit of its class, which by itself forbids every pagination
abbrev pub some_note : Form → HighNote → List ℕ
some_note form it = note_class form it ++ note_size form it ++ note_limit form it

unfoldable pub note_text : Form → Option HighNote → List ℕ
note_text form None = []
note_text form (Some it) = some_note form it

-- what the limit of a class is called
abbrev pub limit_name : ℕ → List ℕ
limit_name class = codes "limit of class " ++ (decimal class ++ [])

-- what the entries of a class are called
abbrev pub distance_name : ℕ → List ℕ
distance_name class = codes "distance entries of class " ++ (decimal class ++ [])

-- the key of a number
abbrev pub number_name : Number → List ℕ
number_name Tolerance = codes "tolerance"
number_name Looseness = codes "max_looseness"
number_name LeastText = codes "min_text"
number_name Height = codes "height"
number_name TopCount = codes "top.count"
number_name BottomCount = codes "bottom.count"
number_name WideCount = codes "wide.count"
number_name ColumnCount = codes "float_column.count"
number_name (Limit index class) = limit_name class
number_name (Distance index class) = distance_name class

-- a number that is a length
abbrev pub is_length : Number → Bool
is_length LeastText = true
is_length Height = true
is_length (Limit index class) = true
is_length number = false

-- a value as a style has it: a length in points, in quotes
abbrev pub value_text : Bool → ℕ → List ℕ
value_text true value = codes "\"" ++ (scaled_text (pos value) ++ (codes "\"" ++ []))
value_text false value = decimal value ++ []

-- what stands before the key of a change
abbrev pub change_head : Form → Bool → List ℕ
change_head Plain is_first = codes "  "
change_head Json true = codes "{\"key\":\""
change_head Json false = codes ",{\"key\":\""

-- what stands before its value
abbrev pub change_middle : Form → List ℕ
change_middle Plain = codes " = "
change_middle Json = codes "\",\"value\":"

-- whether it is the least
abbrev pub change_end : Form → Bool → List ℕ
change_end Plain true = codes ", the least change\n"
change_end Plain false = codes ", tried\n"
change_end Json true = codes ",\"least\":true}"
change_end Json false = codes ",\"least\":false}"

-- the key of a change
unfoldable pub change_key : Form → Bool → Number → List ℕ
change_key form is_first number = change_head form is_first ++ number_name number

-- its value
unfoldable pub change_value : Form → Change → List ℕ
change_value form it = change_middle form ++ value_text (is_length it.number) it.value ++ change_end form it.is_least

-- a number with a value under which something is legal
abbrev pub change_text : Form → Bool → Change → List ℕ
change_text form is_first it = change_key form is_first it.number ++ change_value form it

abbrev pub changes_from : Form → Bool → List Change → List ℕ
changes_from form is_first [] = []
changes_from form is_first (it ∷ changes) = change_text form is_first it ++ changes_from form false changes

-- what stands before the changes
abbrev pub changes_head : Form → List Change → List ℕ
changes_head Plain [] = codes "No number of the style that was tried helps by itself.\n"
changes_head Plain (it ∷ changes) = codes "What would help, all else as it is:\n"
changes_head Json changes = codes ",\"changes\":["

-- what stands behind them
abbrev pub changes_end : Form → List ℕ
changes_end Plain = []
changes_end Json = codes "]"

-- the changes of one number that help
unfoldable pub changes_text : Form → List Change → List ℕ
changes_text form changes = changes_head form changes ++ changes_from form true changes ++ changes_end form

-- what stands before two changes
abbrev pub pair_head : Form → List ℕ
pair_head Plain = codes "These would help together:\n"
pair_head Json = codes ",\"together\":["

-- two changes that help together
unfoldable pub pair_lines : Form → Pair → List ℕ
pair_lines form it = pair_head form ++ change_text form true it.one ++ change_text form false it.other

-- the same, with what stands behind them
abbrev pub some_pair : Form → Pair → List ℕ
some_pair form it = pair_lines form it ++ changes_end form

-- two changes that help together, if there are two
unfoldable pub pair_text : Form → Option Pair → List ℕ
pair_text form None = []
pair_text form (Some it) = some_pair form it

-- what would help
unfoldable pub help_text : Form → Helping → List ℕ
help_text form it = changes_text form it.changes.items ++ pair_text form it.together

-- where beginnings come to an end: the furthest place of one, and the page and column that would begin there
abbrev pub standing_text : Form → Standing → List ℕ
standing_text Plain standing = codes "Pages come as far as block " ++ (decimal standing.at.block
    ++ (codes ", where column " ++ (decimal standing.column ++ (codes " of page " ++ (decimal standing.page ++ [])))))
standing_text Json standing = codes ",\"furthest\":{\"block\":"
    ++ (decimal standing.at.block ++ (codes ",\"variant\":" ++ (decimal standing.at.variant ++ (codes ",\"index\":"
    ++ (decimal standing.at.index ++ (codes ",\"column\":" ++ (decimal standing.column ++ (codes ",\"page\":"
    ++ (decimal standing.page ++ [])))))))))

-- that no pagination is legal
abbrev pub illegal_text : Form → List ℕ
illegal_text Plain = codes "pg_tell: no legal pagination\n"
illegal_text Json = codes "{\"version\":1,\"status\":1,\"said\":\"no legal pagination\""

-- that nothing is legal, and the float and the note that forbid all, if there are some
unfoldable pub why_text : Form → Findings → List ℕ
why_text form found = illegal_text form ++ alone_text form found.alone ++ note_text form found.note

-- what it begins with where no pagination is legal: a float and a note that forbid all, if there are some; changes that
-- help; and where beginnings come to an end
unfoldable pub none_front : Form → Findings → List ℕ
none_front form found =
    why_text form found ++ help_text form found.helping ++ standing_text form found.standing

-- a text begins so
abbrev pub Begins : List ℕ → List ℕ → Type 0
Begins front text = (rest : List ℕ) × (text ≡ front ++ rest)

-- the line that is said where nothing can be told
abbrev pub own_line : Ending → List ℕ
own_line ending.Usage = codes "usage: pg_tell [--json] [--wrap N] STYLE GALLEY, or pg_tell --help\n"
own_line ending.WriteFault = codes "pg_tell: output failed\n"
own_line ending.Memory = codes "pg_tell: out of memory\n"
own_line cause = []
