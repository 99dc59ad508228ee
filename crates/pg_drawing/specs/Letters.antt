-- The letters that an item shows, read off the lines behind its first.
use Rattle.std.specs.Prelude.{ℕ, ◌==◌, ◌&&◌, ◌-◌, ◌++◌, Bool, not, nat_lt, if◌then◌else◌, List, [], ◌∷◌, length, take, drop, Option, Some, None, is_some, codes}
use Rattle.std.specs.List.{prefix_len}
use Rattle.std.specs.Str.{bytes_eq}
use Rattle.pg_drawing.specs.Pieces.{Lines}
use Rattle.pg_drawing.specs.Signs.{in_print, sign_of}
use Rattle.pg_scan.specs.Parts.{after, named}
use Rattle.pg_words.specs.InOrder.{any_word, due, ended, next, words_of}
use Rattle.pg_words.specs.Read.{◌>>=◌}

-- a font and a letter
unfoldable pub letter : List (List ℕ) → Option (List ℕ)
letter words = do
  font ← next any_word words
  sign ← next any_word font.1
  _ ← ended sign.1
  if bytes_eq font.0 (codes "\\penalty") then None else sign_of font.0 sign.0

-- a font, a sign, and in brackets what the sign was made of
unfoldable pub ligature : List (List ℕ) → Option (List ℕ)
ligature words = do
  font ← next any_word words
  sign ← next any_word font.1
  made ← due (codes "(ligature") sign.1
  whole ← next any_word made
  _ ← ended whole.1
  Some (take (length whole.0 - 1) whole.0)

-- what is there, or nothing
abbrev pub or_nothing : Option (List ℕ) → List ℕ
or_nothing None = []
or_nothing (Some letters) = letters

-- one of two, or nothing
abbrev pub either : Option (List ℕ) → Option (List ℕ) → List ℕ
either None other = or_nothing other
either (Some letters) other = letters

-- what a line shows behind its points: a letter or a ligature in print, or a blank for glue
unfoldable pub letters_at : List ℕ → List ℕ
letters_at bytes = if is_some (named (codes "\\glue") bytes) then codes " "
    else in_print (either (letter (words_of bytes)) (ligature (words_of bytes)))

-- ---- rows

-- a point
abbrev pub is_point : ℕ → Bool
is_point c = c == 46

-- what stands behind the points of a line
abbrev pub behind_points : List ℕ → List ℕ
behind_points line = drop (prefix_len is_point line) line

-- a line is within a box whose own line has so many points, of which there is none at 0
abbrev pub is_within : ℕ → ℕ → Bool
is_within outer points = nat_lt 0 outer && nat_lt outer points

-- a line begins with this name behind its points
abbrev pub has_name : List ℕ → List ℕ → Bool
has_name name line = is_some (named name (behind_points line))

-- how many points the line has that is open behind a line, where lines of this name open, or 0
abbrev pub open_behind : List ℕ → ℕ → List ℕ → ℕ
open_behind name outer line = if is_within outer (prefix_len is_point line) then outer
    else if has_name name line then prefix_len is_point line else 0

-- the box of a row that is open behind a line
abbrev pub row_behind : ℕ → List ℕ → ℕ
row_behind row line = open_behind (codes "\\hbox") row line

-- the place for a hyphen that is open behind a line; what is within it is not seen
abbrev pub hyphen_behind : ℕ → List ℕ → ℕ
hyphen_behind hyphen line = open_behind (codes "\\discretionary") hyphen line

-- what a line shows that is seen: a new row where a box begins that is within no other, else its letters
abbrev pub seen_letters : ℕ → List ℕ → List ℕ
seen_letters row line = if not (is_within row (prefix_len is_point line)) && has_name (codes "\\hbox") line then 10 ∷ []
    else if is_some (after (codes "\\") (behind_points line)) then letters_at (behind_points line) else []

-- what a line shows
abbrev pub line_letters : ℕ → ℕ → List ℕ → List ℕ
line_letters row hyphen line = if is_within hyphen (prefix_len is_point line) then [] else seen_letters row line

-- what lines show, where a box of a row and a place for a hyphen are open
abbrev pub rows_in : ℕ → ℕ → List (List ℕ) → List ℕ
rows_in row hyphen [] = []
rows_in row hyphen (line ∷ lines) =
    line_letters row hyphen line ++ rows_in (row_behind row line) (hyphen_behind hyphen line) lines

-- the letters of an item, with a line feed in front of each row but the one that its own line begins
abbrev pub letters : Lines → List ℕ
letters item = rows_in (row_behind 0 item.head) 0 item.rest
