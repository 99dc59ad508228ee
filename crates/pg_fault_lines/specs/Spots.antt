-- Lines of a file that are told.
use Rattle.std.specs.Prelude.{ℕ, Bool, false, ◌==◌, ◌||◌, if◌then◌else◌, List, [], ◌∷◌, drop, Option, Some, None}
use Rattle.std.specs.List.{prefix_len, starts_with}
use Rattle.std.specs.Option.{option_map_or}
use Rattle.pg_scan.specs.Lines.{Line, joined, raw_lines}

-- of lines with numbers, the text of the one with this number
abbrev pub numbered : ℕ → List Line → Option (List ℕ)
numbered number [] = None
numbered number (line ∷ lines) = if line.number == number then Some line.text else numbered number lines

-- the line of a text with this number, joined with what follows it where it is of the full width
unfoldable pub line_at : Option ℕ → ℕ → List ℕ → Option (List ℕ)
line_at wrap number text = numbered number (joined wrap 1 (raw_lines text))

-- a blank or a tab
abbrev pub is_blank : ℕ → Bool
is_blank c = (c == 32) || (c == 9)

-- a line without the blanks in front
abbrev pub behind_blanks : List ℕ → List ℕ
behind_blanks line = drop (prefix_len is_blank line) line

-- a line that begins with this word, behind its blanks
abbrev pub begins_with : List ℕ → List ℕ → Bool
begins_with word line = starts_with ◌==◌ (behind_blanks line) word

-- a line that begins with the key, with its table, or with a bracket, as the head of a table
abbrev pub is_about : List ℕ → List ℕ → List ℕ → Bool
is_about table key line = begins_with key line || begins_with table line || begins_with (91 ∷ []) line

-- the line of this number is about the key
abbrev pub tells_of : List ℕ → List ℕ → List ℕ → ℕ → Bool
tells_of table key text number = option_map_or (is_about table key) (line_at None number text) false
