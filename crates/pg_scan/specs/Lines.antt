-- The lines of a text.
use Rattle.std.specs.List.{AllByRecursion, flat_map}
use Rattle.std.specs.Prelude.{◌≡◌, ℕ, ◌+◌, IsTrue, Bool, false, not, List, [], ◌∷◌, ◌++◌, length, map, ◌==◌, if◌then◌else◌, Option, Some, None}

-- a byte that is no line feed
abbrev pub is_no_feed : ℕ → Bool
is_no_feed c = not (c == 10)

-- a byte in front of the first line
abbrev pub onto_first : ℕ → List (List ℕ) → List (List ℕ)
onto_first c [] = (c ∷ []) ∷ []
onto_first c (line ∷ lines) = (c ∷ line) ∷ lines

-- the lines without their line feeds; the last may lack its line feed
unfoldable pub lines_of : List ℕ → List (List ℕ)
lines_of [] = []
lines_of (c ∷ cs) = if c == 10 then [] ∷ lines_of cs else onto_first c (lines_of cs)

-- a line without the carriage returns at its end
abbrev pub in_front : ℕ → List ℕ → List ℕ
in_front c [] = if c == 13 then [] else c ∷ []
in_front c (d ∷ ds) = c ∷ d ∷ ds

-- a line without the carriage returns at its end
unfoldable pub trimmed : List ℕ → List ℕ
trimmed [] = []
trimmed (c ∷ cs) = in_front c (trimmed cs)

-- a line without a line feed, and without a carriage return at its end
pub record IsClean (line : List ℕ) : Type 0 where
  pub no_feed : AllByRecursion (λ c. IsTrue (is_no_feed c)) line
  pub no_return : trimmed line ≡ line

-- the lines of a text, trimmed
abbrev pub raw_lines : List ℕ → List (List ℕ)
raw_lines text = map trimmed (lines_of text)

-- a line with its number
pub record Line : Type 0 where
  pub number : ℕ
  pub text : List ℕ

-- the line is as long as the width at which lines were broken
abbrev pub is_full : Option ℕ → List ℕ → Bool
is_full None line = false
is_full (Some width) line = length line == width

-- a part in front of the first line, which takes the number of the part
abbrev pub merged : ℕ → List ℕ → List Line → List Line
merged n part [] = record { number = n; text = part } ∷ []
merged n part (line ∷ lines) = record { number = n; text = part ++ line.text } ∷ lines

-- lines with numbers, where a line of full width is joined with what follows it
unfoldable pub joined : Option ℕ → ℕ → List (List ℕ) → List Line
joined wrap n [] = []
joined wrap n (line ∷ lines) = if is_full wrap line then merged n line (joined wrap (n + 1) lines)
    else record { number = n; text = line } ∷ joined wrap (n + 1) lines

-- the line has a point in front
abbrev pub has_point : List ℕ → Bool
has_point [] = false
has_point (c ∷ cs) = c == 46

-- a point in front of each further line
abbrev pub dotted : List ℕ → List ℕ
dotted body = flat_map (λ (byte : ℕ). if byte == 10 then 10 ∷ 46 ∷ [] else byte ∷ []) body
