-- Texts within strings of JSON.
use Rattle.std.specs.Prelude.{◌≡◌, ℕ, ◌==◌, if◌then◌else◌, Bool, true, false, List, [], ◌∷◌, ◌++◌, Option, Some, None}
use Rattle.std.specs.List.{flat_map}
use Rattle.pg_pieces.specs.Pieces.{letter_text, letters_of, word_letters, word_text}
use Rattle.pg_pieces.specs.declared.letters.Form.TheVariants.{Json}

-- of a text that begins within a string, behind a backslash or not, what stands behind the string's end
abbrev pub behind_string : Bool → List ℕ → Option (List ℕ)
behind_string marked [] = None
behind_string true (c ∷ rest) = behind_string false rest
behind_string false (c ∷ rest) = if c == 34 then Some rest else behind_string (c == 92) rest

-- whatever a text of a file holds, its string ends where the quote behind it stands
abbrev pub TextsStayWithin : Type 0
TextsStayWithin = (text rest : List ℕ) →
    behind_string false (flat_map (letter_text (letters_of Json text)) text ++ (34 ∷ rest)) ≡ Some rest

-- and so do the words of the program
abbrev pub WordsStayWithin : Type 0
WordsStayWithin = (text rest : List ℕ) →
    behind_string false (flat_map (word_text (word_letters Json)) text ++ (34 ∷ rest)) ≡ Some rest
