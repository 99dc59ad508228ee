-- Pieces of a text that is told, plain or as JSON.
use Rattle.std.specs.Prelude.{ℕ, ◌+◌, ◌/◌, ◌%◌, ◌==◌, ◌||◌, nat_lt, if◌then◌else◌, List, [], ◌∷◌, codes, decimal}
use Rattle.std.specs.List.{flat_map}
use Rattle.std.specs.Str.{is_utf8}
use Rattle.pg_scaled.specs.Scaled.{scaled_text}
use Rattle.pg_words.specs.Written.{whole_text}
use Rattle.pg_pieces.specs.declared.letters.Form.{Form}
use Rattle.pg_pieces.specs.declared.letters.Form.TheVariants.{Plain, Json}
use Rattle.pg_pieces.specs.declared.letters.Letters.{Letters}
use Rattle.pg_pieces.specs.declared.letters.Letters.TheVariants as letters
use Rattle.pg_pieces.specs.declared.piece.Piece.{Piece}
use Rattle.pg_pieces.specs.declared.piece.Piece.TheVariants.{Mark, Words, Text, Count, Length, Number}

-- a byte of a plain text: a tab is a blank, and other controls are question marks
abbrev pub plain_byte : ℕ → List ℕ
plain_byte c = if c == 9 then 32 ∷ [] else if nat_lt c 32 || c == 127 then 63 ∷ [] else c ∷ []

-- a byte within a string: a quote and a backslash stand behind a backslash
abbrev pub string_byte : ℕ → List ℕ
string_byte c = if c == 34 then 92 ∷ 34 ∷ [] else if c == 92 then 92 ∷ 92 ∷ [] else plain_byte c

-- a digit of base 16
abbrev pub hex_digit : ℕ → ℕ
hex_digit n = if nat_lt n 10 then 48 + n else 87 + n

-- a byte within a string, of a text that is no UTF-8: above 127 by its number
abbrev pub latin_byte : ℕ → List ℕ
latin_byte c =
    if nat_lt 127 c then 92 ∷ 117 ∷ 48 ∷ 48 ∷ hex_digit (c / 16) ∷ hex_digit (c % 16) ∷ [] else string_byte c

-- a byte as it is written
abbrev pub letter_text : Letters → ℕ → List ℕ
letter_text letters.Shown c = plain_byte c
letter_text letters.Quoted c = string_byte c
letter_text letters.Numbered c = latin_byte c

-- a byte of words, which lose their backquotes
abbrev pub word_text : Letters → ℕ → List ℕ
word_text kind c = if c == 96 then [] else letter_text kind c

-- how the letters of a text are written
abbrev pub letters_of : Form → List ℕ → Letters
letters_of Plain text = letters.Shown
letters_of Json text = if is_utf8 text then letters.Quoted else letters.Numbered

-- how the words of the program are written
abbrev pub word_letters : Form → Letters
word_letters Plain = letters.Shown
word_letters Json = letters.Quoted

-- what a piece puts into the text
abbrev pub piece_text : Form → Piece → List ℕ
piece_text form (Mark text) = text.now
piece_text form (Words text) = flat_map (word_text (word_letters form)) text.now
piece_text form (Text text) = flat_map (letter_text (letters_of form text.now)) text.now
piece_text form (Count number) = decimal number
piece_text form (Length length) = scaled_text length
piece_text form (Number number) = whole_text number

-- pieces in turn
abbrev pub pieces_text : Form → List Piece → List ℕ
pieces_text form pieces = flat_map (piece_text form) pieces
