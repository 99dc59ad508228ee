-- Text within markup, and pieces of a page.
use Rattle.std.specs.Prelude.{ℕ, ◌==◌, ◌||◌, ◌+◌, ◌*◌, ◌/◌, ◌%◌, ◌++◌, nat_lt, nat_abs, int_lt, if◌then◌else◌, List, [], ◌∷◌, ℤ, pos, codes, decimal}
use Rattle.std.specs.List.{flat_map}
use Rattle.pg_scaled.specs.Scaled.{scaled_text}
use Rattle.pg_words.specs.Written.{whole_text}
use Rattle.pg_draw.specs.declared.pieces.Piece.{Piece}
use Rattle.pg_draw.specs.declared.pieces.Piece.TheVariants.{Markup, Text, Count, Length, Points, Number}

-- a byte of a text as it stands within markup: none that begins or ends a tag or a value, and no control
abbrev pub escaped : ℕ → List ℕ
escaped c = if c == 38 then codes "&amp;"
    else if c == 60 then codes "&lt;"
    else if c == 62 then codes "&gt;"
    else if c == 34 then codes "&quot;"
    else if nat_lt c 32 || c == 127 then codes "?"
    else c ∷ []

-- the tenths of a point that are nearest to a length
abbrev pub tenths_in : ℤ → ℕ
tenths_in length = (nat_abs length * 10 + 32768) / 65536

-- tenths with a point in front of the last digit
abbrev pub tenths_text : ℕ → List ℕ
tenths_text tenths = (decimal (tenths / 10) ++ codes ".") ++ decimal (tenths % 10)

-- scaled points to the nearest tenth of a point
abbrev pub points_text : ℤ → List ℕ
points_text length = (if int_lt length (pos 0) then codes "-" else []) ++ tenths_text (tenths_in length)

-- what a piece puts into the page
abbrev pub piece_text : Piece → List ℕ
piece_text (Markup text) = text.now
piece_text (Text text) = flat_map escaped text.now
piece_text (Count number) = decimal number
piece_text (Length length) = scaled_text length
piece_text (Points length) = points_text length
piece_text (Number number) = whole_text number

-- pieces in turn
abbrev pub pieces_text : List Piece → List ℕ
pieces_text pieces = flat_map piece_text pieces
