-- The signs that a log shows behind a font, as print has them: in UTF-8, whatever the font.
use Rattle.std.specs.Prelude.{ℕ, ◌*◌, ◌-◌, ◌&&◌, Bool, nat_le, if◌then◌else◌, List, [], ◌∷◌, take, drop, Option, Some, None, codes, encode_utf8_all}
use Rattle.std.specs.List.{list_all}
use Rattle.std.specs.Str.{bytes_eq}
use Rattle.pg_drawing.specs.Pieces.{has_front}
use Rattle.pg_words.specs.Read.{if_true}

-- ‘ is at 152 among the signs of general punctuation, ’ at 153, “ at 156, ” at 157, „ at 158, – at 147 and — at 148
abbrev pub punctuation : ℕ → List ℕ
punctuation c = 226 ∷ 128 ∷ c ∷ []

-- TeX's quotes in print
unfoldable pub quote_in_print : List ℕ → List ℕ
quote_in_print made =
    if bytes_eq made (codes "`") then punctuation 152
    else if bytes_eq made (codes "'") then punctuation 153
    else if bytes_eq made (codes "``") then punctuation 156
    else if bytes_eq made (codes "''") then punctuation 157
    else if bytes_eq made (codes ",,") then punctuation 158
    else made

-- its dashes and quotes in print, other signs as they are
unfoldable pub in_print : List ℕ → List ℕ
in_print made =
    if bytes_eq made (codes "--") then punctuation 147
    else if bytes_eq made (codes "---") then punctuation 148
    else quote_in_print made

-- ---- fonts of T1, which is 256 signs by number

-- those from 128 on: each has two bytes
abbrev pub t1_letters : List ℕ
t1_letters = encode_utf8_all (codes "ĂĄĆČĎĚĘĞĹĽŁŃŇŊŐŔŘŚŠŞŤŢŰŮŸŹŽŻĲİđ§ăąćčďěęğĺľłńňŋőŕřśšşťţűůÿźžżĳ¡¿£ÀÁÂÃÄÅÆÇÈÉÊËÌÍÎÏÐÑÒÓÔÕÖŒØÙÚÛÜÝÞSSàáâãäåæçèéêëìíîïðñòóôõöœøùúûüýþß")

-- the letter of a byte
abbrev pub t1_letter : ℕ → List ℕ
t1_letter c = take 2 (drop (2 * (c - 128)) t1_letters)

-- the font is one of T1
abbrev pub is_t1 : List ℕ → Bool
is_t1 font = has_front (codes "\\T1/") font

-- its quotes and dashes, which a log shows by number
unfoldable pub t1_mark : List ℕ → Option (List ℕ)
t1_mark sign =
    if bytes_eq sign (codes "^^P") then Some (punctuation 156)
    else if bytes_eq sign (codes "^^Q") then Some (punctuation 157)
    else if bytes_eq sign (codes "^^R") then Some (punctuation 158)
    else if bytes_eq sign (codes "^^S") then Some (194 ∷ 171 ∷ [])
    else if bytes_eq sign (codes "^^T") then Some (194 ∷ 187 ∷ [])
    else if bytes_eq sign (codes "^^U") then Some (punctuation 147)
    else if bytes_eq sign (codes "^^V") then Some (punctuation 148)
    else None

-- ---- one sign

-- a byte of UTF-8 behind the first of its sign
abbrev pub is_behind : ℕ → Bool
is_behind c = nat_le 128 c && nat_le c 191

-- a byte of ASCII that is seen, or a letter of T1
abbrev pub byte_sign : List ℕ → ℕ → Option (List ℕ)
byte_sign font c = if nat_le 33 c && nat_le c 126 then Some (c ∷ [])
    else if_true (nat_le 128 c && is_t1 font) (t1_letter c)

-- a sign of UTF-8, or one of T1 by number
abbrev pub wide_sign : List ℕ → List ℕ → Bool → Option (List ℕ)
wide_sign font sign is_utf8 = if is_utf8 then Some sign else if is_t1 font then t1_mark sign else None

-- what a font and one sign show; beyond ASCII a sign is one of UTF-8, or of T1
abbrev pub sign_of : List ℕ → List ℕ → Option (List ℕ)
sign_of font [] = None
sign_of font (c ∷ []) = byte_sign font c
sign_of font (c ∷ d ∷ ds) = wide_sign font (c ∷ d ∷ ds) (nat_le 194 c && list_all is_behind (d ∷ ds))
