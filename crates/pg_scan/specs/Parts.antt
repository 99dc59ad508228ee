-- Parts of a text, read from its front.
use Rattle.std.specs.Prelude.{ℕ, ◌==◌, ◌&&◌, Bool, false, not, List, [], ◌∷◌, length, take, drop, Option, Some, None, nat_le, if◌then◌else◌}
use Rattle.std.specs.Str.{bytes_eq}
use Rattle.std.specs.Str.Parse.{digits_value}
use Rattle.std.specs.Char.{is_ascii_alphabetic}
use Rattle.pg_scaled.specs.Digits.{digit_count}
use Rattle.pg_scan.specs.Lines.{onto_first}

-- a byte that is no separator
abbrev pub differs_from : ℕ → ℕ → Bool
differs_from separator c = not (c == separator)

-- the parts of a text between the bytes that separate them; one more than there are such bytes
unfoldable pub parts_of : ℕ → List ℕ → List (List ℕ)
parts_of separator [] = [] ∷ []
parts_of separator (c ∷ cs) = if c == separator then [] ∷ parts_of separator cs
    else onto_first c (parts_of separator cs)

-- the first of parts; nothing where there is none
abbrev pub first_part : List (List ℕ) → List ℕ
first_part [] = []
first_part (part ∷ parts) = part

-- the bytes after this text, where it stands in front
unfoldable pub after : List ℕ → List ℕ → Option (List ℕ)
after text bytes = if bytes_eq (take (length text) bytes) text then Some (drop (length text) bytes) else None

-- what is there, or all of it
abbrev pub or_all : List ℕ → Option (List ℕ) → List ℕ
or_all bytes None = bytes
or_all bytes (Some rest) = rest

-- fixed text that may be missing
unfoldable pub past : List ℕ → List ℕ → List ℕ
past text bytes = or_all bytes (after text bytes)

-- a letter stands in front
abbrev pub begins_with_letter : List ℕ → Bool
begins_with_letter [] = false
begins_with_letter (c ∷ cs) = is_ascii_alphabetic c

-- what stands behind, where no letter stands first there
abbrev pub unless_letter : Option (List ℕ) → Option (List ℕ)
unless_letter None = None
unless_letter (Some bytes) = if begins_with_letter bytes then None else Some bytes

-- the bytes after a name that no letter follows
unfoldable pub named : List ℕ → List ℕ → Option (List ℕ)
named name bytes = unless_letter (after name bytes)

-- what stands behind a text, or something else where it does not stand there
abbrev pub on : {A : Type 0} → Option (List ℕ) → (List ℕ → A) → A → A
on None f other = other
on (Some bytes) f other = f bytes

-- a number of a word has 1 to 10 digits
abbrev pub is_word_length : ℕ → Bool
is_word_length n = nat_le 1 n && nat_le n 10

-- the number of a word that is digits alone, where it is from low to high
unfoldable pub word_number : ℕ → ℕ → List ℕ → Option ℕ
word_number low high word =
    if digit_count word == length word && is_word_length (length word)
    then (if nat_le low (digits_value 10 word) && nat_le (digits_value 10 word) high then Some (digits_value 10 word)
    else None) else None
