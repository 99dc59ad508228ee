-- What a text holds cannot end a string.
use Rattle.std.proofs.Common.{◌≡◌, refl, ap, ◌∙◌, ◌++◌, ◌+◌, ◌<◌, ℕ, Bool, true, false, List, [], ◌∷◌, append_assoc, arith}
use Rattle.std.specs.Prelude.{◌==◌, ◌||◌, ◌/◌, ◌%◌, nat_lt, if◌then◌else◌, Option, Some, None}
use Rattle.std.specs.List.{flat_map}
use Rattle.std.specs.Str.{is_utf8}
use Rattle.pg_lemmas.proofs.Bools.{by_bool}
use Rattle.pg_pieces.specs.declared.letters.Letters.{Letters}
use Rattle.pg_pieces.specs.declared.letters.Letters.TheVariants as letters
use Rattle.pg_pieces.specs.Pieces.{hex_digit, latin_byte, letter_text, plain_byte, string_byte, word_text}
use Rattle.pg_pieces.specs.Strings.{behind_string, TextsStayWithin, WordsStayWithin}

-- bytes that a string takes whole, whatever stands behind them
abbrev Passes : List ℕ → Type 0
Passes bytes = (tail : List ℕ) → behind_string false (bytes ++ tail) ≡ behind_string false tail

-- a byte that is neither a quote nor a backslash
plain : (a b : Bool) (u w : Option (List ℕ)) (f : Bool → Option (List ℕ)) → a ≡ false → b ≡ false → f false ≡ w →
    (if a then u else f b) ≡ w
plain true b u w f p q h = absurd cc
plain false true u w f p q h = absurd cc
plain false false u w f p q h = h

one_byte : (c : ℕ) → (c == 34) ≡ false → (c == 92) ≡ false → Passes (c ∷ [])
one_byte c p q tail = plain (c == 34) (c == 92) (Some tail) (behind_string false tail) (λ e. behind_string e tail) p q refl

shown : (c : ℕ) (tab low : Bool) → (c == 34) ≡ false → (c == 92) ≡ false →
    Passes (if tab then 32 ∷ [] else if low then 63 ∷ [] else c ∷ [])
shown c true low p q tail = refl
shown c false true p q tail = refl
shown c false false p q tail = one_byte c p q tail

quoted : (c : ℕ) (q s : Bool) → (c == 34) ≡ q → (c == 92) ≡ s →
    Passes (if q then 92 ∷ 34 ∷ [] else if s then 92 ∷ 92 ∷ [] else plain_byte c)
quoted c true s p r tail = refl
quoted c false true p r tail = refl
quoted c false false p r tail = shown c (c == 9) (nat_lt c 32 || c == 127) p r tail

string_passes : (c : ℕ) → Passes (string_byte c)
string_passes c = quoted c (c == 34) (c == 92) refl refl

digit_passes : (n : ℕ) (low : Bool) → nat_lt n 10 ≡ low → Passes ((if low then 48 + n else 87 + n) ∷ [])
digit_passes n true is tail = one_byte (48 + n) (grind arith) (grind arith) tail
digit_passes n false is tail = one_byte (87 + n) (grind arith) (grind arith) tail

numbered : (c : ℕ) (high : Bool) → Passes (if high then 92 ∷ 117 ∷ 48 ∷ 48 ∷ hex_digit (c / 16) ∷ hex_digit (c % 16) ∷ []
    else string_byte c)
numbered c false tail = string_passes c tail
numbered c true tail =
    digit_passes (c / 16) (nat_lt (c / 16) 10) refl (hex_digit (c % 16) ∷ tail)
    ∙ digit_passes (c % 16) (nat_lt (c % 16) 10) refl tail

latin_passes : (c : ℕ) → Passes (latin_byte c)
latin_passes c = numbered c (nat_lt 127 c)

all_pass : (f : ℕ → List ℕ) → ((c : ℕ) → Passes (f c)) → (text rest : List ℕ) →
    behind_string false (flat_map f text ++ (34 ∷ rest)) ≡ Some rest
all_pass f each [] rest = refl
all_pass f each (c ∷ text) rest =
    ap (behind_string false) (append_assoc (f c) (flat_map f text) (34 ∷ rest))
    ∙ (each c (flat_map f text ++ (34 ∷ rest)) ∙ all_pass f each text rest)

by_utf8 : (utf8 : Bool) (text rest : List ℕ) →
    behind_string false (flat_map (letter_text (if utf8 then letters.Quoted else letters.Numbered)) text ++ (34 ∷ rest))
    ≡ Some rest
by_utf8 true text rest = all_pass string_byte string_passes text rest
by_utf8 false text rest = all_pass latin_byte latin_passes text rest

pub texts : TextsStayWithin
texts text rest = by_utf8 (is_utf8 text) text rest

word_passes : (c : ℕ) (quote : Bool) → Passes (if quote then [] else string_byte c)
word_passes c true tail = refl
word_passes c false tail = string_passes c tail

pub words : WordsStayWithin
words text rest = all_pass (word_text letters.Quoted) (λ c. word_passes c (c == 96)) text rest
