-- What a word says: each in the one spelling in which it is written.
use Rattle.std.specs.Prelude.{ℕ, ◌==◌, ◌^◌, ◌-◌, ◌&&◌, Bool, true, false, not, nat_lt, nat_le, int_le, int_lt, if◌then◌else◌, List, [], ◌∷◌, length, take, drop, codes, Option, Some, None, ℤ, pos, negsuc}
use Rattle.std.specs.Option.{option_map, option_map_or}
use Rattle.std.specs.Str.{bytes_eq}
use Rattle.std.specs.Str.Parse.{digits_value}
use Rattle.pg_plan.specs.declared.states.Side.{Side}
use Rattle.pg_plan.specs.declared.states.Side.TheVariants.{L, R, S}
use Rattle.pg_scaled.specs.Digits.{digit_count, size_of}
use Rattle.pg_scaled.specs.Scaled.{after_point, scaled_text, signed}
use Rattle.pg_scan.specs.Parts.{parts_of}

-- what is read of what was read
infixl 10 ◌>>=◌
abbrev pub ◌>>=◌ : {A B : Type 0} → Option A → (A → Option B) → Option B
None >>= f = None
(Some x) >>= f = f x

-- the value, where the test holds
abbrev pub if_true : {A : Type 0} → Bool → A → Option A
if_true true x = Some x
if_true false x = None

-- ---- numbers

-- one byte, or more that begin with no 0
abbrev pub has_no_zero_in_front : List ℕ → Bool
has_no_zero_in_front [] = false
has_no_zero_in_front (c ∷ []) = true
has_no_zero_in_front (c ∷ d ∷ ds) = not (c == 48)

-- the word, where it is digits alone
abbrev pub if_digits : List ℕ → Option (List ℕ)
if_digits word = if_true (digit_count word == length word) word

-- the word, where it is digits without a 0 in front of others
unfoldable pub numeral : List ℕ → Option (List ℕ)
numeral word = if_true (has_no_zero_in_front word) word >>= if_digits

-- the number, where it is below the bound
abbrev pub if_below : ℕ → ℕ → Option ℕ
if_below bound n = if_true (nat_lt n bound) n

-- a number below a bound
unfoldable pub number_below : ℕ → List ℕ → Option ℕ
number_below bound word = numeral word >>= (λ digits. if_below bound (digits_value 10 digits))

-- what stands behind a minus
abbrev pub behind_minus : List ℕ → Option (List ℕ)
behind_minus [] = None
behind_minus (c ∷ cs) = if_true (c == 45) cs

-- within 128 bits
abbrev pub if_wide : ℤ → Option ℤ
if_wide z = if_true (int_le (negsuc (2 ^ 127 - 1)) z && int_lt z (pos (2 ^ 127))) z

-- the number, where it is below 0
abbrev pub if_below_zero : ℤ → Option ℤ
if_below_zero z = if_true (int_lt z (pos 0)) z

-- digits behind a minus
unfoldable pub negative_word : List ℕ → Option ℤ
negative_word word = numeral word >>= (λ digits. if_below_zero (signed true (digits_value 10 digits)) >>= if_wide)

-- digits alone
unfoldable pub positive_word : List ℕ → Option ℤ
positive_word word = numeral word >>= (λ digits. if_wide (pos (digits_value 10 digits)))

-- a whole number within 128 bits, without `-0`
unfoldable pub whole_word : List ℕ → Option ℤ
whole_word word = option_map_or negative_word (behind_minus word) (positive_word word)

-- ---- scaled numbers

-- at most 2^60 units
abbrev pub if_small : ℕ → Option ℕ
if_small size = if_true (nat_le size (2 ^ 60)) size

-- the size with these digits in front of a point, and what stands behind it
unfoldable pub size_behind : List ℕ → List ℕ → Option ℕ
size_behind whole fraction = if_digits fraction >>= (λ digits. if_small (size_of whole digits))

-- a size of at most 2^60 units: digits, a point, digits
unfoldable pub size_word : List ℕ → Option ℕ
size_word text = after_point (drop (digit_count text) text) >>= size_behind (take (digit_count text) text)

-- the value of a word, in whatever spelling
unfoldable pub value_word : List ℕ → Option ℤ
value_word word = option_map_or (λ size. option_map (signed true) (size_word size)) (behind_minus word)
    (option_map (signed false) (size_word word))

-- a scaled number of a size of at most 2^60 units, as it is printed
unfoldable pub scaled_word : List ℕ → Option ℤ
scaled_word word = value_word word >>= (λ z. if_true (bytes_eq (scaled_text z) word) z)

-- ---- lists, and what may be absent

-- what each of the words says, where each says something
abbrev pub all_words : {A : Type 0} → (List ℕ → Option A) → List (List ℕ) → Option (List A)
all_words says [] = Some []
all_words says (word ∷ words) = says word >>= (λ x. all_words says words >>= (λ xs. Some (x ∷ xs)))

-- `-`, or numbers joined by commas
unfoldable pub numbers_word : ℕ → List ℕ → Option (List ℕ)
numbers_word bound word =
    if bytes_eq word (codes "-") then Some [] else all_words (number_below bound) (parts_of 44 word)

-- `-` for none
abbrev pub option_word : {A : Type 0} → (List ℕ → Option A) → List ℕ → Option (Option A)
option_word says word = if bytes_eq word (codes "-") then Some None else option_map (λ x. Some x) (says word)

-- ---- letters

-- the letter of a side
unfoldable pub side_word : List ℕ → Option Side
side_word word =
    if bytes_eq word (codes "L") then Some L
    else if bytes_eq word (codes "R") then Some R
    else if bytes_eq word (codes "S") then Some S
    else None

-- the number of a column: 1 or 2
unfoldable pub column_word : List ℕ → Option ℕ
column_word word =
    if bytes_eq word (codes "1") then Some 1
    else if bytes_eq word (codes "2") then Some 2
    else None
