-- The widths that a page text prints: scaled numbers of a size below 2^120 units, in whatever spelling.
use Rattle.std.specs.Prelude.{ℕ, ◌^◌, nat_le, nat_lt, nat_abs, int_lt, if◌then◌else◌, true, false, List, take, drop, Option, ℤ, pos, neg_ℤ}
use Rattle.std.specs.Option.{option_map, option_map_or}
use Rattle.pg_scaled.specs.Digits.{digit_count, size_of}
use Rattle.pg_scaled.specs.Scaled.{after_point, signed}
use Rattle.pg_words.specs.Read.{◌>>=◌, behind_minus, if_digits, if_true}

-- below 2^120 units, as all that is printed is
abbrev pub if_printed : ℕ → Option ℕ
if_printed size = if_true (nat_lt size (2 ^ 120)) size

-- the size with these digits in front of a point, and what stands behind it
unfoldable pub printed_behind : List ℕ → List ℕ → Option ℕ
printed_behind whole fraction = if_digits fraction >>= (λ digits. if_printed (size_of whole digits))

-- digits, a point, digits
unfoldable pub printed_size : List ℕ → Option ℕ
printed_size text = after_point (drop (digit_count text) text) >>= printed_behind (take (digit_count text) text)

-- a width, with or without a minus
unfoldable pub width_word : List ℕ → Option ℤ
width_word text = option_map_or (λ size. option_map (signed true) (printed_size size)) (behind_minus text)
    (option_map (signed false) (printed_size text))

-- at most 2^60 units, as a total is
abbrev pub if_length : ℤ → Option ℤ
if_length width = if_true (nat_le (nat_abs width) (2 ^ 60)) width

-- such a width
unfoldable pub length_word : List ℕ → Option ℤ
length_word text = width_word text >>= if_length

-- the nearest width of at most 2^60 units, up or down
abbrev pub nearest : ℤ → ℤ
nearest width = if int_lt (pos (2 ^ 60)) width then pos (2 ^ 60)
    else (if int_lt width (neg_ℤ (pos (2 ^ 60))) then neg_ℤ (pos (2 ^ 60)) else width)
