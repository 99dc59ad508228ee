-- Parts of a line of the notation, read from its front, with the kind of the first fault from the left. A reading is a
-- value and the bytes after it.
use Rattle.std.specs.Prelude.{◌≡◌, ℕ, ◌==◌, ◌&&◌, Bool, true, false, List, [], ◌∷◌, take, drop, min, Option, Some, None, Result, Ok, Err, ℤ, int_le, nat_le, if◌then◌else◌, codes}
use Rattle.std.specs.Str.Parse.{digits_value}
use Rattle.pg_scaled.specs.Digits.{digit_count}
use Rattle.pg_scaled.specs.declared.read.Front.{Front}
use Rattle.pg_scaled.specs.declared.read.Front.TheVariants.{Value, NotNumber, TooLarge}
use Rattle.pg_scaled.specs.Scaled.{scaled_value, signed}
use Rattle.pg_list.specs.declared.item.Order.{Order}
use Rattle.pg_list.specs.declared.item.Order.TheVariants.{Finite, Fil, Fill, Filll}
use Rattle.pg_scan.specs.Parts.{after, on}
use Rattle.pg_showbox.specs.declared.kinds.ListKind.{ListKind}
use Rattle.pg_showbox.specs.declared.kinds.ListKind.TheVariants.{BadLine, BadNumber, OutOfRange, RunningSize}

infixl 10 ◌>>=◌
abbrev pub ◌>>=◌ : {A B : Type 0} → Result A ListKind → (A → Result B ListKind) → Result B ListKind
(Ok x) >>= f = f x
(Err e) >>= f = Err e

-- the answer, seen by a view
abbrev pub Answers : {X Y : Type 0} → (X → Y) → Result X ListKind → Result Y ListKind → Type 0
Answers view (Ok x) said = said ≡ Ok (view x)
Answers view (Err kind) said = said ≡ Err kind

abbrev pub or_bad : Option (List ℕ) → Result (List ℕ) ListKind
or_bad None = Err BadLine
or_bad (Some bytes) = Ok bytes

-- fixed text that is due
unfoldable pub due : List ℕ → List ℕ → Result (List ℕ) ListKind
due text bytes = or_bad (after text bytes)

-- a scaled number in range
abbrev pub size_from : Front → List ℕ → Result (ℤ × List ℕ) ListKind
size_from (Value value len) bytes = Ok (value, drop len bytes)
size_from NotNumber bytes = Err BadNumber
size_from (TooLarge len) bytes = Err OutOfRange

unfoldable pub size_at : List ℕ → Result (ℤ × List ℕ) ListKind
size_at bytes = size_from (scaled_value bytes) bytes

-- the bytes after a scaled number of any size
abbrev pub past_from : Front → List ℕ → Result (List ℕ) ListKind
past_from (Value value len) bytes = Ok (drop len bytes)
past_from NotNumber bytes = Err BadNumber
past_from (TooLarge len) bytes = Ok (drop len bytes)

unfoldable pub past_size : List ℕ → Result (List ℕ) ListKind
past_size bytes = past_from (scaled_value bytes) bytes

-- a size of a rule, which is not `*`
unfoldable pub fixed_size : List ℕ → Result (ℤ × List ℕ) ListKind
fixed_size [] = Err BadNumber
fixed_size (c ∷ cs) = if c == 42 then Err RunningSize else size_at (c ∷ cs)

-- the width of a rule
unfoldable pub past_width : List ℕ → Result (List ℕ) ListKind
past_width [] = Err BadNumber
past_width (c ∷ cs) = if c == 42 then Ok cs else (size_at (c ∷ cs) >>= (λ size. Ok size.1))

-- the number of these digits, and the bytes after them
abbrev pub ranged : ℤ → ℤ → ℤ → List ℕ → Result (ℤ × List ℕ) ListKind
ranged low high value rest = if int_le low value && int_le value high then Ok (value, rest) else Err OutOfRange

unfoldable pub digits_at : ℤ → ℤ → Bool → List ℕ → Result (ℤ × List ℕ) ListKind
digits_at low high minus bytes = if digit_count bytes == 0 then Err BadNumber
    else ranged low high (signed minus (digits_value 10 (take (digit_count bytes) bytes)))
    (drop (digit_count bytes) bytes)

-- a whole number with an optional minus, from low to high
unfoldable pub whole_at : ℤ → ℤ → List ℕ → Result (ℤ × List ℕ) ListKind
whole_at low high bytes = on (after (codes "-") bytes) (digits_at low high true) (digits_at low high false bytes)

-- a class of at most three digits
unfoldable pub class_at : List ℕ → Result (ℕ × List ℕ) ListKind
class_at bytes = if digit_count bytes == 0 then Err BadNumber
    else (if nat_le (digits_value 10 (take (min (digit_count bytes) 3) bytes)) 254
    then Ok (digits_value 10 (take (min (digit_count bytes) 3) bytes), drop (min (digit_count bytes) 3) bytes)
    else Err OutOfRange)

-- the order of infinity behind a number
unfoldable pub order_at : List ℕ → Order × List ℕ
order_at bytes = on (after (codes "filll") bytes) (λ rest. (Filll, rest))
    (on (after (codes "fill") bytes) (λ rest. (Fill, rest))
    (on (after (codes "fil") bytes) (λ rest. (Fil, rest)) (Finite, bytes)))
