-- Sizes of digits, up to a cap.
use Rattle.std.proofs.Common.{◌≡◌, ◌≤◌, ◌<◌, ◌+◌, ◌-◌, ◌*◌, ◌^◌, ℕ, length, take, min, get_or, arith, List}
use Rattle.std.specs.Str.Parse.{digits_value}
use Rattle.std.proofs.lemmas.Int.Digits.{digits_value_more}
use Rattle.pg_scaled.proofs.DigitLemmas.{digit_value_ascii}

-- the size so far, with one more digit
pub size_step : (digits : List ℕ) (i size tenfold digit more : ℕ) → i < length digits → 48 ≤ get_or digits i 0 →
    get_or digits i 0 ≤ 57 → size ≡ min (digits_value 10 (take i digits)) (2 ^ 128 - 1) →
    tenfold ≡ min (size * 10) (2 ^ 128 - 1) → digit ≡ get_or digits i 0 - 48 →
    more ≡ min (tenfold + digit) (2 ^ 128 - 1) → more ≡ min (digits_value 10 (take (i + 1) digits)) (2 ^ 128 - 1)
size_step digits i size tenfold digit more l low high e ten d sum =
    let next = digits_value_more 10 digits i l in
    let one = digit_value_ascii (get_or digits i 0) low high in
    omega (arith, next, one, e, ten, d, sum)
