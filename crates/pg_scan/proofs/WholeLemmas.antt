-- Whole numbers, up to a cap.
use Rattle.std.proofs.Common.{◌≡◌, ◌≤◌, ◌<◌, ◌+◌, ◌-◌, ◌*◌, ◌^◌, ℕ, length, take, min, get_or, arith, List}
use Rattle.std.specs.Str.Parse.{digits_value}
use Rattle.std.proofs.lemmas.Int.Digits.{digits_value_more}
use Rattle.pg_scaled.proofs.DigitLemmas.{digit_value_ascii}

-- the value so far, with one more digit
pub value_step : (digits : List ℕ) (i value : ℕ) → i < length digits → 48 ≤ get_or digits i 0 → get_or digits i 0 ≤ 57
    → value ≡ min (digits_value 10 (take i digits)) (2 ^ 32)
    → min (10 * value + (get_or digits i 0 - 48)) (2 ^ 32) ≡ min (digits_value 10 (take (i + 1) digits)) (2 ^ 32)
value_step digits i value l low high e =
    let more = digits_value_more 10 digits i l in
    let one = digit_value_ascii (get_or digits i 0) low high in
    omega (arith, more, one, e)
