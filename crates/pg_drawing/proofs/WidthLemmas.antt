-- The points of a width, digit by digit.
use Rattle.std.proofs.Common.{◌≡◌, ◌≤◌, ◌<◌, ◌+◌, ◌-◌, ◌*◌, ◌^◌, ℕ, length, take, min, get_or, arith, List}
use Rattle.std.specs.Str.Parse.{digits_value}
use Rattle.std.proofs.lemmas.Int.Digits.{digits_value_more}
use Rattle.pg_scaled.proofs.DigitLemmas.{digit_value_ascii}

pub points_step : (digits : List ℕ) (i points : ℕ) → i < length digits → 48 ≤ get_or digits i 0 →
    get_or digits i 0 ≤ 57 → points ≡ min (digits_value 10 (take i digits)) (2 ^ 104) →
    min (10 * points + (get_or digits i 0 - 48)) (2 ^ 104) ≡ min (digits_value 10 (take (i + 1) digits)) (2 ^ 104)
points_step digits i points l low high e =
    let next = digits_value_more 10 digits i l in
    let one = digit_value_ascii (get_or digits i 0) low high in
    omega (arith, next, one, e)
