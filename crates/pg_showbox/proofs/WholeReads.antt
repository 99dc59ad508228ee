-- A printed whole number reads back.
use Rattle.std.proofs.Common.{◌≡◌, ◌∙◌, ◌<◌, ◌^◌, ℕ, suc, ap, arith, List, [], ◌∷◌, ◌++◌, refl, length, true, false, Bool}
use Rattle.std.specs.Prelude.{ℤ, pos, negsuc, neg_ℤ, nat_abs, int_le, Ok, Some, None, codes, decimal, ◌==◌}
use Rattle.std.specs.Fmt.{signed_decimal}
use Rattle.std.specs.Str.Parse.{digits_value}
use Rattle.std.proofs.lemmas.Fmt.{decimal_is_IsNumeral}
use Rattle.std.proofs.lemmas.List.{take_at, drop_at}
use Rattle.std.proofs.lemmas.Bool.Decides.{nat_tests}
use Rattle.pg_scaled.specs.Digits.{digit_count}
use Rattle.pg_scaled.specs.Scaled.{signed}
use Rattle.pg_scaled.proofs.ReadsBack.{AreDigits, count_here, from_all_digits}
use Rattle.pg_showbox.specs.Parts.{ranged, digits_at, whole_at}
use Rattle.pg_scan.specs.Parts.{after}

digits_read : (low high : ℤ) (minus : Bool) (ds rest : List ℕ) → AreDigits ds → 0 < length ds → digit_count rest ≡ 0
    → digits_at low high minus (ds ++ rest) ≡ ranged low high (signed minus (digits_value 10 ds)) rest
unfolding digits_at
digits_read low high minus ds rest each some none =
    let count = count_here ds rest each none in
    let test : (length ds == 0) ≡ false = grind (arith, nat_tests) in
    rw (count, test, take_at ds rest (length ds) refl, drop_at ds rest (length ds) refl) refl

in_range : (low high value : ℤ) (rest : List ℕ) → int_le low value ≡ true → int_le value high ≡ true
    → ranged low high value rest ≡ Ok (value, rest)
in_range low high value rest below above = rw (below, above) refl

no_minus : (ds rest : List ℕ) → AreDigits ds → 0 < length ds → after (codes "-") (ds ++ rest) ≡ None
unfolding after
no_minus [] rest each some = absurd (omega arith)
no_minus (d ∷ ds) rest each some = let test : (d == 45) ≡ false = grind (arith, nat_tests) in rw test refl

a_minus : (rest : List ℕ) → after (codes "-") (45 ∷ rest) ≡ Some rest
unfolding after
a_minus rest = refl

pub whole_reads : (low high value : ℤ) (rest : List ℕ) → nat_abs value < 2 ^ 63 → int_le low value ≡ true
    → int_le value high ≡ true → digit_count rest ≡ 0
    → whole_at low high (signed_decimal value ++ rest) ≡ Ok (value, rest)
unfolding whole_at
whole_reads low high (pos n) rest small below above none =
    let numeral = decimal_is_IsNumeral n (omega arith) in
    let each = from_all_digits (decimal n) numeral.0.1 in
    rw (no_minus (decimal n) rest each numeral.0.0)
    (digits_read low high false (decimal n) rest each numeral.0.0 none
    ∙ ap (λ (m : ℕ). ranged low high (pos m) rest) numeral.1 ∙ in_range low high (pos n) rest below above)
whole_reads low high (negsuc n) rest small below above none =
    let numeral = decimal_is_IsNumeral (suc n) (omega arith) in
    let each = from_all_digits (decimal (suc n)) numeral.0.1 in
    rw (a_minus (decimal (suc n) ++ rest))
    (digits_read low high true (decimal (suc n)) rest each numeral.0.0 none
    ∙ ap (λ (m : ℕ). ranged low high (neg_ℤ (pos m)) rest) numeral.1
    ∙ in_range low high (negsuc n) rest below above)
