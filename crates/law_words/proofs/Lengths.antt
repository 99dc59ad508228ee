-- Printed scaled numbers read back, of a size of at most 2^60.
use Rattle.std.proofs.Common.{◌≡◌, refl, ap, ◌∙◌, ◌≤◌, ◌+◌, ◌*◌, ◌/◌, ◌%◌, ◌^◌, ℕ, suc, true, List, ◌∷◌, ◌++◌, length, take, drop, arith}
use Rattle.std.proofs.lemmas.Bool.{le-leb}
use Rattle.std.proofs.lemmas.List.{take_at, drop_at}
use Rattle.std.proofs.lemmas.Fmt.{decimal_is_IsNumeral_wide}
use Rattle.std.specs.Prelude.{◌==◌, nat_le, decimal, Option, Some, ℤ, pos, negsuc, nat_abs}
use Rattle.pg_scaled.specs.Digits.{digit_count, fraction_of, size_of}
use Rattle.pg_scaled.specs.Scaled.{after_point, fraction_digits, scaled_text, size_text}
use Rattle.pg_scaled.proofs.ReadsBack.{AreDigits, all_digits, count_here, fraction_reads}
use Rattle.pg_words.specs.Read.{scaled_word, value_word, size_word, size_behind, if_digits, if_small, ◌>>=◌}
use Rattle.law_words.proofs.Equal.{same_bytes}
use Rattle.pg_lemmas.proofs.Numbers.{eq_refl}
use Rattle.law_words.proofs.Numbers.{all_count, decimal_digits}
use Rattle.law_words.proofs.Wholes.{no_minus, some_digit}

size_is : (n : ℕ) → n ≤ 2 ^ 60 → size_of (decimal (n / 65536)) (fraction_digits 5 (10 * (n % 65536) + 5) 10) ≡ n
size_is n small =
    let numeral = decimal_is_IsNumeral_wide (n / 65536) (omega arith) in
    ap (λ (k : ℕ). 65536 * k + fraction_of (fraction_digits 5 (10 * (n % 65536) + 5) 10)) numeral.1
    ∙ ap (λ (k : ℕ). 65536 * (n / 65536) + k) (fraction_reads (n % 65536) (omega arith)) ∙ omega arith

small_size : (n : ℕ) → n ≤ 2 ^ 60 → if_small n ≡ Some n
small_size n small = let least : nat_le n (2 ^ 60) ≡ true = le-leb n (2 ^ 60) small in rw least refl

digits_are : (ds : List ℕ) → AreDigits ds → if_digits ds ≡ Some ds
digits_are ds each =
    let counted : (digit_count ds == length ds) ≡ true = rw (all_count ds each) (eq_refl (length ds)) in rw counted refl

-- the text of a size says it
size_reads : (n : ℕ) → n ≤ 2 ^ 60 → size_word (size_text n) ≡ Some n
unfolding size_word size_behind
size_reads n small =
    let whole = decimal (n / 65536) in
    let fraction = fraction_digits 5 (10 * (n % 65536) + 5) 10 in
    let each = decimal_digits (n / 65536) (omega arith) in
    let close = all_digits (10 * (n % 65536) + 5) (omega arith) (omega arith) in
    let count : digit_count (whole ++ 46 ∷ fraction) ≡ length whole = count_here whole (46 ∷ fraction) each refl in
    let taken : take (digit_count (whole ++ 46 ∷ fraction)) (whole ++ 46 ∷ fraction) ≡ whole =
    rw count (take_at whole (46 ∷ fraction) (length whole) refl) in
    let dropped : drop (digit_count (whole ++ 46 ∷ fraction)) (whole ++ 46 ∷ fraction) ≡ 46 ∷ fraction =
    rw count (drop_at whole (46 ∷ fraction) (length whole) refl) in
    ap (λ (d : List ℕ). after_point d >>= size_behind (take (digit_count (whole ++ 46 ∷ fraction))
    (whole ++ 46 ∷ fraction))) dropped
    ∙ ap (λ (t : List ℕ). size_behind t fraction) taken
    ∙ ap (λ (o : Option (List ℕ)). o >>= (λ (digits : List ℕ). if_small (size_of whole digits)))
    (digits_are fraction close.digits)
    ∙ ap if_small (size_is n small) ∙ small_size n small

pub scaled_reads : (z : ℤ) → nat_abs z ≤ 2 ^ 60 → scaled_word (scaled_text z) ≡ Some z
unfolding scaled_word value_word
scaled_reads (pos n) small =
    let each = decimal_digits (n / 65536) (omega arith) in
    let none = no_minus (decimal (n / 65536)) (46 ∷ fraction_digits 5 (10 * (n % 65536) + 5) 10) each
    (some_digit (n / 65536) (omega arith)) in
    rw (none, size_reads n small, same_bytes (size_text n)) refl
scaled_reads (negsuc n) small = rw (size_reads (suc n) small, same_bytes (size_text (suc n))) refl
