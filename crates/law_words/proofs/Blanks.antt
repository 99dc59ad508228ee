-- The text of any number is digits, so no blank and no line feed stands in it.
use Rattle.std.proofs.Common.{◌≡◌, refl, ◌<◌, ◌≤◌, ◌+◌, ◌*◌, ◌/◌, ◌%◌, ℕ, zero, suc, Bool, true, false, List, [], ◌∷◌, ◌++◌, arith}
use Rattle.std.proofs.lemmas.Bool.Decides.{nat_tests}
use Rattle.std.specs.Prelude.{◌==◌, decimal, if◌then◌else◌, ℤ, pos, negsuc}
use Rattle.std.specs.Fmt.{digits, digits_onto, digit_glyph}
use Rattle.pg_scaled.specs.Scaled.{scaled_text, size_text, fraction_digits}
use Rattle.pg_scaled.proofs.ReadsBack.{AreDigits, all_digits}
use Rattle.pg_words.specs.Written.{whole_text, counts_text, further_text}
use Rattle.law_words.proofs.Cut.{lacks, lacks_append, digits_lack}
use Rattle.law_words.proofs.Words.{behind_lacks}

glyph : (d : ℕ) → d < 10 → (48 ≤ digit_glyph false d) × (digit_glyph false d ≤ 57)
glyph d small = (grind (arith, nat_tests), grind (arith, nat_tests))

onto_digits : (k n : ℕ) (acc : List ℕ) → AreDigits acc → AreDigits (digits_onto k 10 false n acc)
onto_digits zero n acc h = h
onto_digits (suc k) n acc h =
    let g = glyph (n % 10) (omega arith) in
    let here : AreDigits (digit_glyph false (n % 10) ∷ acc) = (g.0, g.1, h) in
    by (n / 10 == 0) (digit_glyph false (n % 10) ∷ acc)
    (digits_onto k 10 false (n / 10) (digit_glyph false (n % 10) ∷ acc)) here
    (onto_digits k (n / 10) (digit_glyph false (n % 10) ∷ acc) here)
  where
    by : (b : Bool) (x y : List ℕ) → AreDigits x → AreDigits y → AreDigits (if b then x else y)
    by true x y p q = p
    by false x y p q = q

pub any_digits : (n : ℕ) → AreDigits (decimal n)
unfolding digits
any_digits n = onto_digits 64 n [] tt

pub any_decimal_lacks : (s n : ℕ) → s < 44 → lacks s (decimal n) ≡ true
any_decimal_lacks s n low = digits_lack s (omega arith) (decimal n) (any_digits n)

pub any_whole_lacks : (s : ℕ) (z : ℤ) → s < 44 → lacks s (whole_text z) ≡ true
any_whole_lacks s (pos n) low = any_decimal_lacks s n low
any_whole_lacks s (negsuc n) low = behind_lacks s 45 (decimal (suc n)) (omega arith) (any_decimal_lacks s (suc n) low)

any_size_lacks : (s n : ℕ) → s < 44 → lacks s (size_text n) ≡ true
any_size_lacks s n low =
    let fraction = fraction_digits 5 (10 * (n % 65536) + 5) 10 in
    let close = all_digits (10 * (n % 65536) + 5) (omega arith) (omega arith) in
    lacks_append s (decimal (n / 65536)) (46 ∷ fraction) (any_decimal_lacks s (n / 65536) low)
    (behind_lacks s 46 fraction (omega arith) (digits_lack s (omega arith) fraction close.digits))

pub any_scaled_lacks : (s : ℕ) (z : ℤ) → s < 44 → lacks s (scaled_text z) ≡ true
any_scaled_lacks s (pos n) low = any_size_lacks s n low
any_scaled_lacks s (negsuc n) low = behind_lacks s 45 (size_text (suc n)) (omega arith) (any_size_lacks s (suc n) low)

any_further_lacks : (s : ℕ) (ns : List ℕ) → s < 44 → lacks s (further_text ns) ≡ true
any_further_lacks s [] low = refl
any_further_lacks s (n ∷ ns) low = behind_lacks s 44 (decimal n ++ further_text ns) low
    (lacks_append s (decimal n) (further_text ns) (any_decimal_lacks s n low) (any_further_lacks s ns low))

pub any_counts_lack : (s : ℕ) (ns : List ℕ) → s < 44 → lacks s (counts_text ns) ≡ true
any_counts_lack s [] low = behind_lacks s 45 [] (omega arith) refl
any_counts_lack s (n ∷ ns) low = lacks_append s (decimal n) (further_text ns)
    (any_decimal_lacks s n low) (any_further_lacks s ns low)
