-- Printed whole numbers read back.
use Rattle.std.proofs.Common.{◌≡◌, refl, subst, ◌<◌, ◌≤◌, ◌^◌, ◌-◌, ℕ, suc, true, false, List, [], ◌∷◌, ◌++◌, length, arith, append-nil}
use Rattle.std.proofs.lemmas.Bool.Decides.{nat_tests}
use Rattle.std.proofs.lemmas.Fmt.{decimal_is_IsNumeral_wide}
use Rattle.std.specs.Prelude.{◌==◌, nat_lt, decimal, Some, None, ℤ, pos, negsuc, int_le}
use Rattle.pg_lemmas.proofs.Bools.{both_of}
use Rattle.pg_lemmas.proofs.Numbers.{less_true}
use Rattle.pg_words.specs.Written.{whole_text}
use Rattle.pg_words.specs.Read.{whole_word, negative_word, positive_word, behind_minus}
use Rattle.pg_scaled.proofs.ReadsBack.{AreDigits}
use Rattle.law_words.specs.Ranges.{is_wide}
use Rattle.law_words.proofs.Numbers.{decimal_digits, numeral_reads}

-- what begins with a digit has no minus in front
pub no_minus : (ds rest : List ℕ) → AreDigits ds → 0 < length ds → behind_minus (ds ++ rest) ≡ None
no_minus [] rest each some = absurd (omega arith)
no_minus (d ∷ ds) rest each some =
    let e : (d == 45) ≡ false = differ d each.0 in rw e refl
  where
    differ : (d : ℕ) → 48 ≤ d → (d == 45) ≡ false
    differ d low = grind (arith, nat_tests)

pub some_digit : (n : ℕ) → n < 10 ^ 64 → 0 < length (decimal n)
some_digit n wide = (decimal_is_IsNumeral_wide n wide).0.0

pub no_minus_in_front : (n : ℕ) → n < 10 ^ 64 → behind_minus (decimal n) ≡ None
no_minus_in_front n wide = subst (λ (ds : List ℕ). behind_minus ds ≡ None) (append-nil (decimal n))
    (no_minus (decimal n) [] (decimal_digits n wide) (some_digit n wide))

pub wide_size : (n : ℕ) → is_wide (pos n) ≡ true → n < 2 ^ 127
wide_size n h = less_true n (2 ^ 127) (both_of true (nat_lt n (2 ^ 127)) h).1

pub wide_negative : (n : ℕ) → is_wide (negsuc n) ≡ true → suc n ≤ 2 ^ 127
wide_negative n h = by n (both_of (int_le (negsuc (2 ^ 127 - 1)) (negsuc n)) true h).0
  where
    by : (n : ℕ) → int_le (negsuc (2 ^ 127 - 1)) (negsuc n) ≡ true → suc n ≤ 2 ^ 127
    by n h = grind (arith, nat_tests)

pub whole_reads : (z : ℤ) → is_wide z ≡ true → whole_word (whole_text z) ≡ Some z
unfolding whole_word negative_word positive_word
whole_reads (pos n) h =
    let small : n < 10 ^ 64 = omega (arith, wide_size n h) in
    rw (
      no_minus_in_front n small,
      numeral_reads n small,
      (decimal_is_IsNumeral_wide n small).1,
      h,
    ) refl
whole_reads (negsuc n) h =
    let small : suc n < 10 ^ 64 = omega (arith, wide_negative n h) in
    rw (numeral_reads (suc n) small, (decimal_is_IsNumeral_wide (suc n) small).1, h) refl

pub decimal_reads : (n : ℕ) → n < 2 ^ 127 → whole_word (decimal n) ≡ Some (pos n)
decimal_reads n small = whole_reads (pos n) (by n small)
  where
    by : (n : ℕ) → n < 2 ^ 127 → nat_lt n (2 ^ 127) ≡ true
    by n small = grind (arith, nat_tests)
