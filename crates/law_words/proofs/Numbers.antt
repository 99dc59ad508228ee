-- Printed numbers are words, and say what was printed.
use Rattle.std.proofs.Common.{◌≡◌, refl, sym, ap, subst, ◌∙◌, ◌<◌, ◌+◌, ◌/◌, ◌%◌, ◌^◌, ℕ, zero, suc, Bool, true, false, List, [], ◌∷◌, ◌++◌, length, arith, append-nil, inl, inr}
use Rattle.std.proofs.lemmas.Bool.Decides.{nat_tests}
use Rattle.std.proofs.lemmas.Bool.{cases_lt}
use Rattle.std.proofs.lemmas.Fmt.{decimal_is_IsNumeral_wide, decimal_step_wide, decimal_digit}
use Rattle.std.specs.Prelude.{◌==◌, not, decimal, Some}
use Rattle.pg_lemmas.proofs.Numbers.{less_of}
use Rattle.pg_lemmas.proofs.Numbers.{eq_refl}
use Rattle.pg_scaled.specs.Digits.{digit_count}
use Rattle.pg_scaled.proofs.ReadsBack.{AreDigits, from_all_digits, count_here}
use Rattle.pg_words.specs.Read.{numeral, number_below, has_no_zero_in_front}

-- the first byte is there and no 0
abbrev pub begins_above_zero : List ℕ → Bool
begins_above_zero [] = false
begins_above_zero (c ∷ cs) = not (c == 48)

begins_append : (a b : List ℕ) → begins_above_zero a ≡ true → begins_above_zero (a ++ b) ≡ true
begins_append [] b h = absurd cc
begins_append (c ∷ cs) b h = h

begins : (fuel n : ℕ) → n < fuel → 0 < n → n < 10 ^ 64 → begins_above_zero (decimal n) ≡ true
begins zero n less some wide = absurd (omega arith)
begins (suc fuel) n less some wide = elim (cases_lt n 10) [
  | inl small ↦ rw (decimal_digit n small) (differ n some)
  | inr large ↦ rw (decimal_step_wide n large wide) (begins_append (decimal (n / 10)) ((48 + n % 10) ∷ [])
      (begins fuel (n / 10) (omega arith) (omega arith) (omega arith)))
]
  where
    differ : (n : ℕ) → 0 < n → not (48 + n == 48) ≡ true
    differ n some = grind (arith, nat_tests)

no_zero : (ds : List ℕ) → begins_above_zero ds ≡ true → has_no_zero_in_front ds ≡ true
no_zero [] h = absurd cc
no_zero (c ∷ []) h = refl
no_zero (c ∷ d ∷ ds) h = h

pub no_zero_in_front : (n : ℕ) → n < 10 ^ 64 → has_no_zero_in_front (decimal n) ≡ true
no_zero_in_front n wide = elim (cases_lt 0 n) [
  | inl some ↦ no_zero (decimal n) (begins (n + 1) n (omega arith) some wide)
  | inr none ↦ let zero : n ≡ 0 = omega arith in
      subst (λ (k : ℕ). has_no_zero_in_front (decimal k) ≡ true) (sym zero) (rw (decimal_digit 0 (omega arith)) refl)
]

pub decimal_digits : (n : ℕ) → n < 10 ^ 64 → AreDigits (decimal n)
decimal_digits n wide = from_all_digits (decimal n) (decimal_is_IsNumeral_wide n wide).0.1

pub all_count : (ds : List ℕ) → AreDigits ds → digit_count ds ≡ length ds
all_count ds each = ap digit_count (sym (append-nil ds)) ∙ count_here ds [] each refl

pub numeral_reads : (n : ℕ) → n < 10 ^ 64 → numeral (decimal n) ≡ Some (decimal n)
unfolding numeral
numeral_reads n wide =
    let counted : (digit_count (decimal n) == length (decimal n)) ≡ true =
    rw (all_count (decimal n) (decimal_digits n wide)) (eq_refl (length (decimal n))) in
    rw (no_zero_in_front n wide, counted) refl

pub number_reads : (bound n : ℕ) → n < bound → n < 10 ^ 64 → number_below bound (decimal n) ≡ Some n
unfolding number_below
number_reads bound n less wide =
    rw (numeral_reads n wide, (decimal_is_IsNumeral_wide n wide).1, less_of n bound less) refl
