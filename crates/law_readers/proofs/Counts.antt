-- The count of labels is the text of a number.
use Rattle.std.proofs.Common.{◌≡◌, refl, ap, subst, arith, ℕ, ◌+◌, ◌<◌, ◌^◌, Bool, true, false, List, [], ◌∷◌, length, get_or}
use Rattle.std.specs.Prelude.{◌==◌, cond, codes, decimal, not, Option, Some, None}
use Rattle.std.specs.Char.{is_ascii_digit}
use Rattle.std.specs.Str.Parse.{AllDigits, digits_value}
use Rattle.std.proofs.lemmas.Bool.{eqb-true}
use Rattle.std.proofs.lemmas.Fmt.{decimal-digits_value}
use Rattle.std.proofs.lemmas.Str.Parse.{numerals_by_value, tells_digits}
use Rattle.pg_lemmas.proofs.Bools.{not_both}
use Rattle.pg_lemmas.proofs.Numbers.{eq_yes}
use Rattle.pg_scaled.specs.Digits.{digit_count}
use Rattle.pg_scaled.proofs.DigitLemmas.{digit_range, digit_value_ascii}
use Rattle.pg_words.specs.InOrder.{due, next}
use Rattle.pg_words.specs.Read.{◌>>=◌, has_no_zero_in_front, if_digits, if_true, numeral}
use Rattle.pg_labels.specs.LabelLines.{count_of, fitness_told}

-- digits without a 0 in front of others
pub record IsNumeralWord (word : List ℕ) : Type 0 where
  pub no_zero : has_no_zero_in_front word ≡ true
  pub digits : digit_count word ≡ length word

-- what a chain that says something has read first
pub read_first : {A B : Type 0} (o : Option A) (f : A → Option B) (y : B) → (o >>= f) ≡ Some y →
    (x : A) × (o ≡ Some x) × (f x ≡ Some y)
read_first None f y e = absurd cc
read_first (Some x) f y e = (x, refl, e)

numeral_word : (word said : List ℕ) → numeral word ≡ Some said → IsNumeralWord said
unfolding numeral
numeral_word word said e = outer (has_no_zero_in_front word) refl e
  where
    inner : has_no_zero_in_front word ≡ true → (b : Bool) → (digit_count word == length word) ≡ b →
        if_true b word ≡ Some said → IsNumeralWord said
    inner first true all e =
        let same : word ≡ said = cc in
        subst IsNumeralWord same (record { no_zero = first; digits = eqb-true (digit_count word) (length word) all })
    inner first false all e = absurd cc

    outer : (b : Bool) → has_no_zero_in_front word ≡ b → (if_true b word >>= if_digits) ≡ Some said →
        IsNumeralWord said
    outer true first e = inner first (digit_count word == length word) refl e
    outer false first e = absurd cc

next_numeral : (words : List (List ℕ)) (it : List ℕ × List (List ℕ)) → next numeral words ≡ Some it →
    IsNumeralWord it.0
next_numeral [] it e = absurd cc
next_numeral (word ∷ words) it e = by (numeral word) refl e
  where
    by : (o : Option (List ℕ)) → numeral word ≡ o →
        next (λ _. o) (word ∷ words) ≡ Some it → IsNumeralWord it.0
    by None is e = absurd cc
    by (Some said) is e =
        let same : (said, words) ≡ it = cc in
        subst (λ (x : List ℕ × List (List ℕ)). IsNumeralWord x.0) same (numeral_word word said is)

pub count_numeral : (words : List (List ℕ)) (it : Bool × List ℕ) → count_of words ≡ Some it → IsNumeralWord it.1
unfolding count_of
count_numeral words it e =
    let (head, _, behind) = read_first (due (codes "labels") words) (λ head. next numeral head
    >>= (λ count. fitness_told count.1 >>= (λ fitness. Some (fitness, count.0)))) it e in
    let (count, is, last) = read_first (next numeral head)
    (λ (count : List ℕ × List (List ℕ)). fitness_told count.1 >>= (λ fitness. Some (fitness, count.0))) it behind in
    let (fitness, _, end) = read_first (fitness_told count.1) (λ fitness. Some (fitness, count.0)) it last in
    let same : (fitness, count.0) ≡ it = cc in
    subst (λ (x : Bool × List ℕ). IsNumeralWord x.1) same (next_numeral head count is)

-- a word that is digits alone
all_digits : (word : List ℕ) → digit_count word ≡ length word → AllDigits 10 word
all_digits [] e = tt
all_digits (c ∷ cs) e = by (λ f. all_digits cs f) (is_ascii_digit c) refl e
  where
    by : (digit_count cs ≡ length cs → AllDigits 10 cs) → (b : Bool) → is_ascii_digit c ≡ b →
        cond b (1 + digit_count cs) 0 ≡ length (c ∷ cs) → AllDigits 10 (c ∷ cs)
    by on true digit e =
        let range = digit_range c digit in
        let value = digit_value_ascii c range.0 range.1 in
        (omega (arith, range.0, range.1, value), on (omega (arith, e)))
    by on false digit e = absurd (omega (arith, e))

some_word : (word : List ℕ) → has_no_zero_in_front word ≡ true → 0 < length word
some_word [] h = absurd cc
some_word (c ∷ cs) h = omega arith

one_zero : (word : List ℕ) → has_no_zero_in_front word ≡ true → get_or word 0 0 ≡ 48 → length word ≡ 1
one_zero [] h first = absurd cc
one_zero (c ∷ []) h first = refl
one_zero (c ∷ d ∷ ds) h first =
    let same : (c == 48) ≡ true = eq_yes c 48 first in
    let other : not (c == 48) ≡ false = ap not same in
    absurd (not_both (not (c == 48)) h other)

-- such a word is what is printed of its number
pub numeral_printed : (word : List ℕ) → IsNumeralWord word → digits_value 10 word < 2 ^ 64 →
    decimal (digits_value 10 word) ≡ word
numeral_printed word is small =
    decimal-digits_value (numerals_by_value (AllDigits 10) tells_digits) word (all_digits word is.digits)
    (some_word word is.no_zero) (one_zero word is.no_zero) small
