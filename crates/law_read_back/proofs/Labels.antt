-- A printed label reads back, and so do all.
use Rattle.std.proofs.Common.{◌≡◌, refl, sym, subst, ◌<◌, ◌≤◌, ◌+◌, ◌*◌, ◌/◌, ◌%◌, ◌^◌, ℕ, suc, Bool, true, false, List, [], ◌∷◌, ◌++◌, length, arith, append-nil, append_assoc, inl, inr, length-append}
use Rattle.std.proofs.lemmas.Bool.{cases_lt}
use Rattle.std.proofs.lemmas.Fmt.{decimal_digit}
use Rattle.std.specs.Prelude.{decimal, codes, Option, Some, ℤ, pos, negsuc, nat_abs}
use Rattle.std.specs.Str.{bytes_eq}
use Rattle.pg_plan.specs.declared.states.Label.{Label}
use Rattle.pg_plan.specs.declared.states.State.{State}
use Rattle.pg_scaled.specs.Scaled.{scaled_text, size_text, fraction_digits}
use Rattle.pg_words.specs.Written.{line, whole_text, counts_text, option_text, side_text}
use Rattle.pg_words.specs.Read.{number_below, option_word, scaled_word, column_word}
use Rattle.pg_labels.specs.LabelText.{label_place, label_page, label_room, label_floats, label_line}
use Rattle.pg_labels.specs.LabelText.{label_front as front_text, label_rest as rest_text}
use Rattle.pg_labels.specs.LabelLines.{label_of, label_front, label_rest, label_from}
use Rattle.law_words.proofs.Cut.{joined}
use Rattle.law_read_back.specs.Ranges.{IsPrintedLabel}
use Rattle.law_words.proofs.Equal.{same_bytes, no_dash}
use Rattle.law_words.proofs.Numbers.{decimal_digits, number_reads}
use Rattle.law_words.proofs.Wholes.{whole_reads, some_digit}
use Rattle.law_words.proofs.Lengths.{scaled_reads}
use Rattle.law_words.proofs.Words.{counts_read, option_reads, side_reads, place_reads}

abbrev pub fit_words : Bool → State → List (List ℕ) → List (List ℕ)
fit_words false u words = words
fit_words true u words = option_text decimal u.fitness ∷ words

-- the words of a label's line behind the first
abbrev pub rest_words : Bool → ℕ → Label → List (List ℕ)
rest_words fitness number label =
    decimal number ∷ decimal label.state.place.block ∷ decimal label.state.place.variant
    ∷ decimal label.state.place.index ∷ decimal label.state.column ∷ side_text label.state.side
    ∷ option_text decimal label.state.run ∷ option_text scaled_text label.state.wide
    ∷ fit_words fitness label.state (counts_text label.state.placed ∷ counts_text label.state.ages ∷ whole_text
    label.cost ∷ [])

-- the pieces of a label's line, regrouped
regrouped : (l n b v i c s r w f p a z e : List ℕ) →
    ((l ++ n ++ (b ++ v ++ i)) ++ (c ++ s ++ r)) ++ ((w ++ f) ++ (p ++ a)) ++ (z ++ e)
    ≡ (l ++ (n ++ (b ++ (v ++ (i ++ (c ++ (s ++ (r ++ (w ++ (f ++ (p ++ (a ++ z)))))))))))) ++ e
regrouped l n b v i c s r w f p a z e = simp append_assoc

pub label_line_is : (fitness : Bool) (number : ℕ) (label : Label) →
    label_line fitness number label ≡ line (joined 32 (codes "label" ∷ rest_words fitness number label))
unfolding label_place label_page label_room label_floats front_text rest_text label_line
label_line_is false number label = regrouped (codes "label ") (decimal number) (32 ∷ decimal label.state.place.block)
    (32 ∷ decimal label.state.place.variant) (32 ∷ decimal label.state.place.index) (32 ∷ decimal label.state.column)
    (32 ∷ side_text label.state.side) (32 ∷ option_text decimal label.state.run)
    (32 ∷ option_text scaled_text label.state.wide) [] (32 ∷ counts_text label.state.placed)
    (32 ∷ counts_text label.state.ages) (32 ∷ whole_text label.cost) (10 ∷ [])
label_line_is true number label = regrouped (codes "label ") (decimal number) (32 ∷ decimal label.state.place.block)
    (32 ∷ decimal label.state.place.variant) (32 ∷ decimal label.state.place.index) (32 ∷ decimal label.state.column)
    (32 ∷ side_text label.state.side) (32 ∷ option_text decimal label.state.run)
    (32 ∷ option_text scaled_text label.state.wide) (32 ∷ option_text decimal label.state.fitness)
    (32 ∷ counts_text label.state.placed)
    (32 ∷ counts_text label.state.ages) (32 ∷ whole_text label.cost) (10 ∷ [])

column_reads : (c : ℕ) → 1 ≤ c → c ≤ 2 → column_word (decimal c) ≡ Some c
unfolding column_word
column_reads c low high = elim (cases_lt c 2) [
  | inl one ↦ let is : c ≡ 1 = omega arith in subst (λ (k : ℕ). column_word (decimal k) ≡ Some k) (sym is)
      (rw (decimal_digit 1 (omega arith)) refl)
  | inr two ↦ let is : c ≡ 2 = omega arith in subst (λ (k : ℕ). column_word (decimal k) ≡ Some k) (sym is)
      (rw (decimal_digit 2 (omega arith)) refl)
]

decimal_option : (bound n : ℕ) → n < bound → bound ≤ 2 ^ 64 →
    (bytes_eq (decimal n) (codes "-") ≡ false) × (number_below bound (decimal n) ≡ Some n)
decimal_option bound n less small =
    let wide : n < 10 ^ 64 = omega arith in (
      subst (λ (t : List ℕ). bytes_eq t (codes "-") ≡ false) (append-nil (decimal n))
          (no_dash (decimal n) [] (decimal_digits n wide) (some_digit n wide)),
      number_reads bound n less wide,
    )

-- a scaled number is no minus
scaled_no_dash : (z : ℤ) → nat_abs z ≤ 2 ^ 60 → bytes_eq (scaled_text z) (codes "-") ≡ false
scaled_no_dash (pos n) small = no_dash (decimal (n / 65536)) (46 ∷ fraction_digits 5 (10 * (n % 65536) + 5) 10)
    (decimal_digits (n / 65536) (omega arith)) (some_digit (n / 65536) (omega arith))
scaled_no_dash (negsuc n) small = by (size_text (suc n)) (some_text (suc n))
  where
    by : (text : List ℕ) → 0 < length text → bytes_eq (45 ∷ text) (codes "-") ≡ false
    by [] some = absurd (omega arith)
    by (c ∷ cs) some = refl

    some_text : (k : ℕ) → 0 < length (size_text k)
    some_text k = omega (arith, length-append (decimal (k / 65536)) (46 ∷ fraction_digits 5 (10 * (k % 65536) + 5) 10))

run_reads : (o : Option ℕ) → ((n : ℕ) → o ≡ Some n → n < 2 ^ 8) →
    option_word (number_below (2 ^ 8)) (option_text decimal o) ≡ Some o
run_reads o h = option_reads (number_below (2 ^ 8)) decimal o
    (λ (n : ℕ) (e : o ≡ Some n). decimal_option (2 ^ 8) n (h n e) (omega arith))

fit_reads : (o : Option ℕ) → ((n : ℕ) → o ≡ Some n → n < 4) →
    option_word (number_below 4) (option_text decimal o) ≡ Some o
fit_reads o h = option_reads (number_below 4) decimal o
    (λ (n : ℕ) (e : o ≡ Some n). decimal_option 4 n (h n e) (omega arith))

wide_reads : (o : Option ℤ) → ((z : ℤ) → o ≡ Some z → nat_abs z ≤ 2 ^ 60) →
    option_word scaled_word (option_text scaled_text o) ≡ Some o
wide_reads o h = option_reads scaled_word scaled_text o
    (λ (z : ℤ) (e : o ≡ Some z). (scaled_no_dash z (h z e), scaled_reads z (h z e)))

pub label_reads : (fitness : Bool) (number : ℕ) (label : Label) → IsPrintedLabel fitness label →
    label_of fitness number (codes "label" ∷ rest_words fitness number label) ≡ Some label
unfolding label_of label_front label_rest label_from
label_reads false number label h =
    let u = label.state in
    rw (
      same_bytes (decimal number),
      place_reads u.place (decimal u.column ∷ side_text u.side ∷ option_text decimal u.run ∷ option_text scaled_text
          u.wide
          ∷ counts_text u.placed ∷ counts_text u.ages ∷ whole_text label.cost ∷ []) h.state.place,
      column_reads u.column h.state.column.0 h.state.column.1,
      side_reads u.side,
      run_reads u.run h.state.run,
      whole_reads label.cost h.cost,
      wide_reads u.wide h.state.wide,
      counts_read (2 ^ 16) u.placed (omega arith) h.state.placed,
      counts_read (2 ^ 8) u.ages (omega arith) h.state.ages,
      h.state.told refl,
    ) refl
label_reads true number label h =
    let u = label.state in
    rw (
      same_bytes (decimal number),
      place_reads u.place (decimal u.column ∷ side_text u.side ∷ option_text decimal u.run ∷ option_text scaled_text
          u.wide
          ∷ option_text decimal u.fitness ∷ counts_text u.placed ∷ counts_text u.ages ∷ whole_text label.cost
          ∷ []) h.state.place,
      column_reads u.column h.state.column.0 h.state.column.1,
      side_reads u.side,
      run_reads u.run h.state.run,
      fit_reads u.fitness h.state.fitness_in,
      whole_reads label.cost h.cost,
      wide_reads u.wide h.state.wide,
      counts_read (2 ^ 16) u.placed (omega arith) h.state.placed,
      counts_read (2 ^ 8) u.ages (omega arith) h.state.ages,
    ) refl
