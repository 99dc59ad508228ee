-- The other words read back: counts, options, sides, columns and places; and no word has a blank or a line feed.
use Rattle.std.proofs.Common.{◌≡◌, refl, ap, ◌∙◌, ◌<◌, ◌≤◌, ◌+◌, ◌*◌, ◌/◌, ◌%◌, ◌^◌, not, ℕ, suc, true, false, List, [], ◌∷◌, ◌++◌, map, arith, append-nil}
use Rattle.std.proofs.lemmas.Bool.Decides.{nat_tests}
use Rattle.std.specs.Prelude.{◌==◌, decimal, codes, Option, Some, None, ℤ, pos, negsuc, nat_abs}
use Rattle.std.specs.Str.{bytes_eq}
use Rattle.pg_list.specs.declared.galley.Place.{Place}
use Rattle.pg_plan.specs.declared.states.Side.{Side}
use Rattle.pg_plan.specs.declared.states.Side.TheVariants.{L, R, S}
use Rattle.pg_lemmas.proofs.Bools.{both}
use Rattle.pg_scaled.specs.Scaled.{scaled_text, size_text, fraction_digits}
use Rattle.pg_scaled.proofs.ReadsBack.{all_digits}
use Rattle.pg_words.specs.Written.{whole_text, counts_text, further_text, option_text, side_text}
use Rattle.pg_scan.specs.Parts.{parts_of}
use Rattle.pg_words.specs.InOrder.{place_at}
use Rattle.pg_words.specs.Read.{number_below, numbers_word, all_words, option_word, side_word}
use Rattle.law_words.specs.Ranges.{AllBelow, IsPrintedPlace, is_wide}
use Rattle.law_words.proofs.Cut.{lacks, lacks_append, digits_lack, part_here, part_last}
use Rattle.law_words.proofs.Equal.{no_dash}
use Rattle.law_words.proofs.Numbers.{decimal_digits, number_reads}
use Rattle.law_words.proofs.Wholes.{some_digit, wide_size, wide_negative}

-- ---- what stands in words

pub decimal_lacks : (s n : ℕ) → s < 45 → n < 10 ^ 64 → lacks s (decimal n) ≡ true
decimal_lacks s n low wide = digits_lack s (omega arith) (decimal n) (decimal_digits n wide)

not_byte : (c s : ℕ) → s < c → not (c == s) ≡ true
not_byte c s less = grind (arith, nat_tests)

pub behind_lacks : (s c : ℕ) (text : List ℕ) → s < c → lacks s text ≡ true → lacks s (c ∷ text) ≡ true
behind_lacks s c text less h = both (not (c == s)) (lacks s text) (not_byte c s less) h

pub whole_lacks : (s : ℕ) (z : ℤ) → s < 44 → is_wide z ≡ true → lacks s (whole_text z) ≡ true
whole_lacks s (pos n) low h = decimal_lacks s n (omega arith) (omega (arith, wide_size n h))
whole_lacks s (negsuc n) low h = behind_lacks s 45 (decimal (suc n)) (omega arith)
    (decimal_lacks s (suc n) (omega arith) (omega (arith, wide_negative n h)))

size_lacks : (s n : ℕ) → s < 44 → n ≤ 2 ^ 60 → lacks s (size_text n) ≡ true
size_lacks s n low small =
    let fraction = fraction_digits 5 (10 * (n % 65536) + 5) 10 in
    let close = all_digits (10 * (n % 65536) + 5) (omega arith) (omega arith) in
    lacks_append s (decimal (n / 65536)) (46 ∷ fraction) (decimal_lacks s (n / 65536) (omega arith) (omega arith))
    (behind_lacks s 46 fraction (omega arith) (digits_lack s (omega arith) fraction close.digits))

pub scaled_lacks : (s : ℕ) (z : ℤ) → s < 44 → nat_abs z ≤ 2 ^ 60 → lacks s (scaled_text z) ≡ true
scaled_lacks s (pos n) low small = size_lacks s n low small
scaled_lacks s (negsuc n) low small =
    behind_lacks s 45 (size_text (suc n)) (omega arith) (size_lacks s (suc n) low small)

pub further_lacks : (s bound : ℕ) (ns : List ℕ) → s < 44 → bound ≤ 2 ^ 64 → AllBelow bound ns →
    lacks s (further_text ns) ≡ true
further_lacks s bound [] low small each = refl
further_lacks s bound (n ∷ ns) low small each = behind_lacks s 44 (decimal n ++ further_text ns) (omega arith)
    (lacks_append s (decimal n) (further_text ns) (decimal_lacks s n (omega arith) (omega (arith, each.0)))
    (further_lacks s bound ns low small each.1))

pub counts_lack : (s bound : ℕ) (ns : List ℕ) → s < 44 → bound ≤ 2 ^ 64 → AllBelow bound ns →
    lacks s (counts_text ns) ≡ true
counts_lack s bound [] low small each = behind_lacks s 45 [] (omega arith) refl
counts_lack s bound (n ∷ ns) low small each = lacks_append s (decimal n) (further_text ns)
    (decimal_lacks s n (omega arith) (omega (arith, each.0))) (further_lacks s bound ns low small each.1)

pub side_lacks : (s : ℕ) (side : Side) → s < 44 → lacks s (side_text side) ≡ true
side_lacks s L low = behind_lacks s 76 [] (omega arith) refl
side_lacks s R low = behind_lacks s 82 [] (omega arith) refl
side_lacks s S low = behind_lacks s 83 [] (omega arith) refl

pub option_lacks : {X : Type 0} (s : ℕ) (text : X → List ℕ) (o : Option X) → s < 44 →
    ((x : X) → o ≡ Some x → lacks s (text x) ≡ true) → lacks s (option_text text o) ≡ true
option_lacks s text None low h = behind_lacks s 45 [] (omega arith) refl
option_lacks s text (Some x) low h = h x refl

-- ---- what words say

counts_parts : (bound n : ℕ) (ns : List ℕ) → bound ≤ 2 ^ 64 → AllBelow bound (n ∷ ns) →
    parts_of 44 (decimal n ++ further_text ns) ≡ map decimal (n ∷ ns)
counts_parts bound n [] small each = ap (parts_of 44) (append-nil (decimal n))
    ∙ part_last 44 (decimal n) (decimal_lacks 44 n (omega arith) (omega (arith, each.0)))
counts_parts bound n (m ∷ ns) small each =
    part_here 44 (decimal n) (decimal m ++ further_text ns) (decimal_lacks 44 n (omega arith) (omega (arith, each.0)))
    ∙ ap (λ (ps : List (List ℕ)). decimal n ∷ ps) (counts_parts bound m ns small each.1)

all_read : (bound : ℕ) (ns : List ℕ) → bound ≤ 2 ^ 64 → AllBelow bound ns →
    all_words (number_below bound) (map decimal ns) ≡ Some ns
all_read bound [] small each = refl
all_read bound (n ∷ ns) small each =
    rw (number_reads bound n each.0 (omega (arith, each.0)), all_read bound ns small each.1) refl

pub counts_read : (bound : ℕ) (ns : List ℕ) → bound ≤ 2 ^ 64 → AllBelow bound ns →
    numbers_word bound (counts_text ns) ≡ Some ns
unfolding numbers_word
counts_read bound [] small each = refl
counts_read bound (n ∷ ns) small each =
    let wide : n < 10 ^ 64 = omega (arith, each.0) in
    rw (
      no_dash (decimal n) (further_text ns) (decimal_digits n wide) (some_digit n wide),
      counts_parts bound n ns small each,
      all_read bound (n ∷ ns) small each,
    ) refl

pub option_reads : {X : Type 0} (says : List ℕ → Option X) (text : X → List ℕ) (o : Option X) →
    ((x : X) → o ≡ Some x → (bytes_eq (text x) (codes "-") ≡ false) × (says (text x) ≡ Some x)) →
    option_word says (option_text text o) ≡ Some o
option_reads says text None h = refl
option_reads says text (Some x) h = let t = h x refl in rw (t.0, t.1) refl

pub side_reads : (side : Side) → side_word (side_text side) ≡ Some side
unfolding side_word
side_reads L = refl
side_reads R = refl
side_reads S = refl

pub place_reads : (at : Place) (words : List (List ℕ)) → IsPrintedPlace at →
    place_at (decimal at.block ∷ decimal at.variant ∷ decimal at.index ∷ words) ≡ Some (at, words)
unfolding place_at
place_reads at words h =
    rw (
      number_reads (2 ^ 32) at.block h.block (omega (arith, h.block)),
      number_reads (2 ^ 32) at.variant h.variant (omega (arith, h.variant)),
      number_reads (2 ^ 32) at.index h.index (omega (arith, h.index)),
    ) refl
