-- Where a search for a line feed comes to.
use Rattle.std.proofs.Common.{◌≡◌, ◌<◌, inl, inr, arith, ℕ, List, length, Some, None, Option}
use Rattle.std.specs.Prelude.{◌==◌, slice_index}
use Rattle.std.specs.List.{prefix_len}
use Rattle.std.specs.Option.{unwrap_or}
use Rattle.std.proofs.lemmas.Bool.{cases_lt, not-false}
use Rattle.std.proofs.lemmas.List.Sums.{prefix_len-le-length, prefix_len_passes, prefix_len_stops}
use Rattle.memchr.specs.Find.{IsFirstByte, NoneBefore, Nowhere, Passes, is_byte}
use Rattle.pg_lemmas.proofs.Bools.{not_both, not_true}
use Rattle.pg_scan.specs.Lines.{is_no_feed}

-- no feed stands in front of the end of the first line, and one stands at it
passes : (text : List ℕ) (k : ℕ) → k < prefix_len is_no_feed text → Passes (is_byte 10) text k → ⊥
passes text k less here =
    not_both (slice_index text k == 10) here
    (not_true (slice_index text k == 10) (prefix_len_passes is_no_feed text k 0 less))

stops : (text : List ℕ) → prefix_len is_no_feed text < length text → Passes (is_byte 10) text (prefix_len is_no_feed text)
stops text less =
    not-false (slice_index text (prefix_len is_no_feed text) == 10) (prefix_len_stops is_no_feed text 0 less)

at_feed : (text : List ℕ) (k : ℕ) → NoneBefore (Passes (is_byte 10) text) 0 (length text) k →
    Passes (is_byte 10) text k → k ≡ prefix_len is_no_feed text
at_feed text k none here =
    let n : ℕ = prefix_len is_no_feed text in
    elim (cases_lt n k) [
      | inl less ↦ absurd (none.before n (omega arith) less (stops text (omega (arith, less, none.high))))
      | inr le ↦ elim (cases_lt k n) [
        | inl more ↦ absurd (passes text k more here)
        | inr ge ↦ omega (arith, le, ge)
      ]
    ]

no_feed : (text : List ℕ) → Nowhere (Passes (is_byte 10) text) 0 (length text) →
    length text ≡ prefix_len is_no_feed text
no_feed text none =
    let n : ℕ = prefix_len is_no_feed text in
    elim (cases_lt n (length text)) [
      | inl less ↦ absurd (none n (omega arith) less (stops text less))
      | inr ge ↦ omega (arith, ge, prefix_len-le-length is_no_feed text)
    ]

pub first_feed : (text : List ℕ) (found : Option ℕ) → IsFirstByte (is_byte 10) text found →
    unwrap_or found (length text) ≡ prefix_len is_no_feed text
first_feed text None none = no_feed text none
first_feed text (Some k) at = at_feed text k at.0 at.1
