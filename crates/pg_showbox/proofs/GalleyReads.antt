-- A printed galley reads back.
use Rattle.std.proofs.Common.{◌≡◌, ◌∙◌, ◌≤◌, ◌<◌, ◌+◌, ◌-◌, ◌^◌, ◌/◌, ◌%◌, ◌*◌, ℕ, suc, ap, sym, arith, List, [], ◌∷◌, ◌++◌, refl, length, take, drop, true, false, append_assoc, append-nil, Bool, inl, inr}
use Rattle.std.specs.Prelude.{IsTrue, Result, Ok, Some, None, ℤ, pos, negsuc, nat_abs, codes, decimal, ◌==◌}
use Rattle.std.specs.List.{AllByRecursion, flat_map}
use Rattle.std.proofs.lemmas.Slice.Eq.{bytes_eq-Decides}
use Rattle.std.proofs.lemmas.Bool.{cases_Bool}
use Rattle.std.proofs.lemmas.Bool.Decides.{nat_tests}
use Rattle.std.proofs.lemmas.List.{take-append-drop}
use Rattle.pg_scaled.specs.Scaled.{scaled_text, scaled_value, size_text, fraction_digits}
use Rattle.pg_scaled.proofs.ReadsBack.{AreDigits, all_digits, text_reads}
use Rattle.pg_list.specs.declared.blocks.Block.{Block}
use Rattle.pg_list.specs.GalleyValue.{GalleyValue}
use Rattle.pg_scaled.specs.Ranges.{IsScaled}
use Rattle.pg_list.specs.Counts.{item_count, item_limit}
use Rattle.pg_list.specs.Shapes.{IsBlock}
use Rattle.pg_showbox.specs.declared.kinds.ListFault.{ListFault}
use Rattle.pg_showbox.specs.declared.parsed.ParsedLine.TheVariants as said
use Rattle.pg_showbox.specs.declared.state.ReaderState.{ReaderState}
use Rattle.pg_showbox.specs.declared.state.Within.TheVariants.{Outside}
use Rattle.pg_scan.specs.Lines.{raw_lines, joined, trimmed, is_no_feed}
use Rattle.pg_showbox.specs.Parts.{due, size_at, past_size}
use Rattle.pg_scan.specs.Parts.{after}
use Rattle.pg_showbox.specs.ParsedLine.{root_at, galley_line, ends_cut}
use Rattle.pg_showbox.specs.State.{started, step, ended, begun_listing}
use Rattle.pg_showbox.specs.Reading.{line_read, said_in, all_read, galley_of, then_ok, at_line, galley_from}
use Rattle.pg_showbox.specs.Text.{root_front, galley_text, block_text}
use Rattle.pg_scan.specs.Lines.{IsClean}
use Rattle.pg_showbox.specs.Shown.{IsShownBlock}
use Rattle.pg_scan.proofs.LineLemmas.{no_return}
use Rattle.pg_showbox.proofs.RunLemmas.{run_end, no_raw_lines, joined_none}
use Rattle.pg_showbox.proofs.ReadBack.{text_run, reads_line, reads_then, in_list, blocks_read, digits_no_feed, decimal_no_feed, all_no_feeds}
use Rattle.pg_lemmas.proofs.Lists.{all_append}

-- the last byte
abbrev last_of : List ℕ → ℕ
last_of [] = 0
last_of (x ∷ []) = x
last_of (x ∷ y ∷ ys) = last_of (y ∷ ys)

last_snoc : (ys : List ℕ) (d : ℕ) → last_of (ys ++ d ∷ []) ≡ d
last_snoc [] d = refl
last_snoc (y ∷ []) d = refl
last_snoc (y ∷ z ∷ ys) d = last_snoc (z ∷ ys) d

abbrev EndsInDigit : List ℕ → Type 0
EndsInDigit line = (ys : List ℕ) × (d : ℕ) × (line ≡ ys ++ d ∷ []) × (48 ≤ d) × (d ≤ 57)

digits_end : (ds : List ℕ) → AreDigits ds → 0 < length ds → EndsInDigit ds
digits_end [] each some = absurd (omega arith)
digits_end (d ∷ []) each some = ([], d, refl, each.0, each.1)
digits_end (d ∷ e ∷ es) each some =
    let more = digits_end (e ∷ es) each.2 (omega arith) in
    (d ∷ more.0, more.1, ap (λ (xs : List ℕ). d ∷ xs) more.2, more.3, more.4)

behind : (front line : List ℕ) → EndsInDigit line → EndsInDigit (front ++ line)
behind front line h = (
  front ++ h.0,
  h.1,
  ap (λ (xs : List ℕ). front ++ xs) h.2
      ∙ sym (append_assoc front h.0 (h.1 ∷ [])),
  h.3,
  h.4,
)

size_end : (n : ℕ) → EndsInDigit (size_text n)
size_end n =
    let close = all_digits (10 * (n % 65536) + 5) (omega arith) (omega arith) in
    let fraction = fraction_digits 5 (10 * (n % 65536) + 5) 10 in
    behind (decimal (n / 65536)) (46 ∷ fraction)
    (behind (46 ∷ []) fraction (digits_end fraction close.digits close.some))

scaled_end : (v : ℤ) → EndsInDigit (scaled_text v)
scaled_end (pos n) = size_end n
scaled_end (negsuc n) = behind (45 ∷ []) (size_text (suc n)) (size_end (suc n))

not_cut : (line : List ℕ) → EndsInDigit line → ends_cut line ≡ false
not_cut line h = elim (cases_Bool (ends_cut line)) [
  | inl cut ↦
      let k = length line - 3 in
      let rest : drop k line ≡ codes " []" = (bytes_eq-Decides (drop k line) (codes " []")).0 cut in
      let whole : line ≡ (take k line ++ 32 ∷ 91 ∷ []) ++ 93 ∷ [] = sym (take-append-drop k line)
      ∙ ap (λ (xs : List ℕ). take k line ++ xs) rest
      ∙ sym (append_assoc (take k line) (32 ∷ 91 ∷ []) (93 ∷ [])) in
      let last : h.1 ≡ 93 = sym (ap last_of h.2 ∙ last_snoc h.0 h.1) ∙ ap last_of whole
      ∙ last_snoc (take k line ++ 32 ∷ 91 ∷ []) 93 in
      let most : h.1 ≤ 57 = h.4 in
      absurd (omega (arith, last, most))
  | inr other ↦ other
]

abbrev NoFeed : List ℕ → Type 0
NoFeed line = AllByRecursion (λ c. IsTrue (is_no_feed c)) line

size_no_feed : (n : ℕ) → n < 2 ^ 64 → NoFeed (size_text n)
size_no_feed n small =
    let close = all_digits (10 * (n % 65536) + 5) (omega arith) (omega arith) in
    all_append (λ c. IsTrue (is_no_feed c)) (decimal (n / 65536)) (46 ∷ fraction_digits 5 (10 * (n % 65536) + 5) 10)
    (decimal_no_feed (n / 65536) (omega arith))
    (refl, digits_no_feed (fraction_digits 5 (10 * (n % 65536) + 5) 10) close.digits)

scaled_no_feed : (v : ℤ) → nat_abs v < 2 ^ 30 → NoFeed (scaled_text v)
scaled_no_feed (pos n) small = size_no_feed n (omega arith)
scaled_no_feed (negsuc n) small = (refl, size_no_feed (suc n) (omega arith))

abbrev root_line : ℤ → List ℕ
root_line width = codes "\\vbox(0.0+0.0)x" ++ scaled_text width

root_clean : (width : ℤ) → nat_abs width < 2 ^ 30 → IsClean (root_line width)
root_clean width small =
    let ends = behind (codes "\\vbox(0.0+0.0)x") (scaled_text width) (scaled_end width) in
    let low : 48 ≤ ends.1 = ends.3 in
    let no : (ends.1 == 13) ≡ false = grind (arith, nat_tests) in
    record {
      no_feed = all_append (λ c. IsTrue (is_no_feed c)) (codes "\\vbox(0.0+0.0)x") (scaled_text width)
          (all_no_feeds (codes "\\vbox(0.0+0.0)x") refl) (scaled_no_feed width small);
      no_return = ap trimmed ends.2 ∙ no_return ends.0 ends.1 no ∙ sym ends.2;
    }

only_size : (width : ℤ) → nat_abs width < 2 ^ 30
    → size_at (scaled_text width) ≡ Ok (width, drop (length (scaled_text width)) (scaled_text width))
unfolding size_at
only_size width small =
    let read = ap scaled_value (sym (append-nil (scaled_text width))) ∙ text_reads width [] small refl in
    rw read refl

root_says : (width : ℤ) → nat_abs width < 2 ^ 30 → galley_line false (root_line width) ≡ Ok (said.Root width)
unfolding galley_line root_at after due past_size
root_says width small =
    rw (
      only_size width small,
      not_cut (root_line width)
          (behind (codes "\\vbox(0.0+0.0)x") (scaled_text width) (scaled_end width)),
    ) refl

root_step : (width : ℤ) → step (started Outside) (said.Root width) (root_line width)
    ≡ Ok (in_list (Some width) [] false 0)
unfolding step begun_listing ended
root_step width = refl

root_read : (width : ℤ) → nat_abs width < 2 ^ 30 → line_read true (started Outside) (root_line width)
    ≡ Ok (in_list (Some width) [] false 0)
unfolding line_read said_in
root_read width small = rw (root_says width small) (root_step width)

text_is : (galley : GalleyValue) → galley_text galley ≡ (root_line galley.width ++ 10 ∷ [])
    ++ flat_map block_text galley.blocks
unfolding root_front
text_is galley =
    sym (append_assoc (codes "\\vbox(0.0+0.0)x") (scaled_text galley.width) (10 ∷ flat_map block_text galley.blocks))
    ∙ sym (append_assoc (root_line galley.width) (10 ∷ []) (flat_map block_text galley.blocks))

empty_run : (s : ReaderState) (n : ℕ) → text_run s n [] ≡ Ok s
empty_run s n = run_end true s (joined None n (raw_lines []))
    (joined_none None n (raw_lines []) (no_raw_lines [] refl))

ends_well : (s : ReaderState) (n : ℕ) (width : ℤ) (blocks : List Block) (last : Bool) (count : ℕ)
    (r : Result ReaderState ListFault) → r ≡ Ok (in_list (Some width) blocks last count)
    → then_ok (then_ok r (λ t. at_line n (ended t t.within))) (λ t. galley_from t.blocks t.width)
    ≡ Ok (record { width = width; blocks = blocks })
unfolding ended
ends_well s n width blocks last count r e = rw e refl

pub galley_reads : (galley : GalleyValue) → IsScaled galley.width → item_count galley.blocks ≤ item_limit
    → AllByRecursion IsBlock galley.blocks → AllByRecursion IsShownBlock galley.blocks
    → galley_of (galley_text galley) None ≡ Ok galley
unfolding galley_of all_read
galley_reads galley small few are shown =
    let start = started Outside in
    let first = in_list (Some galley.width) [] false 0 in
    let root = reads_line start first (root_line galley.width) (root_clean galley.width small)
    (root_read galley.width small) in
    let blocks = blocks_read (Some galley.width) [] false 0 galley.blocks shown are (omega arith) in
    let to = in_list (Some galley.width) galley.blocks blocks.0 (0 + item_count galley.blocks) in
    let all = reads_then start first to (root_line galley.width ++ 10 ∷ []) (flat_map block_text galley.blocks) root
    blocks.1 in
    let ran = all 1 [] in
    let text : galley_text galley ≡ ((root_line galley.width ++ 10 ∷ []) ++ flat_map block_text galley.blocks) ++ [] =
    text_is galley ∙ sym (append-nil ((root_line galley.width ++ 10 ∷ []) ++ flat_map block_text galley.blocks))
    in
    let r : text_run start 1 (galley_text galley) ≡ Ok to = ap (λ (t : List ℕ). text_run start 1 t) text ∙ ran.1
    ∙ empty_run to ran.0 in
    ends_well start (1 + length (raw_lines (galley_text galley))) galley.width galley.blocks blocks.0
    (0 + item_count galley.blocks) (text_run start 1 (galley_text galley)) r
