-- Where the reading of lines stops, and what it has looked at until then.
use Rattle.std.proofs.Common.{◌≡◌, ◌∙◌, sym, ap, subst, arith, ℕ, zero, suc, ◌+◌, ◌<◌, ◌≤◌, Bool, true, false, List, [], ◌∷◌, length, take}
use Rattle.std.specs.Prelude.{◌&&◌, if◌then◌else◌, Option, Some, None, Result, Ok, Err}
use Rattle.std.specs.Option.{option_map_or}
use Rattle.pg_scan.specs.Parts.{parts_of}
use Rattle.pg_labels.specs.Drafts.{is_whole, started, step}
use Rattle.pg_labels.specs.Reading.{is_none, output_of, run, said_by}
use Rattle.pg_labels.specs.declared.draft.Draft.{Draft}
use Rattle.pg_labels.specs.declared.output.Output.{Output}
use Rattle.law_readers.specs.FaultsStay.{BeginAlike, OutputFaultsStay}

pub same_line : (n m : ℕ) → ◌≡◌ {A = Result Draft ℕ} (Err n) (Err m) → n ≡ m
same_line n m e = cc

-- the fault of a whole text is that of its lines
pub stopped : (r : Result Draft ℕ) (n : ℕ) → said_by r ≡ Err n → r ≡ Err n
stopped (Ok d) n e = absurd cc
stopped (Err m) n e = ap (λ (k : ℕ). Err k) (out m n e)
  where
    out : (k l : ℕ) → ◌≡◌ {A = Result Output ℕ} (Err k) (Err l) → k ≡ l
    out k l h = cc

-- the end of the lines is a fault of their last line, if it is one
pub at_end : (d : Draft) (b : Bool) (n m : ℕ) → (if b then Ok d else Err n) ≡ Err m → n ≡ m
at_end d true n m e = absurd cc
at_end d false n m e = same_line n m e

-- a fault is at one of the lines
stops_within : (d : Draft) (n : ℕ) (lines : List (List ℕ)) (m : ℕ) → 1 ≤ length lines → run d n lines ≡ Err m →
    (n ≤ m) × (m < n + length lines)
unfolding run
stops_within d n [] m some e = absurd (omega (arith, some))
stops_within d n (x ∷ []) m some e =
    let same = at_end d (is_none x && is_whole d) n m e in (omega (arith, same), omega (arith, same))
stops_within d n (x ∷ y ∷ lines) m some e = by (λ it. stops_within it (n + 1) (y ∷ lines) m) (step d x) e
  where
    by : ((it : Draft) → 1 ≤ length (y ∷ lines) → run it (n + 1) (y ∷ lines) ≡ Err m →
        (n + 1 ≤ m) × (m < (n + 1) + length (y ∷ lines))) →
        (o : Option Draft) → option_map_or (λ it. run it (n + 1) (y ∷ lines)) o (Err n) ≡ Err m →
        (n ≤ m) × (m < n + length (x ∷ y ∷ lines))
    by on None h = let same = same_line n m h in (omega (arith, same), omega (arith, same))
    by on (Some it) h = let (low, high) = on it (omega arith) h in (omega (arith, low), omega (arith, high))

-- lines that are the same up to a fault have the same fault
stops_alike : (d : Draft) (n count : ℕ) (xs ys : List (List ℕ)) → suc count < length xs → suc count < length ys →
    take (suc count) xs ≡ take (suc count) ys → run d n xs ≡ Err (n + count) → run d n ys ≡ Err (n + count)
unfolding run
stops_alike d n count [] ys few other same e = absurd (omega (arith, few))
stops_alike d n count (x ∷ []) ys few other same e = absurd (omega (arith, few))
stops_alike d n count (x ∷ y ∷ xs) [] few other same e = absurd (omega (arith, other))
stops_alike d n count (x ∷ y ∷ xs) (z ∷ []) few other same e = absurd (omega (arith, other))
stops_alike d n count (x ∷ y ∷ xs) (z ∷ w ∷ ys) few other same e =
    let head : x ≡ z = cc in
    let rest : take count (y ∷ xs) ≡ take count (w ∷ ys) = cc in
    subst (λ (line : List ℕ). option_map_or (λ it. run it (n + 1) (w ∷ ys)) (step d line) (Err n) ≡ Err (n + count)) head
    (by count rest (omega (arith, few)) (omega (arith, other))
    (λ it less. stops_alike it (n + 1) less (y ∷ xs) (w ∷ ys)) (step d x) e)
  where
    by : (k : ℕ) → take k (y ∷ xs) ≡ take k (w ∷ ys) → k < length (y ∷ xs) → k < length (w ∷ ys) →
        ((it : Draft) (less : ℕ) → suc less < length (y ∷ xs) → suc less < length (w ∷ ys) →
        take (suc less) (y ∷ xs) ≡ take (suc less) (w ∷ ys) → run it (n + 1) (y ∷ xs) ≡ Err ((n + 1) + less) →
        run it (n + 1) (w ∷ ys) ≡ Err ((n + 1) + less)) →
        (o : Option Draft) → option_map_or (λ it. run it (n + 1) (y ∷ xs)) o (Err n) ≡ Err (n + k) →
        option_map_or (λ it. run it (n + 1) (w ∷ ys)) o (Err n) ≡ Err (n + k)
    by k rest few other on None h = h
    by zero rest few other on (Some it) h =
        let (low, high) = stops_within it (n + 1) (y ∷ xs) (n + 0) (omega arith) h in absurd (omega (arith, low))
    by (suc k) rest few other on (Some it) h =
        let at : n + suc k ≡ (n + 1) + k = omega arith in
        on it k few other rest (h ∙ ap (λ (m : ℕ). Err m) at) ∙ ap (λ (m : ℕ). Err m) (sym at)

some_lines : (text : List ℕ) (n : ℕ) → n < length (parts_of 10 text) → 1 ≤ length (parts_of 10 text)
some_lines text n less = omega (arith, less)

pub faults_stay : OutputFaultsStay
unfolding output_of
faults_stay one other line fault alike =
    let is = stopped (run started 1 (parts_of 10 one)) line fault in
    let (low, high) = stops_within started 1 (parts_of 10 one) line (some_lines one line alike.has_lines) is in
    by line low alike is
  where
    by : (n : ℕ) → 1 ≤ n → BeginAlike n one other → run started 1 (parts_of 10 one) ≡ Err n →
        said_by (run started 1 (parts_of 10 other)) ≡ Err n
    by zero low alike is = absurd (omega (arith, low))
    by (suc n) low alike is =
        let at : suc n ≡ 1 + n = omega arith in
        ap said_by (stops_alike started 1 n (parts_of 10 one) (parts_of 10 other) alike.has_lines alike.other_has
        alike.same (is ∙ ap (λ (m : ℕ). Err m) at) ∙ ap (λ (m : ℕ). Err m) (sym at))
