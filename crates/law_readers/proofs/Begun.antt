-- The lines in front of a fault of an output text begin one.
use Rattle.std.proofs.Common.{◌≡◌, ◌∙◌, refl, sym, ap, arith, ℕ, zero, suc, ◌+◌, ◌<◌, true, List, [], ◌∷◌, ◌++◌, length, take, length-append, append_assoc, take_at, inl, inr}
use Rattle.std.specs.Prelude.{◌==◌, ◌&&◌, not, Result, Ok, Err}
use Rattle.std.proofs.lemmas.Bool.{cases_Bool}
use Rattle.pg_lemmas.proofs.Bools.{both, not_false, if_true}
use Rattle.pg_scan.specs.Lines.{onto_first}
use Rattle.pg_scan.specs.Parts.{parts_of}
use Rattle.pg_labels.specs.Drafts.{is_whole, started}
use Rattle.pg_labels.specs.Reading.{is_none, output_from, output_of, run, said_by}
use Rattle.pg_labels.specs.declared.draft.Draft.{Draft}
use Rattle.pg_labels.specs.declared.output.Output.{Output}
use Rattle.law_words.proofs.Cut.{AllLack, joined, joined_parts, lacks, parts_some}
use Rattle.law_readers.specs.Begins.{BeginsOutput, NoOutputsBeginAtFaults, OutputsBeginBeforeFaults}
use Rattle.law_readers.specs.FaultsStay.{BeginAlike}
use Rattle.law_readers.proofs.Completed.{completes}
use Rattle.law_readers.proofs.Counted.{few_behind}
use Rattle.law_readers.proofs.Stops.{faults_stay, stopped}
use Rattle.law_readers.proofs.Taken.{Takes, front_taken, takes_both, takes_run}

-- ---- texts of lines

onto_lack : (s c : ℕ) (parts : List (List ℕ)) → not (c == s) ≡ true → AllLack s parts → AllLack s (onto_first c parts)
onto_lack s c [] h each = (both (not (c == s)) true h refl, tt)
onto_lack s c (part ∷ parts) h each = (both (not (c == s)) (lacks s part) h each.0, each.1)

parts_lack : (s : ℕ) (text : List ℕ) → AllLack s (parts_of s text)
unfolding parts_of
parts_lack s [] = (refl, tt)
parts_lack s (c ∷ cs) = elim (cases_Bool (c == s)) [
  | inl cut ↦ rw cut (refl, parts_lack s cs)
  | inr other ↦ rw other (onto_lack s c (parts_of s cs) (not_false (c == s) other) (parts_lack s cs))
]

take_lack : (s n : ℕ) (parts : List (List ℕ)) → AllLack s parts → AllLack s (take n parts)
take_lack s zero parts each = tt
take_lack s (suc n) [] each = tt
take_lack s (suc n) (part ∷ parts) each = (each.0, take_lack s n parts each.1)

both_lack : (s : ℕ) (front back : List (List ℕ)) → AllLack s front → AllLack s back → AllLack s (front ++ back)
both_lack s [] back h k = k
both_lack s (part ∷ front) back h k = (h.0, both_lack s front back h.1 k)

-- the text of lines that each have their line feed
abbrev text_of : List (List ℕ) → List ℕ
text_of lines = joined 10 (lines ++ [] ∷ [])

lines_back : (lines : List (List ℕ)) → AllLack 10 lines → parts_of 10 (text_of lines) ≡ lines ++ [] ∷ []
lines_back [] each = joined_parts 10 [] [] (refl, tt)
lines_back (line ∷ lines) each =
    joined_parts 10 line (lines ++ [] ∷ []) (each.0, both_lack 10 lines ([] ∷ []) each.1 (refl, tt))

-- ---- what is read of them

read_to_end : (e : Draft) (n : ℕ) → is_whole e ≡ true → run e n ([] ∷ []) ≡ Ok e
unfolding run
read_to_end e n whole = if_true {X = Result Draft ℕ} (is_none [] && is_whole e) (Ok e) (Err n) whole

reads_whole : (e : Draft) (lines : List (List ℕ)) → AllLack 10 lines → Takes started lines e → is_whole e ≡ true →
    output_of (text_of lines) ≡ Ok (output_from e)
unfolding output_of
reads_whole e lines each taken whole =
    ap said_by (ap (run started 1) (lines_back lines each)
    ∙ takes_run started e 1 lines ([] ∷ []) taken (omega arith) ∙ read_to_end e (1 + length lines) whole)

front_same : (front more : List (List ℕ)) → take (length front) ((front ++ more) ++ [] ∷ []) ≡ front
front_same front more = ap (take (length front)) (append_assoc front more ([] ∷ []))
    ∙ take_at front (more ++ [] ∷ []) (length front) refl

-- lines that are taken begin an output text
begins : (front : List (List ℕ)) (e : Draft) → AllLack 10 front → Takes started front e →
    (more : List (List ℕ)) (whole : Draft) → Takes e more whole → is_whole whole ≡ true → AllLack 10 more →
    BeginsOutput front
begins front e each taken more whole rest ends lack =
    let all = both_lack 10 front more each lack in
    let parts = lines_back (front ++ more) all in
    let long : length (parts_of 10 (text_of (front ++ more))) ≡ length ((front ++ more) ++ [] ∷ []) =
    ap length parts in
    let sum = length-append (front ++ more) ([] ∷ []) in
    let more_sum = length-append front more in
    record {
      text = text_of (front ++ more);
      output = output_from whole;
      is = reads_whole whole (front ++ more) all (takes_both started e whole front more taken rest) ends;
      has_lines = omega (arith, long, sum, more_sum);
      same = ap (take (length front)) parts ∙ front_same front more;
    }

pub begins_before : OutputsBeginBeforeFaults
unfolding output_of
begins_before text before fault few =
    let is = stopped (run started 1 (parts_of 10 text)) (suc before) fault in
    let sum : suc before ≡ 1 + before = omega arith in
    let (e, taken) = front_taken started 1 before (parts_of 10 text) (let some = parts_some 10 text in omega (arith, some))
    (is ∙ ap (λ (n : ℕ). Err n) sum) in
    let (more, whole, rest, ends, lack) = completes e.stands e refl (few_behind started e (take before (parts_of 10 text))
    few taken refl) in
    begins (take before (parts_of 10 text)) e (take_lack 10 before (parts_of 10 text) (parts_lack 10 text)) taken more
    whole rest ends lack

-- ---- the line at fault

never_both : (n : ℕ) (output : Output) → ◌≡◌ {A = Result Output ℕ} (Err n) (Ok output) → ⊥
never_both n output e = absurd cc

take_long : (n : ℕ) (lines : List (List ℕ)) → n < length lines → length (take n lines) ≡ n
take_long zero lines less = refl
take_long (suc n) [] less = absurd (omega (arith, less))
take_long (suc n) (line ∷ lines) less = ap suc (take_long n lines (omega (arith, less)))

pub begins_none : NoOutputsBeginAtFaults
begins_none text line fault has begun =
    let long = take_long line (parts_of 10 text) has in
    let other = begun.has_lines in
    let alike : BeginAlike line text begun.text = record {
      has_lines = has;
      other_has = omega (arith, other, long);
      same = sym (ap (λ (n : ℕ). take n (parts_of 10 begun.text)) (sym long) ∙ begun.same);
    } in
    never_both line begun.output (sym (faults_stay text begun.text line fault alike) ∙ begun.is)
