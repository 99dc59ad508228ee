-- A printed label text reads back, after whatever may stand in front of it.
use Rattle.std.proofs.Common.{◌≡◌, refl, sym, ap, ◌∙◌, ◌<◌, ◌≤◌, ◌+◌, ◌^◌, ℕ, Bool, true, false, List, [], ◌∷◌, ◌++◌, length, arith, append-nil, append_assoc, length-append}
use Rattle.std.specs.Prelude.{decimal, codes, Option, Some, None, Ok, ℤ, nat_lt}
use Rattle.std.specs.Str.{bytes_eq}
use Rattle.std.specs.Str.Parse.{digits_value}
use Rattle.std.proofs.lemmas.Fmt.{decimal_is_IsNumeral_wide}
use Rattle.std.specs.Option.{option_map}
use Rattle.pg_plan.specs.declared.states.Label.{Label}
use Rattle.pg_plan.specs.declared.states.State.{State}
use Rattle.pg_scaled.specs.Scaled.{scaled_text}
use Rattle.pg_words.specs.Written.{line, whole_text, counts_text}
use Rattle.pg_labels.specs.LabelText.{label_text, labels_from, labels_line as printed_count, label_line as printed_label}
use Rattle.pg_scan.specs.Parts.{parts_of}
use Rattle.pg_labels.specs.Drafts.{step, step_at, label_line, labels_line, page_line, column_line, area_line, area_number, wide_line, point_line}
use Rattle.pg_labels.specs.LabelLines.{count_of}
use Rattle.pg_labels.specs.PageLines.{page_of, page_words, column_of, column_words}
use Rattle.pg_labels.specs.Reading.{run}
use Rattle.pg_labels.specs.declared.draft.Draft.{Draft}
use Rattle.pg_labels.specs.declared.draft.Stands.{Stands}
use Rattle.pg_labels.specs.declared.draft.Stands.TheVariants.{Start, NoneLegal, Head, Begun, ColumnBegun, GoesOn, Labels}
use Rattle.law_read_back.specs.Ranges.{IsPrintedLabel, IsPrintedState, ArePrintedLabels}
use Rattle.law_words.proofs.Cut.{AllLack, dark_lacks, joined, joined_parts, joined_lacks}
use Rattle.law_words.proofs.Equal.{same_bytes, bytes_same}
use Rattle.law_words.proofs.Numbers.{numeral_reads}
use Rattle.law_words.proofs.Words.{decimal_lacks, whole_lacks, scaled_lacks, counts_lack, side_lacks, option_lacks}
use Rattle.law_read_back.proofs.Runs.{Reads, reads_none, reads_then, reads_line, reads_as, reads_to}
use Rattle.law_read_back.proofs.Labels.{fit_words, rest_words, label_line_is, label_reads}
use Rattle.pg_scan.specs.Lines.{has_point}

-- ---- no word of a label has a blank or a line feed

label_words_lack : (s : ℕ) → s ≤ 32 → (fitness : Bool) (number : ℕ) → number < 10 ^ 64 → (label : Label) →
    IsPrintedLabel fitness label →
    AllLack s (codes "label" ∷ rest_words fitness number label)
label_words_lack s low fitness number small label h =
    let u = label.state in
    let end : AllLack s (counts_text u.placed ∷ counts_text u.ages ∷ whole_text label.cost ∷ []) = (
      counts_lack s (2 ^ 16) u.placed (omega arith) (omega arith) h.state.placed,
      (
        counts_lack s (2 ^ 8) u.ages (omega arith) (omega arith) h.state.ages,
        (whole_lacks s label.cost (omega arith) h.cost, tt),
      ),
    ) in (
      dark_lacks s low (codes "label") refl,
      (
        decimal_lacks s number (omega arith) small,
        (
          decimal_lacks s u.place.block (omega arith) (omega (arith, h.state.place.block)),
          (
            decimal_lacks s u.place.variant (omega arith) (omega (arith, h.state.place.variant)),
            (
              decimal_lacks s u.place.index (omega arith) (omega (arith, h.state.place.index)),
              (
                decimal_lacks s u.column (omega arith) (omega (arith, h.state.column.1)),
                (
                  side_lacks s u.side (omega arith),
                  (
                    option_lacks s decimal u.run (omega arith)
                        (λ (n : ℕ) (e : u.run ≡ Some n). decimal_lacks s n (omega arith)
                        (omega (arith, h.state.run n e))),
                    (
                      option_lacks s scaled_text u.wide (omega arith)
                          (λ (z : ℤ) (e : u.wide ≡ Some z). scaled_lacks s z (omega arith) (h.state.wide z e)),
                      fit_part fitness h.state (counts_text u.placed ∷ counts_text u.ages ∷ whole_text label.cost
                          ∷ []) end,
                    ),
                  ),
                ),
              ),
            ),
          ),
        ),
      ),
    )
  where
    fit_part : (f : Bool) → {u : State} → IsPrintedState f u → (words : List (List ℕ)) → AllLack s words →
        AllLack s (fit_words f u words)
    fit_part false k words e = e
    fit_part true {u} k words e = (
      option_lacks s decimal u.fitness (omega arith)
          (λ (n : ℕ) (is : u.fitness ≡ Some n). decimal_lacks s n (omega arith) (omega (arith, k.fitness_in n is))),
      e,
    )

-- ---- one label after another

pub other_number : (n m : ℕ) → n < m → m < 10 ^ 64 → bytes_eq (decimal n) (decimal m) ≡ false
other_number n m less wide = by (bytes_eq (decimal n) (decimal m)) refl
  where
    by : (b : Bool) → b ≡ bytes_eq (decimal n) (decimal m) → b ≡ false
    by false e = refl
    by true e =
        let f : decimal n ≡ decimal m = bytes_same (decimal n) (decimal m) (sym e) in
        let g : n ≡ m = sym (decimal_is_IsNumeral_wide n (omega arith)).1
        ∙ (ap (digits_value 10) f ∙ (decimal_is_IsNumeral_wide m wide).1) in
        absurd (omega (arith, g))

-- a draft that stands at labels
abbrev pub labelled : Bool → ℕ → Draft → List Label → Draft
labelled fitness total d labels = record d { stands = Labels fitness; count = decimal total; labels = labels }

label_step : (fitness : Bool) (total : ℕ) (d : Draft) (done : List Label) (label : Label) → length done < total →
    total < 2 ^ 64 → IsPrintedLabel fitness label →
    step (labelled fitness total d done) (joined 32 (codes "label" ∷ rest_words fitness (length done + 1) label))
    ≡ Some (labelled fitness total d (done ++ label ∷ []))
unfolding step label_line
label_step fitness total d done label less small h =
    let small_here : length done + 1 < 10 ^ 64 = omega arith in
    rw (
      other_number (length done) total less (omega arith),
      joined_parts 32 (codes "label") (rest_words fitness (length done + 1) label)
          (label_words_lack 32 (omega arith) fitness (length done + 1) small_here label h),
      label_reads fitness (length done + 1) label h,
    ) refl

label_line_reads : (fitness : Bool) (total : ℕ) (d : Draft) (done : List Label) (label : Label) → length done < total →
    total < 2 ^ 64 → IsPrintedLabel fitness label →
    Reads (labelled fitness total d done) (printed_label fitness (length done + 1) label)
    (labelled fitness total d (done ++ label ∷ []))
label_line_reads fitness total d done label less small h =
    let small_here : length done + 1 < 10 ^ 64 = omega arith in
    reads_as (labelled fitness total d done) (labelled fitness total d (done ++ label ∷ []))
    (line (joined 32 (codes "label" ∷ rest_words fitness (length done + 1) label)))
    (printed_label fitness (length done + 1) label)
    (sym (label_line_is fitness (length done + 1) label))
    (reads_line (labelled fitness total d done) (labelled fitness total d (done ++ label ∷ []))
    (joined 32 (codes "label" ∷ rest_words fitness (length done + 1) label))
    (joined_lacks 10 32 (codes "label" ∷ rest_words fitness (length done + 1) label) refl
    (label_words_lack 10 (omega arith) fitness (length done + 1) small_here label h))
    (label_step fitness total d done label less small h))

pub labels_read : (fitness : Bool) (total : ℕ) (d : Draft) (done rest : List Label) →
    length done + length rest ≡ total →
    total < 2 ^ 64 → ArePrintedLabels fitness rest →
    Reads (labelled fitness total d done) (labels_from fitness (length done + 1) rest)
    (labelled fitness total d (done ++ rest))
labels_read fitness total d done [] all small h =
    reads_to (labelled fitness total d done) (labelled fitness total d done) (labelled fitness total d (done ++ [])) []
    (ap (labelled fitness total d) (sym (append-nil done))) (reads_none (labelled fitness total d done))
labels_read fitness total d done (label ∷ rest) all small h =
    let len = length-append done (label ∷ []) in
    let next : length (done ++ label ∷ []) + 1 ≡ length done + 1 + 1 = omega (arith, len) in
    let one = label_line_reads fitness total d done label (omega arith) small h.0 in
    let more = labels_read fitness total d (done ++ label ∷ []) rest (omega (arith, len)) small h.1 in
    let here = reads_as (labelled fitness total d (done ++ label ∷ []))
    (labelled fitness total d (done ++ label ∷ [] ++ rest))
    (labels_from fitness (length (done ++ label ∷ []) + 1) rest) (labels_from fitness (length done + 1 + 1) rest)
    (ap (λ (k : ℕ). labels_from fitness k rest) next) more in
    reads_to (labelled fitness total d done) (labelled fitness total d (done ++ label ∷ [] ++ rest))
    (labelled fitness total d (done ++ label ∷ rest)) (labels_from fitness (length done + 1) (label ∷ rest))
    (ap (labelled fitness total d) (append_assoc done (label ∷ []) rest))
    (reads_then (labelled fitness total d done) (labelled fitness total d (done ++ label ∷ []))
    (labelled fitness total d (done ++ label ∷ [] ++ rest)) (printed_label fitness (length done + 1) label)
    (labels_from fitness (length done + 1 + 1) rest) one here)

-- ---- the line of their number

abbrev pub count_rest : Bool → ℕ → List (List ℕ)
count_rest false count = decimal count ∷ []
count_rest true count = decimal count ∷ codes "fitness" ∷ []

abbrev pub count_words : Bool → ℕ → List (List ℕ)
count_words fitness count = codes "labels" ∷ count_rest fitness count

count_regrouped : (l n f e : List ℕ) → l ++ n ++ (f ++ e) ≡ (l ++ (n ++ f)) ++ e
count_regrouped l n f e = simp append_assoc

count_line_is : (fitness : Bool) (count : ℕ) →
    printed_count fitness count ≡ line (joined 32 (count_words fitness count))
unfolding printed_count
count_line_is false count = count_regrouped (codes "labels ") (decimal count) [] (10 ∷ [])
    ∙ ap (λ (t : List ℕ). line (codes "labels " ++ t)) (append-nil (decimal count))
count_line_is true count = count_regrouped (codes "labels ") (decimal count) (codes " fitness") (10 ∷ [])

count_words_lack : (s : ℕ) → s ≤ 32 → (fitness : Bool) (count : ℕ) → count < 10 ^ 64 →
    AllLack s (count_words fitness count)
count_words_lack s low false count small = (
  dark_lacks s low (codes "labels") refl,
  (decimal_lacks s count (omega arith) small, tt),
)
count_words_lack s low true count small = (
  dark_lacks s low (codes "labels") refl,
  (decimal_lacks s count (omega arith) small, (dark_lacks s low (codes "fitness") refl, tt)),
)

count_reads : (fitness : Bool) (count : ℕ) → count < 10 ^ 64 →
    count_of (count_words fitness count) ≡ Some (fitness, decimal count)
unfolding count_of
count_reads false count small = rw (numeral_reads count small) refl
count_reads true count small = rw (numeral_reads count small) refl

-- labels may stand next
abbrev pub can_end : Stands → Bool
can_end Start = false
can_end NoneLegal = true
can_end Head = true
can_end (Begun has_wide) = true
can_end ColumnBegun = false
can_end (GoesOn next) = true
can_end (Labels fitness) = false

pub no_point : (b : Bool) (d : Draft) (text : List ℕ) → has_point text ≡ false → point_line b d text ≡ None
no_point false d text h = refl
no_point true d text h = rw h refl

-- a line that begins so is the line of labels
labels_next : (stands : Stands) → can_end stands ≡ true → (d : Draft) (t : List ℕ) →
    step_at stands d (codes "labels " ++ t) ≡ labels_line d (codes "labels " ++ t)
unfolding parts_of page_line page_of page_words column_line column_of column_words area_line area_number wide_line
labels_next Start h d t = absurd cc
labels_next NoneLegal h d t = refl
labels_next Head h d t = refl
labels_next (Begun false) h d t = refl
labels_next (Begun true) h d t = refl
labels_next ColumnBegun h d t = absurd cc
labels_next (GoesOn next) h d t = rw (no_point (nat_lt 0 next) d (codes "labels " ++ t) refl) refl
labels_next (Labels fitness) h d t = absurd cc

count_step : (fitness : Bool) (d : Draft) (count : ℕ) → can_end d.stands ≡ true → count < 10 ^ 64 →
    step d (joined 32 (count_words fitness count)) ≡ Some (labelled fitness count d d.labels)
unfolding step labels_line
count_step false d count h small = labels_next d.stands h d (decimal count)
    ∙ ap (λ (ws : List (List ℕ)). option_map (λ (c : Bool × List ℕ). record d { stands = Labels c.0; count = c.1 })
    (count_of ws))
    (joined_parts 32 (codes "labels") (count_rest false count) (count_words_lack 32 (omega arith) false count small))
    ∙ ap (λ (o : Option (Bool × List ℕ)). option_map
    (λ (c : Bool × List ℕ). record d { stands = Labels c.0; count = c.1 }) o)
    (count_reads false count small)
count_step true d count h small = labels_next d.stands h d (decimal count ++ codes " fitness")
    ∙ ap (λ (ws : List (List ℕ)). option_map (λ (c : Bool × List ℕ). record d { stands = Labels c.0; count = c.1 })
    (count_of ws))
    (joined_parts 32 (codes "labels") (count_rest true count) (count_words_lack 32 (omega arith) true count small))
    ∙ ap (λ (o : Option (Bool × List ℕ)). option_map
    (λ (c : Bool × List ℕ). record d { stands = Labels c.0; count = c.1 }) o)
    (count_reads true count small)

pub label_text_reads : (fitness : Bool) (d : Draft) (labels : List Label) → can_end d.stands ≡ true → d.labels ≡ [] →
    length labels < 2 ^ 64 → ArePrintedLabels fitness labels →
    Reads d (label_text fitness labels) (labelled fitness (length labels) d labels)
label_text_reads fitness d labels able none small h =
    let first =
    reads_line d (labelled fitness (length labels) d d.labels) (joined 32 (count_words fitness (length labels)))
    (joined_lacks 10 32 (count_words fitness (length labels)) refl
    (count_words_lack 10 (omega arith) fitness (length labels) (omega arith)))
    (count_step fitness d (length labels) able (omega arith)) in
    let one = reads_to d (labelled fitness (length labels) d d.labels) (labelled fitness (length labels) d [])
    (line (joined 32 (count_words fitness (length labels)))) (ap (labelled fitness (length labels) d) none) first in
    let two = reads_as d (labelled fitness (length labels) d [])
    (line (joined 32 (count_words fitness (length labels))))
    (printed_count fitness (length labels)) (sym (count_line_is fitness (length labels))) one in
    reads_then d (labelled fitness (length labels) d []) (labelled fitness (length labels) d labels)
    (printed_count fitness (length labels)) (labels_from fitness 1 labels) two
    (labels_read fitness (length labels) d [] labels (omega arith) small h)

-- ---- the end

-- where nothing follows, a draft with all its labels is whole
pub whole_ends : (fitness : Bool) (d : Draft) (labels : List Label) (m : ℕ) →
    run (labelled fitness (length labels) d labels) m (parts_of 10 []) ≡ Ok (labelled fitness (length labels) d labels)
unfolding run parts_of
whole_ends fitness d labels m = rw (same_bytes (decimal (length labels))) refl

pub reads_all : (d : Draft) (fitness : Bool) (front : List ℕ) (e : Draft) (labels : List Label) → Reads d front e →
    can_end e.stands ≡ true → e.labels ≡ [] → length labels < 2 ^ 64 → ArePrintedLabels fitness labels →
    run d 1 (parts_of 10 (front ++ label_text fitness labels)) ≡ Ok (labelled fitness (length labels) e labels)
reads_all d fitness front e labels reads able none small h =
    let all = reads_then d e (labelled fitness (length labels) e labels) front (label_text fitness labels) reads
    (label_text_reads fitness e labels able none small h) 1 [] in
    ap (λ (t : List ℕ). run d 1 (parts_of 10 t)) (sym (append-nil (front ++ label_text fitness labels)))
    ∙ all.1 ∙ whole_ends fitness e labels all.0
