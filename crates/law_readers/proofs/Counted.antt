-- What holds of each draft: no more labels stand than were said.
use Rattle.std.proofs.Common.{◌≡◌, ◌∙◌, refl, sym, ap, subst, arith, ℕ, ◌+◌, ◌≤◌, ◌<◌, ◌^◌, inl, inr, Bool, true, false, List, [], ◌∷◌, ◌++◌, length, length-append}
use Rattle.std.specs.Prelude.{◌&&◌, ◌||◌, codes, decimal, if◌then◌else◌, is_some, nat_le, nat_lt, not, Option, Some, None}
use Rattle.std.specs.List.{AllByRecursion}
use Rattle.std.specs.Option.{option_map}
use Rattle.std.specs.Str.{bytes_eq}
use Rattle.std.specs.Str.Parse.{digits_value}
use Rattle.std.proofs.lemmas.Bool.{cases_lt}
use Rattle.pg_lemmas.proofs.Bools.{not_both}
use Rattle.pg_scan.specs.Lines.{has_point}
use Rattle.pg_words.specs.InOrder.{words_of}
use Rattle.pg_words.specs.Read.{◌>>=◌, if_true}
use Rattle.pg_labels.specs.Drafts.{◌or_else◌, area_line, area_number, column_line, column_number, column_or_later, has_all_labels, head_line, label_line, labels_line, none_line, numbers_line, page_line, page_or_labels, pages_of, point_line, said, step, step_at, wide_line, with_column}
use Rattle.pg_labels.specs.LabelLines.{count_of, label_of}
use Rattle.pg_labels.specs.PageLines.{column_of, head_of, page_of, set_of, without_of}
use Rattle.pg_labels.specs.declared.draft.Draft.{Draft}
use Rattle.pg_labels.specs.declared.draft.Stands.{Stands}
use Rattle.pg_labels.specs.declared.draft.Stands.TheVariants.{Start, NoneLegal, Head, Begun, ColumnBegun, GoesOn, Labels}
use Rattle.law_words.proofs.Equal.{same_bytes}
use Rattle.law_readers.specs.Begins.{SaysFewLabels}
use Rattle.law_readers.proofs.Counts.{count_numeral, numeral_printed}
use Rattle.law_readers.proofs.Taken.{Takes}

-- at the labels no more stand than were said; in front of them there is none
abbrev pub AreFew : Stands → Draft → Type 0
AreFew Start d = d.labels ≡ []
AreFew NoneLegal d = d.labels ≡ []
AreFew Head d = d.labels ≡ []
AreFew (Begun has_wide) d = d.labels ≡ []
AreFew ColumnBegun d = d.labels ≡ []
AreFew (GoesOn next) d = d.labels ≡ []
AreFew (Labels fitness) d = (count : ℕ) × (d.count ≡ decimal count) × (length d.labels ≤ count) × (count < 2 ^ 64)

abbrev pub Few : Draft → Type 0
Few d = AreFew d.stands d

-- ---- one line

-- whatever comes of it has few labels
abbrev Keeps : Option Draft → Type 0
Keeps o = (e : Draft) → o ≡ Some e → Few e

keeps_same : (e : Draft) → Few e → Keeps (Some e)
keeps_same e h x p = let same : e ≡ x = cc in subst (λ (z : Draft). Few z) same h

keeps_none : Keeps None
keeps_none x p = absurd cc

keeps_true : (b : Bool) (e : Draft) → Few e → Keeps (if_true b e)
keeps_true true e h = keeps_same e h
keeps_true false e h = keeps_none

keeps_map : {X : Type 0} (o : Option X) (f : X → Draft) → ((x : X) → o ≡ Some x → Few (f x)) → Keeps (option_map f o)
keeps_map None f h = keeps_none
keeps_map (Some x) f h = keeps_same (f x) (h x refl)

keeps_or : (a b : Option Draft) → Keeps a → Keeps b → Keeps (a or_else b)
keeps_or None b h k = k
keeps_or (Some e) b h k = h

-- a draft with the same labels and the same count
same_few : (stands : Stands) (d e : Draft) → e.labels ≡ d.labels → e.count ≡ d.count → AreFew stands d →
    AreFew stands e
same_few Start d e labels count h = labels ∙ h
same_few NoneLegal d e labels count h = labels ∙ h
same_few Head d e labels count h = labels ∙ h
same_few (Begun has_wide) d e labels count h = labels ∙ h
same_few ColumnBegun d e labels count h = labels ∙ h
same_few (GoesOn next) d e labels count h = labels ∙ h
same_few (Labels fitness) d e labels count (n, is, few, small) =
    let long = ap length labels in (n, count ∙ is, omega (arith, few, long), small)

module _ (d : Draft) (text : List ℕ) where
  keeps_none_line : d.labels ≡ [] → Keeps (none_line d text)
  unfolding none_line
  keeps_none_line none = keeps_true (bytes_eq text (codes "no legal pagination")) (said d text NoneLegal) none

  keeps_head_line : d.labels ≡ [] → Keeps (head_line d text)
  unfolding head_line
  keeps_head_line none =
      keeps_map (head_of (words_of text)) (λ cost. record (said d text Head) { cost = Some cost }) (λ cost e. none)

  keeps_page_line : d.labels ≡ [] → Keeps (page_line d text)
  unfolding page_line
  keeps_page_line none = keeps_map (page_of (length (pages_of d) + 1) (words_of text))
      (λ page. record (said d text (Begun false)) { done = pages_of d; last = Some page }) (λ page e. none)

  keeps_column_line : d.labels ≡ [] → Keeps (column_line d text)
  unfolding column_line
  keeps_column_line none = keeps_map (column_of (column_number d.last) (words_of text))
      (λ column. record (said d text ColumnBegun) { last = option_map (with_column column) d.last }) (λ column e. none)

  keeps_numbers_line : d.labels ≡ [] → Keeps (numbers_line d text)
  unfolding numbers_line
  keeps_numbers_line none = keeps_true (is_some (set_of (words_of text)) || is_some (without_of (words_of text)))
      (said d text (GoesOn 0)) none

  keeps_labels_line : SaysFewLabels text → d.labels ≡ [] → Keeps (labels_line d text)
  unfolding labels_line
  keeps_labels_line few none = keeps_map (count_of (words_of text))
      (λ count. record d { stands = Labels count.0; count = count.1 }) (λ count e. told count e)
    where
      told : (count : Bool × List ℕ) → count_of (words_of text) ≡ Some count →
          AreFew (Labels count.0) (record d { stands = Labels count.0; count = count.1 })
      told count e =
          let small = few count.0 count.1 e in
          let empty = ap length none in (
            digits_value 10 count.1,
            sym (numeral_printed count.1 (count_numeral (words_of text) count e) small),
            omega (arith, empty),
            small,
          )

  keeps_area_line : (next : ℕ) → d.labels ≡ [] → Keeps (area_line d next text)
  unfolding area_line
  keeps_area_line next none = by (area_number text)
    where
      by : (o : Option ℕ) → Keeps (o >>= (λ number. if_true (nat_le next number) (said d text (GoesOn (number + 1)))))
      by None = keeps_none
      by (Some number) = keeps_true (nat_le next number) (said d text (GoesOn (number + 1))) none

  keeps_point_line : (in_area : Bool) → Few d → Keeps (point_line in_area d text)
  keeps_point_line in_area few = keeps_true (in_area && has_point text) (said d text d.stands)
      (same_few d.stands d (said d text d.stands) refl refl few)

  keeps_wide_line : (has_wide : Bool) → d.labels ≡ [] → Keeps (wide_line has_wide d text)
  unfolding wide_line
  keeps_wide_line has_wide none =
      keeps_true (not has_wide && bytes_eq text (codes "area wide")) (said d text (Begun true)) none

  keeps_label_line : (fitness : Bool) → d.stands ≡ Labels fitness → AreFew (Labels fitness) d →
      Keeps (label_line fitness d text)
  unfolding label_line
  keeps_label_line fitness at (n, is, few, small) = by (has_all_labels d) refl
    where
      all : Option Draft
      all = option_map (λ label. record d { labels = d.labels ++ label ∷ [] })
          (label_of fitness (length d.labels + 1) (words_of text))

      less : has_all_labels d ≡ false → length d.labels < n
      less lacks = elim (cases_lt (length d.labels) n) [
        | inl before ↦ before
        | inr behind ↦
            let same : length d.labels ≡ n = omega (arith, behind, few) in
            let whole : has_all_labels d ≡ true =
            subst (λ (count : List ℕ). bytes_eq (decimal (length d.labels)) count ≡ true)
            (ap decimal same ∙ sym is) (same_bytes (decimal (length d.labels))) in
            absurd (not_both (has_all_labels d) whole lacks)
      ]

      by : (b : Bool) → has_all_labels d ≡ b → Keeps (if b then None else all)
      by true whole = keeps_none
      by false lacks = keeps_map (label_of fitness (length d.labels + 1) (words_of text))
          (λ label. record d { labels = d.labels ++ label ∷ [] })
          (λ label e. subst (λ (s : Stands). AreFew s (record d { labels = d.labels ++ label ∷ [] })) (sym at)
          (n, is, (let long = length-append d.labels (label ∷ []) in omega (arith, long, less lacks)), small))

  keeps_page_or_labels : SaysFewLabels text → d.labels ≡ [] → Keeps (page_or_labels d text)
  keeps_page_or_labels few none =
      keeps_or (page_line d text) (labels_line d text) (keeps_page_line none) (keeps_labels_line few none)

  keeps_column_or_later : SaysFewLabels text → d.labels ≡ [] → Keeps (column_or_later d text)
  keeps_column_or_later few none =
      keeps_or (column_line d text) (page_or_labels d text) (keeps_column_line none) (keeps_page_or_labels few none)

  keeps_at : (stands : Stands) → d.stands ≡ stands → SaysFewLabels text → AreFew stands d →
      Keeps (step_at stands d text)
  keeps_at Start at few none =
      keeps_or (none_line d text) (head_line d text) (keeps_none_line none) (keeps_head_line none)
  keeps_at NoneLegal at few none = keeps_labels_line few none
  keeps_at Head at few none = keeps_page_or_labels few none
  keeps_at (Begun has_wide) at few none = keeps_or (point_line has_wide d text or_else wide_line has_wide d text)
      (column_or_later d text) (keeps_or (point_line has_wide d text) (wide_line has_wide d text)
      (keeps_point_line has_wide (subst (λ (s : Stands). AreFew s d) (sym at) none)) (keeps_wide_line has_wide none))
      (keeps_column_or_later few none)
  keeps_at ColumnBegun at few none = keeps_numbers_line none
  keeps_at (GoesOn next) at few none = keeps_or (point_line (nat_lt 0 next) d text or_else area_line d next text)
      (column_or_later d text) (keeps_or (point_line (nat_lt 0 next) d text) (area_line d next text)
      (keeps_point_line (nat_lt 0 next) (subst (λ (s : Stands). AreFew s d) (sym at) none)) (keeps_area_line next none))
      (keeps_column_or_later few none)
  keeps_at (Labels fitness) at few told = keeps_label_line fitness at told

  keeps_step : SaysFewLabels text → Few d → Keeps (step d text)
  unfolding step
  keeps_step few told = keeps_at d.stands refl few told

-- ---- all lines

pub few_behind : (d e : Draft) (lines : List (List ℕ)) → AllByRecursion SaysFewLabels lines → Takes d lines e →
    Few d → Few e
few_behind d e [] each taken few = subst (λ (x : Draft). Few x) taken few
few_behind d e (line ∷ lines) each (it, is, rest) few =
    few_behind it e lines each.1 rest (keeps_step d line each.0 few it is)
