-- Each line of an output text adds one page, one column or one label at most.
use Rattle.std.proofs.Common.{◌≡◌, refl, ap, subst, ◌∙◌, ℕ, suc, ◌+◌, ◌≤◌, ◌<◌, ◌^◌, List, [], ◌∷◌, ◌++◌, length, reverse, Bool, true, false, Option, Some, None, length-append, arith}
use Rattle.std.specs.Prelude.{is_some, ◌==◌, ◌&&◌, ◌||◌, not, nat_le, nat_lt, if◌then◌else◌, codes, Result, Ok, Err, ℤ}
use Rattle.std.specs.Option.{option_map, option_map_or}
use Rattle.std.specs.Str.{bytes_eq}
use Rattle.std.proofs.lemmas.List.{length-reverse, reverse-append}
use Rattle.pg_plan.specs.Order.{columns_of, page_moves}
use Rattle.pg_plan.proofs.BackwardsLemmas.{moves_long}
use Rattle.pg_plan.specs.declared.pages.Column.{Column}
use Rattle.pg_plan.specs.declared.pages.Page.{Page}
use Rattle.pg_plan.specs.declared.states.Label.{Label}
use Rattle.pg_scan.specs.Lines.{onto_first, has_point}
use Rattle.pg_scan.specs.Parts.{parts_of}
use Rattle.pg_words.specs.InOrder.{words_of}
use Rattle.pg_words.specs.Read.{◌>>=◌, if_true, numbers_word}
use Rattle.pg_labels.specs.Drafts.{◌or_else◌, area_line, area_number, column_line, column_number, column_or_later, has_all_labels, head_line, is_whole, label_line, labels_line, none_line, numbers_line, page_line, page_or_labels, pages_of, point_line, said, started, step, step_at, wide_line, with_column, with_last}
use Rattle.pg_labels.specs.LabelLines.{count_of, label_of}
use Rattle.pg_labels.specs.PageLines.{column_of, head_of, page_of, page_words, set_of, without_of}
use Rattle.pg_labels.specs.Reading.{IsFew, is_none, output_from, run, shown_of}
use Rattle.pg_labels.specs.declared.draft.Draft.{Draft}
use Rattle.pg_labels.specs.declared.draft.Stands.{Stands}
use Rattle.pg_labels.specs.declared.draft.Stands.TheVariants.{Start, NoneLegal, Head, Begun, ColumnBegun, GoesOn, Labels}

-- ---- pages and columns

abbrev column_count : List Page → ℕ
column_count pages = length (columns_of (reverse pages))

page_more : (pages : List Page) (page : Page) →
    column_count (pages ++ page ∷ []) ≡ length page.columns + column_count pages
page_more pages page = ap (λ (xs : List Page). length (columns_of xs)) (reverse-append pages (page ∷ []))
    ∙ (length-append (reverse (page_moves page page.columns)) (columns_of (reverse pages))
    ∙ ap (λ (n : ℕ). n + column_count pages)
    (length-reverse (page_moves page page.columns) ∙ moves_long page page.columns))

abbrev size : Draft → ℕ
size d = length (pages_of d) + (column_count (pages_of d) + length d.labels)

-- ---- one line

-- what comes of it has one thing more at most
abbrev Adds : Draft → Option Draft → Type 0
Adds d o = (e : Draft) → o ≡ Some e → size e ≤ size d + 1

adds_same : (d e : Draft) → size e ≤ size d + 1 → Adds d (Some e)
adds_same d e h x p = let same : e ≡ x = cc in subst (λ (z : Draft). size z ≤ size d + 1) same h

adds_none : (d : Draft) → Adds d None
adds_none d e p = absurd cc

adds_true : (d : Draft) (b : Bool) (e : Draft) → size e ≤ size d + 1 → Adds d (if_true b e)
adds_true d true e h = adds_same d e h
adds_true d false e h = adds_none d

adds_map : {X : Type 0} (d : Draft) (o : Option X) (f : X → Draft) →
    ((x : X) → o ≡ Some x → size (f x) ≤ size d + 1) → Adds d (option_map f o)
adds_map d None f h = adds_none d
adds_map d (Some x) f h = adds_same d (f x) (h x refl)

adds_or : (d : Draft) (a b : Option Draft) → Adds d a → Adds d b → Adds d (a or_else b)
adds_or d None b h k = k
adds_or d (Some e) b h k = h

one_more : (n : ℕ) → n ≤ n + 1
one_more n = omega arith

adds_none_line : (d : Draft) (text : List ℕ) → Adds d (none_line d text)
unfolding none_line
adds_none_line d text =
    adds_true d (bytes_eq text (codes "no legal pagination")) (said d text NoneLegal) (one_more (size d))

adds_head_line : (d : Draft) (text : List ℕ) → Adds d (head_line d text)
unfolding head_line
adds_head_line d text = adds_map d (head_of (words_of text)) (λ cost. record (said d text Head) { cost = Some cost })
    (λ cost e. one_more (size d))

abbrev empty_page : ℕ → List ℕ → Page
empty_page run wide = record { run = run; wide = wide; columns = [] }

-- a page begins without columns
page_empty : (number : ℕ) (words : List (List ℕ)) (page : Page) → page_of number words ≡ Some page → page.columns ≡ []
unfolding page_of
page_empty number words page e = by (page_words number words) e
  where
    inner : (run : ℕ) (o : Option (List ℕ)) → option_map (empty_page run) o ≡ Some page → page.columns ≡ []
    inner run None e = absurd cc
    inner run (Some wide) e = let same : empty_page run wide ≡ page = cc in
        subst (λ (p : Page). p.columns ≡ []) same refl

    by : (o : Option (ℕ × List ℕ)) →
        (o >>= (λ it. option_map (empty_page it.0) (numbers_word (2 ^ 16) it.1))) ≡ Some page → page.columns ≡ []
    by None e = absurd cc
    by (Some it) e = inner it.0 (numbers_word (2 ^ 16) it.1) e

adds_page_line : (d : Draft) (text : List ℕ) → Adds d (page_line d text)
unfolding page_line
adds_page_line d text = adds_map d (page_of (length (pages_of d) + 1) (words_of text))
    (λ page. record (said d text (Begun false)) { done = pages_of d; last = Some page })
    (λ page e. here page (page_empty (length (pages_of d) + 1) (words_of text) page e))
  where
    here : (page : Page) → page.columns ≡ [] →
        length (pages_of d ++ page ∷ []) + (column_count (pages_of d ++ page ∷ []) + length d.labels) ≤ size d + 1
    here page empty =
        let long = length-append (pages_of d) (page ∷ []) in
        let more = page_more (pages_of d) page in
        let none : length page.columns ≡ 0 = ap length empty in
        omega (arith, long, more, none)

column_size : (done : List Page) (last : Option Page) (column : Column) (labels : ℕ) →
    length (with_last done (option_map (with_column column) last))
    + (column_count (with_last done (option_map (with_column column) last)) + labels)
    ≤ length (with_last done last) + (column_count (with_last done last) + labels) + 1
column_size done None column labels = one_more (length done + (column_count done + labels))
column_size done (Some page) column labels =
    let before = length-append done (page ∷ []) in
    let after = length-append done (with_column column page ∷ []) in
    let less = page_more done page in
    let more = page_more done (with_column column page) in
    let longer = length-append page.columns (column ∷ []) in
    omega (arith, before, after, less, more, longer)

adds_column_line : (d : Draft) (text : List ℕ) → Adds d (column_line d text)
unfolding column_line
adds_column_line d text = adds_map d (column_of (column_number d.last) (words_of text))
    (λ column. record (said d text ColumnBegun) { last = option_map (with_column column) d.last })
    (λ column e. column_size d.done d.last column (length d.labels))

adds_numbers_line : (d : Draft) (text : List ℕ) → Adds d (numbers_line d text)
unfolding numbers_line
adds_numbers_line d text = adds_true d (is_some (set_of (words_of text)) || is_some (without_of (words_of text)))
    (said d text (GoesOn 0)) (one_more (size d))

adds_labels_line : (d : Draft) (text : List ℕ) → Adds d (labels_line d text)
unfolding labels_line
adds_labels_line d text = adds_map d (count_of (words_of text))
    (λ count. record d { stands = Labels count.0; count = count.1 }) (λ count e. one_more (size d))

adds_area_line : (d : Draft) (next : ℕ) (text : List ℕ) → Adds d (area_line d next text)
unfolding area_line
adds_area_line d next text = by (area_number text)
  where
    by : (o : Option ℕ) →
        Adds d (o >>= (λ number. if_true (nat_le next number) (said d text (GoesOn (number + 1)))))
    by None = adds_none d
    by (Some number) = adds_true d (nat_le next number) (said d text (GoesOn (number + 1))) (one_more (size d))

adds_point_line : (in_area : Bool) (d : Draft) (text : List ℕ) → Adds d (point_line in_area d text)
adds_point_line in_area d text = adds_true d (in_area && has_point text) (said d text d.stands) (one_more (size d))

adds_wide_line : (has_wide : Bool) (d : Draft) (text : List ℕ) → Adds d (wide_line has_wide d text)
unfolding wide_line
adds_wide_line has_wide d text = adds_true d (not has_wide && bytes_eq text (codes "area wide"))
    (said d text (Begun true)) (one_more (size d))

adds_label_line : (fitness : Bool) (d : Draft) (text : List ℕ) → Adds d (label_line fitness d text)
unfolding label_line
adds_label_line fitness d text = by (has_all_labels d)
  where
    all : Option Draft
    all = option_map (λ label. record d { labels = d.labels ++ label ∷ [] })
        (label_of fitness (length d.labels + 1) (words_of text))

    one : Adds d all
    one = adds_map d (label_of fitness (length d.labels + 1) (words_of text))
        (λ label. record d { labels = d.labels ++ label ∷ [] })
        (λ label e. (let long = length-append d.labels (label ∷ []) in omega (arith, long)))

    by : (b : Bool) → Adds d (if b then None else all)
    by true = adds_none d
    by false = one

adds_page_or_labels : (d : Draft) (text : List ℕ) → Adds d (page_or_labels d text)
adds_page_or_labels d text =
    adds_or d (page_line d text) (labels_line d text) (adds_page_line d text) (adds_labels_line d text)

adds_column_or_later : (d : Draft) (text : List ℕ) → Adds d (column_or_later d text)
adds_column_or_later d text =
    adds_or d (column_line d text) (page_or_labels d text) (adds_column_line d text) (adds_page_or_labels d text)

adds_at : (stands : Stands) (d : Draft) (text : List ℕ) → Adds d (step_at stands d text)
adds_at Start d text = adds_or d (none_line d text) (head_line d text) (adds_none_line d text) (adds_head_line d text)
adds_at NoneLegal d text = adds_labels_line d text
adds_at Head d text = adds_page_or_labels d text
adds_at (Begun has_wide) d text = adds_or d (point_line has_wide d text or_else wide_line has_wide d text)
    (column_or_later d text) (adds_or d (point_line has_wide d text) (wide_line has_wide d text)
    (adds_point_line has_wide d text) (adds_wide_line has_wide d text)) (adds_column_or_later d text)
adds_at ColumnBegun d text = adds_numbers_line d text
adds_at (GoesOn next) d text = adds_or d (point_line (nat_lt 0 next) d text or_else area_line d next text)
    (column_or_later d text) (adds_or d (point_line (nat_lt 0 next) d text) (area_line d next text)
    (adds_point_line (nat_lt 0 next) d text) (adds_area_line d next text)) (adds_column_or_later d text)
adds_at (Labels fitness) d text = adds_label_line fitness d text

adds_step : (d : Draft) (text : List ℕ) → Adds d (step d text)
unfolding step
adds_step d text = adds_at d.stands d text

-- ---- all lines

-- no more parts than bytes and one
parts_few : (s : ℕ) (text : List ℕ) → length (parts_of s text) ≤ length text + 1
unfolding parts_of
parts_few s [] = omega arith
parts_few s (c ∷ cs) = by (c == s) (parts_of s cs) (parts_few s cs)
  where
    by : (b : Bool) (ps : List (List ℕ)) → length ps ≤ length cs + 1 →
        length (if b then [] ∷ ps else onto_first c ps) ≤ suc (length cs) + 1
    by true ps h = omega arith
    by false [] h = omega arith
    by false (p ∷ ps) h = omega arith

run_size : (parts : List (List ℕ)) (d : Draft) (n : ℕ) (e : Draft) → run d n parts ≡ Ok e →
    size e + 1 ≤ size d + length parts
unfolding run
run_size [] d n e r = absurd cc
run_size (text ∷ []) d n e r = by (is_none text && is_whole d) r
  where
    by : (b : Bool) → ◌≡◌ {A = Result Draft ℕ} (if b then Ok d else Err n) (Ok e) → size e + 1 ≤ size d + 1
    by false r = absurd cc
    by true r = let same : d ≡ e = cc in subst (λ (z : Draft). size z + 1 ≤ size d + 1) same (omega arith)
run_size (text ∷ next ∷ rest) d n e r = by (λ x s. run_size (next ∷ rest) x (n + 1) e s) (step d text)
    (adds_step d text) r
  where
    by : ((x : Draft) → run x (n + 1) (next ∷ rest) ≡ Ok e → size e + 1 ≤ size x + length (next ∷ rest)) →
        (o : Option Draft) → Adds d o → option_map_or (λ x. run x (n + 1) (next ∷ rest)) o (Err n) ≡ Ok e →
        size e + 1 ≤ size d + length (text ∷ next ∷ rest)
    by later None h r = absurd cc
    by later (Some x) h r =
        let one : size x ≤ size d + 1 = h x refl in
        let more : size e + 1 ≤ size x + length (next ∷ rest) = later x r in
        omega arith

shown_few : (cost : Option ℤ) (pages : List Page) (labels : List Label) (text : List ℕ) →
    length pages + (column_count pages + length labels) < 2 ^ 31 →
    IsFew (record { shown = shown_of cost pages; page_text = text; labels = labels })
shown_few None pages labels text h = record {
  pages = let none : length {A = Page} [] ≡ 0 = refl in omega (arith, none);
  columns = let none : column_count [] ≡ 0 = refl in omega (arith, none);
  labels = omega (arith, h);
}
shown_few (Some cost) pages labels text h = record {
  pages = omega (arith, h);
  columns = omega (arith, h);
  labels = omega (arith, h);
}

-- what is read of a text of fewer than 2 ^ 31 bytes
pub few : (text : List ℕ) (e : Draft) → run started 1 (parts_of 10 text) ≡ Ok e → length text < 2 ^ 31 →
    IsFew (output_from e)
few text e r small =
    let sized : size e + 1 ≤ size started + length (parts_of 10 text) = run_size (parts_of 10 text) started 1 e r in
    let none : size started ≡ 0 = refl in
    let parts = parts_few 10 text in
    shown_few e.cost (pages_of e) e.labels e.page_text (omega (arith, sized, none, parts, small))
