-- What was read so far of an output text, and what its next line does to it.
use Rattle.std.specs.Prelude.{◌≡◌, ⊤, ℕ, ◌+◌, ◌==◌, ◌&&◌, Bool, true, false, not, nat_lt, nat_le, ◌||◌, if◌then◌else◌, List, [], ◌∷◌, ◌++◌, length, decimal, codes, Option, Some, None, is_some, Result, Ok, Err}
use Rattle.std.specs.Option.{option_map}
use Rattle.std.specs.Str.{bytes_eq}
use Rattle.std.specs.declared.alloc.AllocError.{AllocError}
use Rattle.pg_plan.specs.declared.pages.Column.{Column}
use Rattle.pg_plan.specs.declared.pages.Page.{Page}
use Rattle.pg_words.specs.InOrder.{words_of}
use Rattle.pg_words.specs.Read.{◌>>=◌, if_true}
use Rattle.pg_words.specs.Written.{line}
use Rattle.pg_labels.specs.LabelLines.{count_of, label_of}
use Rattle.pg_labels.specs.PageLines.{head_of, page_of, column_of, set_of, without_of}
use Rattle.pg_labels.specs.declared.draft.Draft.{Draft}
use Rattle.pg_labels.specs.declared.draft.Stands.{Stands}
use Rattle.pg_labels.specs.declared.draft.Stands.TheVariants.{Start, NoneLegal, Head, Begun, ColumnBegun, GoesOn, Labels}
use Rattle.pg_scan.specs.Lines.{has_point}

-- nothing was read
abbrev pub started : Draft
started = record { stands = Start; cost = None; done = []; last = None; page_text = []; count = []; labels = [] }

-- the pages so far
abbrev pub with_last : List Page → Option Page → List Page
with_last pages None = pages
with_last pages (Some page) = pages ++ page ∷ []

-- all pages so far
abbrev pub pages_of : Draft → List Page
pages_of d = with_last d.done d.last

-- the page with a column more
abbrev pub with_column : Column → Page → Page
with_column column page = record page { columns = page.columns ++ column ∷ [] }

-- the number of the next column of the page
abbrev pub column_number : Option Page → ℕ
column_number None = 1
column_number (Some page) = length page.columns + 1

-- a line of the page text was read
abbrev pub said : Draft → List ℕ → Stands → Draft
said d text stands = record d { stands = stands; page_text = d.page_text ++ line text }

-- ---- the lines that may stand next

-- that no pagination is legal
unfoldable pub none_line : Draft → List ℕ → Option Draft
none_line d text = if_true (bytes_eq text (codes "no legal pagination")) (said d text NoneLegal)

-- the first line of pages: their cost is told
unfoldable pub head_line : Draft → List ℕ → Option Draft
head_line d text = option_map (λ cost. record (said d text Head) { cost = Some cost }) (head_of (words_of text))

-- a page more begins, and the last one is done
unfoldable pub page_line : Draft → List ℕ → Option Draft
page_line d text = option_map (λ page. record (said d text (Begun false)) { done = pages_of d; last = Some page })
    (page_of (length (pages_of d) + 1) (words_of text))

-- a column more on the last page
unfoldable pub column_line : Draft → List ℕ → Option Draft
column_line d text =
    option_map (λ column. record (said d text ColumnBegun) { last = option_map (with_column column) d.last })
    (column_of (column_number d.last) (words_of text))

-- the numbers of a column with text or without
unfoldable pub numbers_line : Draft → List ℕ → Option Draft
numbers_line d text = if_true (is_some (set_of (words_of text)) || is_some (without_of (words_of text)))
    (said d text (GoesOn 0))

-- how many labels follow
unfoldable pub labels_line : Draft → List ℕ → Option Draft
labels_line d text =
    option_map (λ count. record d { stands = Labels count.0; count = count.1 }) (count_of (words_of text))

-- the areas of a column in their order
unfoldable pub area_number : List ℕ → Option ℕ
area_number text =
    if bytes_eq text (codes "area top") then Some 0
    else if bytes_eq text (codes "area text") then Some 1
    else if bytes_eq text (codes "area bottom") then Some 2
    else if bytes_eq text (codes "area notes") then Some 3
    else None

-- an area of a column that is not before the next one
unfoldable pub area_line : Draft → ℕ → List ℕ → Option Draft
area_line d next text =
    area_number text >>= (λ number. if_true (nat_le next number) (said d text (GoesOn (number + 1))))

-- a line in the area that stands last, if there is one
abbrev pub point_line : Bool → Draft → List ℕ → Option Draft
point_line in_area d text = if_true (in_area && has_point text) (said d text d.stands)

-- the wide area of a page, which it has once
unfoldable pub wide_line : Bool → Draft → List ℕ → Option Draft
wide_line has_wide d text = if_true (not has_wide && bytes_eq text (codes "area wide")) (said d text (Begun true))

-- there are as many labels as were said
abbrev pub has_all_labels : Draft → Bool
has_all_labels d = bytes_eq (decimal (length d.labels)) d.count

-- one label more, where there are not yet as many as were said
unfoldable pub label_line : Bool → Draft → List ℕ → Option Draft
label_line fitness d text = if has_all_labels d then None else
    option_map (λ label. record d { labels = d.labels ++ label ∷ [] })
    (label_of fitness (length d.labels + 1) (words_of text))

-- ---- the next line

-- the first of two that is there
infixl 9 ◌or_else◌
abbrev pub ◌or_else◌ : {A : Type 0} → Option A → Option A → Option A
None or_else other = other
(Some x) or_else other = Some x

-- the first line of the text
abbrev pub first_line : Draft → List ℕ → Option Draft
first_line d text = none_line d text or_else head_line d text

-- behind a head
abbrev pub page_or_labels : Draft → List ℕ → Option Draft
page_or_labels d text = page_line d text or_else labels_line d text

-- behind what a page or a column has
abbrev pub column_or_later : Draft → List ℕ → Option Draft
column_or_later d text = column_line d text or_else page_or_labels d text

-- behind the line of a page
abbrev pub begun_line : Bool → Draft → List ℕ → Option Draft
begun_line has_wide d text =
    point_line has_wide d text or_else wide_line has_wide d text or_else column_or_later d text

-- behind the numbers of a column, and areas in front of this one
abbrev pub further_line : ℕ → Draft → List ℕ → Option Draft
further_line next d text =
    point_line (nat_lt 0 next) d text or_else area_line d next text or_else column_or_later d text

-- the next line, as it stands
abbrev pub step_at : Stands → Draft → List ℕ → Option Draft
step_at Start d text = first_line d text
step_at NoneLegal d text = labels_line d text
step_at Head d text = page_or_labels d text
step_at (Begun has_wide) d text = begun_line has_wide d text
step_at ColumnBegun d text = numbers_line d text
step_at (GoesOn next) d text = further_line next d text
step_at (Labels fitness) d text = label_line fitness d text

-- what the next line makes of it; none where it may not stand there
unfoldable pub step : Draft → List ℕ → Option Draft
step d text = step_at d.stands d text

-- all labels stand
abbrev pub ends_at : Stands → Draft → Bool
ends_at Start d = false
ends_at NoneLegal d = false
ends_at Head d = false
ends_at (Begun has_wide) d = false
ends_at ColumnBegun d = false
ends_at (GoesOn next) d = false
ends_at (Labels fitness) d = has_all_labels d

-- the text may end here
abbrev pub is_whole : Draft → Bool
is_whole d = ends_at d.stands d

-- a line that was tried: it was taken, or nothing has changed
abbrev pub Tried : Result Bool AllocError → Option Draft → Draft → Draft → Type 0
Tried (Ok true) said old new = said ≡ Some new
Tried (Ok false) said old new = (said ≡ None) × (new ≡ old)
Tried (Err refused) said old new = ⊤
