-- How the pages are walked. It is proved to tell the same as the definitions; nobody need believe what stands here.
use Rattle.std.specs.Prelude.{ℕ, ◌+◌, if◌then◌else◌, List, [], ◌∷◌, ◌++◌, Option, Some, None}
use Rattle.std.specs.List.{flat_map}
use Rattle.std.specs.Option.{option_or}
use Rattle.std.specs.Str.{bytes_eq}
use Rattle.pg_list.specs.declared.blocks.Block.{Block}
use Rattle.pg_list.specs.declared.item.Item.{Item}
use Rattle.pg_plan.specs.declared.pages.Page.{Page}
use Rattle.pg_column.specs.Between.{column_text}
use Rattle.pg_marks.specs.Carries.{label_of, use_of}
use Rattle.pg_marks.specs.Heads.{first_or, last_or, marks}
use Rattle.pg_marks.specs.declared.lists.Head.{Head}
use Rattle.pg_marks.specs.declared.lists.Reference.{Reference}

-- the items of a page's columns, in order, those in front of the first boxes among them
abbrev pub page_text : List Block → Page → List Item
page_text blocks page = flat_map (column_text blocks) page.columns

-- ---- a head made from the one before it

abbrev pub heads_from : List ℕ → List (List Item) → List Head
heads_from top [] = []
heads_from top (items ∷ later) =
    record { top = top; first = first_or top (marks items); bottom = last_or top (marks items) }
    ∷ heads_from (last_or top (marks items)) later

-- ---- the page of the first label of each name

-- no label stands anywhere
abbrev pub no_pages : List ℕ → Option ℕ
no_pages name = None

-- the pages, with a label of a name on page n behind those so far
abbrev pub label_behind : (List ℕ → Option ℕ) → ℕ → List ℕ → List ℕ → Option ℕ
label_behind pages n label name = option_or (pages name) (if bytes_eq name label then Some n else None)

abbrev pub labelled : (List ℕ → Option ℕ) → ℕ → Option (List ℕ) → List ℕ → Option ℕ
labelled pages n None = pages
labelled pages n (Some label) = label_behind pages n label

-- with the labels among items of page n
abbrev pub labels_on : (List ℕ → Option ℕ) → ℕ → List Item → List ℕ → Option ℕ
labels_on pages n [] = pages
labels_on pages n (item ∷ items) = labels_on (labelled pages n (label_of item)) n items

-- with those of pages that are numbered from n on
abbrev pub labels_from : (List ℕ → Option ℕ) → ℕ → List (List Item) → List ℕ → Option ℕ
labels_from pages n [] = pages
labels_from pages n (items ∷ later) = labels_from (labels_on pages n items) (n + 1) later

-- ---- uses in order, by the pages of the labels

abbrev pub used : (List ℕ → Option ℕ) → ℕ → Option (List ℕ) → List Reference
used pages n None = []
used pages n (Some name) = record { name = name; on = n; page = pages name } ∷ []

abbrev pub use_on : (List ℕ → Option ℕ) → ℕ → Item → List Reference
use_on pages n item = used pages n (use_of item)

abbrev pub uses_on : (List ℕ → Option ℕ) → ℕ → List Item → List Reference
uses_on pages n items = flat_map (use_on pages n) items

abbrev pub uses_from : (List ℕ → Option ℕ) → ℕ → List (List Item) → List Reference
uses_from pages n [] = []
uses_from pages n (items ∷ later) = uses_on pages n items ++ uses_from pages (n + 1) later
