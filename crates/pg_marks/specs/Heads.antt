-- The marks of pages, and references.
use Rattle.std.specs.Prelude.{ℕ, ◌+◌, if◌then◌else◌, List, [], ◌∷◌, ◌++◌, map, Option, Some, None}
use Rattle.std.specs.List.{filter_map, flat_map, list_any}
use Rattle.pg_list.specs.declared.blocks.Block.{Block}
use Rattle.pg_list.specs.declared.item.Item.{Item}
use Rattle.pg_list.specs.Totals.{trimmed}
use Rattle.pg_plan.specs.declared.pages.Column.{Column}
use Rattle.pg_plan.specs.declared.pages.Page.{Page}
use Rattle.pg_column.specs.Between.{column_text}
use Rattle.pg_marks.specs.declared.lists.Head.{Head}
use Rattle.pg_marks.specs.declared.lists.Reference.{Reference}
use Rattle.pg_marks.specs.Carries.{mark_of, use_of, is_label}

-- ---- the items of pages

-- the segment of a column: its text without the discardable items before the first box or rule
abbrev pub column_items : List Block → Column → List Item
column_items blocks column = trimmed (column_text blocks column)

-- the segments of a page's columns, in order
abbrev pub page_items : List Block → Page → List Item
page_items blocks page = flat_map (column_items blocks) page.columns

-- ---- marks

abbrev pub marks : List Item → List (List ℕ)
marks items = filter_map mark_of items

abbrev pub first_or : List ℕ → List (List ℕ) → List ℕ
first_or top [] = top
first_or top (mark ∷ marks) = mark

abbrev pub last_or : List ℕ → List (List ℕ) → List ℕ
last_or top [] = top
last_or top (mark ∷ marks) = last_or mark marks

-- the last mark of all earlier pages, or none
abbrev pub top_mark : List Item → List ℕ
top_mark earlier = last_or [] (marks earlier)

-- a page with these items, behind pages with the earlier ones
abbrev pub head_of : List Item → List Item → Head
head_of earlier items = record {
  top = top_mark earlier;
  first = first_or (top_mark earlier) (marks items);
  bottom = last_or (top_mark earlier) (marks items);
}

abbrev pub heads_after : List Item → List (List Item) → List Head
heads_after earlier [] = []
heads_after earlier (items ∷ later) = head_of earlier items ∷ heads_after (earlier ++ items) later

abbrev pub heads : List Block → List Page → List Head
heads blocks pages = heads_after [] (map (page_items blocks) pages)

-- ---- references

-- the first of the pages, numbered from n on, that has such a label
abbrev pub label_page : List ℕ → ℕ → List (List Item) → Option ℕ
label_page name n [] = None
label_page name n (items ∷ later) = if list_any (is_label name) items then Some n else label_page name (n + 1) later

abbrev pub reference_on : List (List Item) → ℕ → List ℕ → Reference
reference_on pages n name = record { name = name; on = n; page = label_page name 1 pages }

abbrev pub uses : List Item → List (List ℕ)
uses items = filter_map use_of items

-- one for each use, on pages that are numbered from n on
abbrev pub references_from : List (List Item) → ℕ → List (List Item) → List Reference
references_from pages n [] = []
references_from pages n (items ∷ later) = map (reference_on pages n) (uses items) ++ references_from pages (n + 1) later

abbrev pub references : List Block → List Page → List Reference
references blocks pages = references_from (map (page_items blocks) pages) 1 (map (page_items blocks) pages)
