-- The order among paginations of equal cost: column by column from the last.
use Rattle.std.specs.Prelude.{ℕ, List, [], ◌∷◌, ◌++◌, reverse, map}
use Rattle.std.specs.Ordering.{nat_cmp, ordering_then}
use Rattle.std.specs.declared.cmp.Ordering.{Ordering}
use Rattle.std.specs.Cmp.Lexicographic.{slice_cmp}
use Rattle.pg_list.specs.declared.galley.Place.{Place}
use Rattle.pg_plan.specs.declared.pages.Column.{Column}
use Rattle.pg_plan.specs.declared.pages.Page.{Page}
use Rattle.pg_plan.specs.declared.pages.PageMove.{PageMove}
use Rattle.pg_plan.specs.declared.pages.Pagination.{Pagination}

-- places by block, variant, index
abbrev pub place_cmp : Place → Place → Ordering
place_cmp a b = ordering_then (nat_cmp a.block b.block) (ordering_then (nat_cmp a.variant b.variant) (nat_cmp a.index b.index))

-- counts entry by entry from the first
abbrev pub counts_cmp : List ℕ → List ℕ → Ordering
counts_cmp = slice_cmp nat_cmp

-- picks entry by entry from the last
abbrev pub picks_cmp : List ℕ → List ℕ → Ordering
picks_cmp a b = slice_cmp nat_cmp (reverse a) (reverse b)

-- columns by end, start, run, wide counts, bottom counts, top counts, picks
abbrev pub column_cmp : PageMove → PageMove → Ordering
column_cmp a b =
    ordering_then (place_cmp a.column.to b.column.to)
    (ordering_then (place_cmp a.column.from b.column.from)
    (ordering_then (nat_cmp a.run b.run)
    (ordering_then (counts_cmp a.wide b.wide)
    (ordering_then (counts_cmp a.column.bottom b.column.bottom)
    (ordering_then (counts_cmp a.column.top b.column.top)
    (picks_cmp a.column.picks b.column.picks))))))

-- a zero for each class
abbrev pub no_floats : List ℕ → List ℕ
no_floats counts = map (λ (_ : ℕ). 0) counts

-- the columns of a page in order, the wide counts at the first alone
abbrev pub page_moves : Page → List Column → List PageMove
page_moves page [] = []
page_moves page (column ∷ columns) =
    record { column = column; run = page.run; wide = page.wide } ∷ map (λ (later : Column). record { column = later; run = page.run; wide = no_floats page.wide }) columns

-- the columns of pages that stand from the last to the first, from the last to the first
abbrev pub columns_of : List Page → List PageMove
columns_of [] = []
columns_of (page ∷ pages) = reverse (page_moves page page.columns) ++ columns_of pages

-- the columns of a pagination, from the last to the first
abbrev pub columns : Pagination → List PageMove
columns plan = columns_of (reverse plan.pages)

-- the first difference from the end decides; the smaller is before the greater, and what ends before what goes on
abbrev pub plan_cmp : Pagination → Pagination → Ordering
plan_cmp p q = slice_cmp column_cmp (columns p) (columns q)
