-- The text of pages in reading order, page by page and column by column. Nobody need believe what stands here.
use Rattle.std.specs.Prelude.{◌≡◌, ◌≤◌, length, ℕ, ◌+◌, ◌||◌, Bool, true, false, nat_lt, List, [], ◌∷◌, ◌++◌, codes, Option, ℤ}
use Rattle.pg_plan.specs.declared.pages.Column.{Column}
use Rattle.pg_plan.specs.declared.pages.Page.{Page}
use Rattle.pg_style.specs.Values.{StyleValue}
use Rattle.pg_rules.specs.Floats.{is_area_allowed, plus_counts, takes_wide}
use Rattle.pg_rules.specs.History.{made_wide, side_of}
use Rattle.pg_rules.specs.Room.{ColumnContext, Document}
use Rattle.pg_pages.specs.PageText.{area, column_body, column_line, hanging_text, hung_sizes, page_line}
use Rattle.pg_pages.specs.Printed.{FitTogether}
use Rattle.pg_pages.specs.Seated.{IsWide, MayPrint}

-- a column on a page of this run, below a wide area of this height, behind so many placed floats
abbrev pub context_at : Document → ℕ → Option ℤ → List ℕ → Column → ColumnContext
context_at doc run wide before column = record {
  document = doc;
  column = column;
  run = run;
  wide = wide;
  before = before;
}

-- the floats placed behind a column
abbrev pub placed_behind : StyleValue → List ℕ → Column → List ℕ
placed_behind style before column = plus_counts style (plus_counts style before column.top) column.bottom

-- the floats placed behind columns
abbrev pub placed_from : StyleValue → List ℕ → List Column → List ℕ
placed_from style before [] = before
placed_from style before (column ∷ columns) = placed_from style (placed_behind style before column) columns

-- a column, of this number in its page
abbrev pub seat_text : Document → ℕ → Option ℤ → ℕ → List ℕ → Column → List ℕ
seat_text doc run wide number before column =
    column_line number column ++ column_body (context_at doc run wide before column)

-- the columns of a page from one on
abbrev pub columns_from : Document → ℕ → Option ℤ → ℕ → List ℕ → List Column → List ℕ
columns_from doc run wide number before [] = []
columns_from doc run wide number before (column ∷ columns) = seat_text doc run wide number before column
    ++ columns_from doc run wide (number + 1) (placed_behind doc.style before column) columns

-- each may be printed
abbrev pub MayFrom : Document → ℕ → Option ℤ → List ℕ → List Column → Type 0
MayFrom doc run wide before [] = Unit {0}
MayFrom doc run wide before (column ∷ columns) = MayPrint (context_at doc run wide before column)
    × MayFrom doc run wide (placed_behind doc.style before column) columns

-- a page of this number, behind so many placed floats
abbrev pub sheet_text : Document → ℕ → List ℕ → Page → List ℕ
sheet_text doc number placed page = page_line number (side_of doc.style.first number) page.run page.wide
    ++ (area (codes "wide") (hanging_text doc doc.style.wide placed page.wide (hung_sizes doc doc.style.wide placed page.wide))
    ++ columns_from doc page.run (made_wide doc placed page.wide) 1 (plus_counts doc.style placed page.wide) page.columns)

-- the floats placed behind a page
abbrev pub sheet_behind : StyleValue → List ℕ → Page → List ℕ
sheet_behind style placed page = placed_from style (plus_counts style placed page.wide) page.columns

-- pages from one on
abbrev pub sheets_text : Document → ℕ → List ℕ → List Page → List ℕ
sheets_text doc number placed [] = []
sheets_text doc number placed (page ∷ pages) = sheet_text doc number placed page
    ++ sheets_text doc (number + 1) (sheet_behind doc.style placed page) pages

-- the page's wide floats are allowed, and its columns may be printed
pub record MaySheet (doc : Document) (placed : List ℕ) (page : Page) : Type 0 where
  pub wide : is_area_allowed doc.style takes_wide doc.style.wide.count page.wide ≡ true
  pub wide_fits : FitTogether placed page.wide
  pub high : IsWide (made_wide doc placed page.wide)
  pub columns : MayFrom doc page.run (made_wide doc placed page.wide) (plus_counts doc.style placed page.wide) page.columns

-- each page may be printed
abbrev pub MaySheets : Document → List ℕ → List Page → Type 0
MaySheets doc placed [] = Unit {0}
MaySheets doc placed (page ∷ pages) = MaySheet doc placed page
    × MaySheets doc (sheet_behind doc.style placed page) pages

-- some count is not 0
abbrev pub is_any : List ℕ → Bool
is_any [] = false
is_any (count ∷ counts) = nat_lt 0 count || is_any counts

-- each page has a column, the last no more than it may have, and every other one all
abbrev pub AreFilled : ℕ → List Page → Type 0
AreFilled full [] = Unit {0}
AreFilled full (page ∷ []) = (1 ≤ length page.columns) × (length page.columns ≤ full)
AreFilled full (page ∷ next ∷ pages) = (1 ≤ length page.columns) × (length page.columns ≡ full)
    × AreFilled full (next ∷ pages)
