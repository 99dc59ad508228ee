-- The pages that columns fill, one or two on each.
use Rattle.std.specs.Prelude.{ℕ, ◌==◌, if◌then◌else◌, List, [], ◌∷◌, map}
use Rattle.law_columns.specs.Pages.{page_with}
use Rattle.pg_plan.specs.declared.pages.Page.{Page}
use Rattle.pg_plan.specs.declared.pages.PageMove.{PageMove}

-- the page of a column alone
abbrev pub single_page : PageMove → Page
single_page m = page_with m.run m.wide (m.column ∷ [])

-- the page of two columns
abbrev pub double_page : PageMove → PageMove → Page
double_page m n = page_with m.run m.wide (m.column ∷ n.column ∷ [])

-- two columns on each page, and one on the last where they are odd
abbrev pub double_pages : List PageMove → List Page
double_pages [] = []
double_pages (m ∷ []) = single_page m ∷ []
double_pages (m ∷ n ∷ ms) = double_page m n ∷ double_pages ms

-- the pages of columns in order
abbrev pub paged : ℕ → List PageMove → List Page
paged columns ms = if columns == 2 then double_pages ms else map single_page ms
