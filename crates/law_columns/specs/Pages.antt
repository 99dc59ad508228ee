-- The pages that a list of columns fills.
use Rattle.std.specs.Prelude.{ℕ, ◌==◌, if◌then◌else◌, List, [], ◌∷◌, ◌++◌, reverse}
use Rattle.pg_plan.specs.declared.pages.PageMove.{PageMove}
use Rattle.pg_plan.specs.declared.pages.Column.{Column}
use Rattle.pg_plan.specs.declared.pages.Page.{Page}
use Rattle.pg_plan.specs.declared.pages.Pagination.{Pagination}
use Rattle.pg_style.specs.Values.{StyleValue}
use Rattle.pg_rules.specs.History.{next_column}

abbrev pub page_with : ℕ → List ℕ → List Column → Page
page_with run wide columns = record { run = run; wide = wide; columns = columns }

abbrev pub add_column : Column → List Page → List Page
add_column column [] = []
add_column column (page ∷ pages) = page_with page.run page.wide (page.columns ++ column ∷ []) ∷ pages

-- from the last page to the first
abbrev pub pages_from : StyleValue → List PageMove → List Page
pages_from style [] = []
pages_from style (m ∷ ms) = if next_column style ms == 1 then page_with m.run m.wide
    (m.column ∷ []) ∷ pages_from style ms else add_column m.column (pages_from style ms)

abbrev pub plan_of : StyleValue → List PageMove → Pagination
plan_of style ms = record { pages = reverse (pages_from style ms) }
