-- The paginations whose text reads back.
use Rattle.std.specs.Prelude.{◌≡◌, ◌<◌, ◌≤◌, ◌^◌, ℕ, true, is_some, length, List, [], ◌∷◌, Some, ℤ, nat_abs}
use Rattle.pg_list.specs.GalleyValue.{GalleyValue}
use Rattle.pg_plan.specs.declared.pages.Column.{Column}
use Rattle.pg_plan.specs.declared.pages.PageMove.{PageMove}
use Rattle.pg_plan.specs.declared.pages.Pagination.{Pagination}
use Rattle.pg_plan.specs.Order.{columns}
use Rattle.pg_style.specs.Values.{StyleValue}
use Rattle.pg_rules.specs.ColumnRules.{text_total, text_goal, text_badness}
use Rattle.pg_rules.specs.Cost.{text_demerits}
use Rattle.pg_rules.specs.History.{context}
use Rattle.pg_rules.specs.Legal.{document}
use Rattle.pg_rules.specs.Room.{Document, ColumnContext, is_text, size_of}
use Rattle.pg_pages.specs.PageText.{end_penalty}
use Rattle.law_words.specs.Ranges.{AllBelow, IsPrintedPlace, is_wide}

-- places, counts and picks are in the ranges of their types
pub record IsPrintedColumn (column : Column) : Type 0 where
  pub from : IsPrintedPlace column.from
  pub to : IsPrintedPlace column.to
  pub top : AllBelow (2 ^ 16) column.top
  pub bottom : AllBelow (2 ^ 16) column.bottom
  pub picks : AllBelow (2 ^ 32) column.picks

-- the numbers of a text column
pub record IsPrintedNumbers (goal total : ℤ) (badness : ℕ) (penalty demerits : ℤ) : Type 0 where
  pub goal_in : nat_abs goal ≤ 2 ^ 60
  pub total_in : nat_abs total ≤ 2 ^ 60
  pub badness_in : badness < 2 ^ 127
  pub penalty_in : is_wide penalty ≡ true
  pub demerits_in : is_wide demerits ≡ true

-- the numbers that a column's text prints are in range
pub record IsPrintedBody (it : ColumnContext) : Type 0 where
  pub sized : is_text it ≡ true → is_some (size_of it) ≡ true
  pub numbers : (n : ℕ) → size_of it ≡ Some n →
      IsPrintedNumbers (text_goal it n) (text_total it n) (text_badness it n) (end_penalty it n) (text_demerits it n)
  pub demerits : it.document.style.float_column.demerits < 2 ^ 127

-- a column with its run, its wide counts and the numbers of its text
pub record IsPrintedMove (doc : Document) (m : PageMove) (ms : List PageMove) : Type 0 where
  pub column : IsPrintedColumn m.column
  pub run : m.run < 2 ^ 8
  pub wide : AllBelow (2 ^ 16) m.wide
  pub body : IsPrintedBody (context doc m ms)

-- of columns from the last to the first
abbrev pub ArePrintedMoves : Document → List PageMove → Type 0
ArePrintedMoves doc [] = Unit {0}
ArePrintedMoves doc (m ∷ ms) = IsPrintedMove doc m ms × ArePrintedMoves doc ms

-- what a page text prints is in range
pub record IsPrintedPlan (galley : GalleyValue) (style : StyleValue) (plan : Pagination) (cost : ℤ) : Type 0 where
  pub pages : length plan.pages < 10 ^ 64
  pub cost_in : is_wide cost ≡ true
  pub width : nat_abs galley.width ≤ 2 ^ 60
  pub moves : ArePrintedMoves (document galley style) (columns plan)
