-- What the lines of a page text say.
use Rattle.std.specs.Prelude.{ℕ, ◌^◌, List, [], decimal, codes, Option, Some, ℤ}
use Rattle.std.specs.Option.{option_map}
use Rattle.pg_list.specs.declared.galley.Place.{Place}
use Rattle.pg_plan.specs.declared.pages.Column.{Column}
use Rattle.pg_plan.specs.declared.pages.Page.{Page}
use Rattle.pg_words.specs.InOrder.{any_word, due, next, ended, place_at}
use Rattle.pg_words.specs.Read.{◌>>=◌, numeral, number_below, numbers_word, whole_word, scaled_word, side_word}

-- ---- the first line

-- the cost, and the word of the width
unfoldable pub head_words : List (List ℕ) → Option (ℤ × List ℕ)
head_words words = do
  head ← due (codes "pages") words
  pages ← next numeral head
  costs ← due (codes "cost") pages.1
  cost ← next whole_word costs
  wide ← due (codes "width") cost.1
  width ← next any_word wide
  _ ← ended width.1
  Some (cost.0, width.0)

-- the cost
unfoldable pub head_of : List (List ℕ) → Option ℤ
head_of words = head_words words >>= (λ it. option_map (λ _. it.0) (scaled_word it.1))

-- ---- pages

-- the run of the page of this number, and the word of its wide counts
unfoldable pub page_words : ℕ → List (List ℕ) → Option (ℕ × List ℕ)
page_words number words = do
  head ← due (codes "page") words
  sides ← due (decimal number) head
  sided ← due (codes "side") sides
  side ← next side_word sided
  runs ← due (codes "run") side.1
  run ← next (number_below (2 ^ 8)) runs
  wides ← due (codes "wide") run.1
  wide ← next any_word wides
  _ ← ended wide.1
  Some (run.0, wide.0)

-- the page of this number, without columns
unfoldable pub page_of : ℕ → List (List ℕ) → Option Page
page_of number words = page_words number words
    >>= (λ it. option_map (λ wide. record { run = it.0; wide = wide; columns = [] }) (numbers_word (2 ^ 16) it.1))

-- ---- columns

-- the places of a column, and the words of its lists
pub record ColumnParts : Type 0 where
  pub from : Place
  pub to : Place
  pub top : List ℕ
  pub bottom : List ℕ
  pub picks : List ℕ

-- the words of the lists of a column
unfoldable pub list_words : Place → Place → List (List ℕ) → Option ColumnParts
list_words from to words = do
  tops ← due (codes "top") words
  top ← next any_word tops
  bottoms ← due (codes "bottom") top.1
  bottom ← next any_word bottoms
  picked ← due (codes "picks") bottom.1
  picks ← next any_word picked
  _ ← ended picks.1
  Some (record { from = from; to = to; top = top.0; bottom = bottom.0; picks = picks.0 })

-- the words of the column of this number
unfoldable pub column_words : ℕ → List (List ℕ) → Option ColumnParts
column_words number words = do
  head ← due (codes "column") words
  froms ← due (decimal number) head
  fromed ← due (codes "from") froms
  from ← place_at fromed
  tos ← due (codes "to") from.1
  to ← place_at tos
  list_words from.0 to.0 to.1

-- the column that the words say
unfoldable pub column_from : ColumnParts → Option Column
column_from it = do
  top ← numbers_word (2 ^ 16) it.top
  bottom ← numbers_word (2 ^ 16) it.bottom
  picks ← numbers_word (2 ^ 32) it.picks
  Some (record { from = it.from; to = it.to; top = top; bottom = bottom; picks = picks })

-- the column of this number
unfoldable pub column_of : ℕ → List (List ℕ) → Option Column
column_of number words = column_words number words >>= column_from

-- ---- the numbers of a column

-- badness, penalty and demerits, at the end of a line
unfoldable pub demerits_at : List (List ℕ) → Option (Unit {0})
demerits_at words = do
  badnesses ← due (codes "badness") words
  badness ← next whole_word badnesses
  penalties ← due (codes "penalty") badness.1
  penalty ← next whole_word penalties
  sums ← due (codes "demerits") penalty.1
  demerits ← next whole_word sums
  ended demerits.1

-- the words of the goal and the total of a text column
unfoldable pub set_words : List (List ℕ) → Option (List ℕ × List ℕ)
set_words words = do
  head ← due (codes "set") words
  goals ← due (codes "goal") head
  goal ← next any_word goals
  totals ← due (codes "total") goal.1
  total ← next any_word totals
  _ ← demerits_at total.1
  Some (goal.0, total.0)

-- the numbers of a text column: goal, total, badness, penalty and demerits
unfoldable pub set_of : List (List ℕ) → Option (Unit {0})
set_of words = do
  it ← set_words words
  goal ← scaled_word it.0
  total ← scaled_word it.1
  Some tt

-- the number of a column without text
unfoldable pub without_of : List (List ℕ) → Option (Unit {0})
without_of words = do
  head ← due (codes "without") words
  texts ← due (codes "text") head
  sums ← due (codes "demerits") texts
  demerits ← next whole_word sums
  ended demerits.1
