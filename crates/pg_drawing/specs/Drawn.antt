-- The drawing of a page text.
use Rattle.std.specs.Prelude.{ℕ, ◌^◌, if◌then◌else◌, List, [], ◌∷◌, map, Option, Some, None, ℤ, pos, ◌+ℤ◌, codes}
use Rattle.std.specs.Option.{option_map}
use Rattle.std.specs.Str.{bytes_eq}
use Rattle.pg_list.specs.Whole.{whole_sum_by}
use Rattle.pg_scan.specs.Parts.{first_part, parts_of}
use Rattle.pg_words.specs.InOrder.{any_word, due, ended, next, place_at, words_of}
use Rattle.pg_words.specs.Read.{◌>>=◌, number_below, scaled_word, side_word, whole_word}
use Rattle.pg_drawing.specs.Letters.{letters}
use Rattle.pg_drawing.specs.Pieces.{Lines, begins, cut, until}
use Rattle.pg_drawing.specs.Shapes.{extent, shape_of}
use Rattle.pg_drawing.specs.declared.pieces.Kind.TheVariants as at
use Rattle.pg_drawing.specs.declared.model.AreaName.{AreaName}
use Rattle.pg_drawing.specs.declared.model.AreaName.TheVariants.{Wide, Top, Text, Bottom, Notes, Other}
use Rattle.pg_drawing.specs.declared.model.DrawnArea.{DrawnArea}
use Rattle.pg_drawing.specs.declared.model.DrawnColumn.{DrawnColumn}
use Rattle.pg_drawing.specs.declared.model.DrawnPage.{DrawnPage}
use Rattle.pg_drawing.specs.declared.model.Drawing.{Drawing}
use Rattle.pg_drawing.specs.declared.model.Ends.{Ends}
use Rattle.pg_drawing.specs.declared.model.Head.{Head}
use Rattle.pg_drawing.specs.declared.model.Mark.{Mark}
use Rattle.pg_drawing.specs.declared.model.Numbers.{Numbers}
use Rattle.pg_drawing.specs.declared.model.Numbers.TheVariants.{Set, Without}
use Rattle.pg_drawing.specs.declared.model.PageHead.{PageHead}

-- ---- marks

-- how much an item takes of a column
abbrev pub item_extent : Lines → ℤ
item_extent item = extent (shape_of item.head)

-- an item that begins here
abbrev pub mark_at : ℤ → Lines → Mark
mark_at top item = record {
  top = top;
  shape = shape_of item.head;
  words = letters item;
}

-- items one below the other, from here on
abbrev pub marks_from : ℤ → List Lines → List Mark
marks_from top [] = []
marks_from top (item ∷ items) = mark_at top item ∷ marks_from (top +ℤ item_extent item) items

-- the items among lines
abbrev pub items_of : List (List ℕ) → List Lines
items_of lines = cut (begins at.Item) lines

-- ---- areas

-- the name of an area
unfoldable pub area_name : List ℕ → AreaName
area_name line =
    if bytes_eq line (codes "area wide") then Wide
    else if bytes_eq line (codes "area top") then Top
    else if bytes_eq line (codes "area text") then Text
    else if bytes_eq line (codes "area bottom") then Bottom
    else if bytes_eq line (codes "area notes") then Notes
    else Other

-- an area, with its items from its top on
abbrev pub area_of : Lines → DrawnArea
area_of lines = record {
  name = area_name lines.head;
  marks = marks_from (pos 0) (items_of lines.rest);
  height = whole_sum_by item_extent (items_of lines.rest);
}

abbrev pub areas_of : List (List ℕ) → List DrawnArea
areas_of lines = map area_of (cut (begins at.Area) lines)

-- ---- columns

-- where a column begins and ends
unfoldable pub ends_of : List (List ℕ) → Option Ends
ends_of words = do
  head ← due (codes "column") words
  number ← next any_word head
  froms ← due (codes "from") number.1
  from ← place_at froms
  tos ← due (codes "to") from.1
  to ← place_at tos
  Some (record { from = from.0; to = to.0 })

-- badness, penalty and demerits
pub record Demerits : Type 0 where
  pub badness : ℤ
  pub penalty : ℤ
  pub demerits : ℤ

-- these at the end of a line
unfoldable pub demerits_at : List (List ℕ) → Option Demerits
demerits_at words = do
  badnesses ← due (codes "badness") words
  badness ← next whole_word badnesses
  penalties ← due (codes "penalty") badness.1
  penalty ← next whole_word penalties
  sums ← due (codes "demerits") penalty.1
  demerits ← next whole_word sums
  _ ← ended demerits.1
  Some (record { badness = badness.0; penalty = penalty.0; demerits = demerits.0 })

-- the words of the goal and of the total of a text column, and its demerits
pub record SetParts : Type 0 where
  pub goal : List ℕ
  pub total : List ℕ
  pub demerits : Demerits

unfoldable pub set_parts : List (List ℕ) → Option SetParts
set_parts words = do
  head ← due (codes "set") words
  goals ← due (codes "goal") head
  goal ← next any_word goals
  totals ← due (codes "total") goal.1
  total ← next any_word totals
  demerits ← demerits_at total.1
  Some (record { goal = goal.0; total = total.0; demerits = demerits })

-- the numbers that the words say
unfoldable pub set_from : SetParts → Option Numbers
set_from it = do
  goal ← scaled_word it.goal
  total ← scaled_word it.total
  Some (Set goal total it.demerits.badness it.demerits.penalty it.demerits.demerits)

-- the numbers of a column with text
abbrev pub set_of : List (List ℕ) → Option Numbers
set_of words = set_parts words >>= set_from

-- the number of a column without text
unfoldable pub without_of : List (List ℕ) → Option Numbers
without_of words = do
  head ← due (codes "without") words
  texts ← due (codes "text") head
  sums ← due (codes "demerits") texts
  demerits ← next whole_word sums
  _ ← ended demerits.1
  Some (Without demerits.0)

-- the one, or the other
abbrev pub one_of : Option Numbers → Option Numbers → Option Numbers
one_of None other = other
one_of (Some numbers) other = Some numbers

-- the numbers of a column, which its first line says
abbrev pub numbers_of : List ℕ → Option Numbers
numbers_of line = one_of (set_of (words_of line)) (without_of (words_of line))

abbrev pub column_of : Lines → DrawnColumn
column_of lines = record {
  ends = ends_of (words_of lines.head);
  numbers = numbers_of (first_part lines.rest);
  areas = areas_of lines.rest;
}

abbrev pub columns_of : List (List ℕ) → List DrawnColumn
columns_of lines = map column_of (cut (begins at.Column) lines)

-- ---- pages

-- the side and the run of a page
unfoldable pub page_head : List (List ℕ) → Option PageHead
page_head words = do
  head ← due (codes "page") words
  number ← next any_word head
  sided ← due (codes "side") number.1
  side ← next side_word sided
  runs ← due (codes "run") side.1
  run ← next (number_below (2 ^ 8)) runs
  Some (record { side = side.0; run = run.0 })

-- a page has the areas in front of its first column, and its columns
abbrev pub page_of : Lines → DrawnPage
page_of lines = record {
  head = page_head (words_of lines.head);
  wide = areas_of (until (begins at.Column) lines.rest);
  columns = columns_of lines.rest;
}

abbrev pub pages_of : List (List ℕ) → List DrawnPage
pages_of lines = map page_of (cut (begins at.Page) lines)

-- ---- the whole

-- the cost, and the word of the width
unfoldable pub head_words : List (List ℕ) → Option (ℤ × List ℕ)
head_words words = do
  head ← due (codes "pages") words
  pages ← next any_word head
  costs ← due (codes "cost") pages.1
  cost ← next whole_word costs
  wide ← due (codes "width") cost.1
  width ← next any_word wide
  Some (cost.0, width.0)

-- the cost and the width
unfoldable pub head_of : List (List ℕ) → Option Head
head_of words = head_words words
    >>= (λ it. option_map (λ width. record { cost = it.0; width = width }) (scaled_word it.1))

-- the drawing of lines
abbrev pub drawn : List (List ℕ) → Drawing
drawn lines = record {
  head = head_of (words_of (first_part lines));
  pages = pages_of lines;
}

-- the drawing of a page text
abbrev pub drawing_of : List ℕ → Drawing
drawing_of text = drawn (parts_of 10 text)
