-- Small galleys, styles and paginations on which the definitions are computed.
use Rattle.std.proofs.Common.{zero, suc, ℕ, ℤ, pos, negsuc, List, [], ◌∷◌, Some, None}
use Rattle.std.specs.Prelude.{map, ◌*◌}
use Rattle.pg_list.specs.Barrier.{barrier_body}
use Rattle.pg_list.specs.declared.item.Item.{Item}
use Rattle.pg_list.specs.declared.item.Item.TheVariants.{BoxItem, Carry, Glue, Kern, Penalty, Insert}
use Rattle.pg_list.specs.declared.item.Order.TheVariants.{Finite, Fil}
use Rattle.pg_list.specs.declared.blocks.Block.{Block}
use Rattle.pg_list.specs.declared.blocks.Block.TheVariants.{One, Choice}
use Rattle.pg_list.specs.declared.galley.Place.{Place}
use Rattle.pg_list.specs.GalleyValue.{GalleyValue}
use Rattle.pg_list.specs.Places.{place}
use Rattle.pg_plan.specs.declared.pages.Column.{Column}
use Rattle.pg_plan.specs.declared.pages.Page.{Page}
use Rattle.pg_plan.specs.declared.pages.Pagination.{Pagination}
use Rattle.pg_plan.specs.declared.states.State.{State}
use Rattle.pg_plan.specs.declared.states.Side.TheVariants.{S}
use Rattle.pg_style.specs.Values.{StyleValue}
use Rattle.pg_style.specs.Values.{AreaRuleValue}
use Rattle.pg_style.specs.Plain.{rigid}
use Rattle.pg_style.specs.declared.style.First.{First}
use Rattle.pg_style.specs.declared.style.First.TheVariants.{Single}
use Rattle.pg_style.specs.declared.style.Kind.TheVariants.{Note, Float}
use Rattle.pg_style.specs.declared.style.Area.TheVariants.{Top, Both, Wide}

-- ---- items

abbrev pub points : ℕ → ℤ
points n = pos (n * 65536)

-- a line of 7 points over a depth of 2
abbrev pub line : Item
line = BoxItem (points 7) (points 2) []

-- 3 points between two lines, rigid, or with some stretch
abbrev pub gap : Item
gap = Glue (points 3) (pos 0) Finite (pos 0) []

abbrev pub soft_gap : ℕ → Item
soft_gap stretch = Glue (points 3) (points stretch) Finite (pos 0) []

abbrev pub endless_gap : Item
endless_gap = Glue (points 3) (points 1) Fil (pos 0) []

abbrev pub kern : Item
kern = Kern (points 3) []

abbrev pub penalty : ℕ → Item
penalty n = Penalty (pos n) []

abbrev pub eject : Item
eject = Penalty (negsuc 9999) []

abbrev pub insert : ℕ → ℕ → Item
insert class size = Insert class (points size) []

abbrev pub barrier : Item
barrier = Carry barrier_body

-- ---- styles

abbrev pub area : ℕ → ℕ → ℕ → AreaRuleValue
area count sep gap = record { count = count; sep = rigid (points sep); gap = rigid (points gap) }

-- one column of so many points, no runs, no classes, any badness
abbrev pub plain : ℕ → StyleValue
plain height = record {
  version = 1;
  columns = 1;
  first = Single;
  height = points height;
  topskip = points 10;
  maxdepth = points 4;
  min_text = pos 0;
  tolerance = 10000;
  line = 10;
  max_looseness = 0;
  runs = record { extra = pos 0; demerits = 0 } ∷ [];
  top = area 0 0 0;
  bottom = area 0 0 0;
  wide = area 0 0 0;
  float_column = record { count = 0; demerits = 1000 };
  classes = [];
  fitness = 0;
  ragged = None;
}

-- ---- galleys and paginations

abbrev pub galley : List Item → GalleyValue
galley items = record { width = points 345; blocks = map One items }

abbrev pub at : ℕ → Place
at n = place n 0 0

-- a column of text without floats, where each class counts none
abbrev pub text_column : Place → Place → List ℕ → Column
text_column from to none = record { from = from; to = to; top = none; bottom = none; picks = [] }

-- a column without text, with floats of the one class at its top
abbrev pub floats_at : Place → ℕ → Column
floats_at at n = record { from = at; to = at; top = n ∷ []; bottom = 0 ∷ []; picks = [] }

abbrev pub run_page : ℕ → List ℕ → List Column → Page
run_page run wide columns = record { run = run; wide = wide; columns = columns }

abbrev pub page : List ℕ → List Column → Page
page wide columns = run_page 0 wide columns

abbrev pub pages : List Page → Pagination
pages list = record { pages = list }

-- a page for each of two columns of text
abbrev pub two_pages : ℕ → ℕ → Pagination
two_pages cut end = pages (page [] (text_column (at 0) (at cut) [] ∷ []) ∷ page [] (text_column (at cut) (at end) [] ∷ []) ∷ [])

-- ten lines with gaps between
abbrev pub lines : ℕ → List Item
lines zero = line ∷ []
lines (suc n) = line ∷ gap ∷ lines n

abbrev pub ten_lines : GalleyValue
ten_lines = galley (lines 9)

-- a line, a forced break, a line
abbrev pub forced : GalleyValue
forced = galley (line ∷ eject ∷ line ∷ [])

-- five lines, and a note behind the last
abbrev pub one_note : GalleyValue
one_note = galley (line ∷ soft_gap 1 ∷ line ∷ soft_gap 1 ∷ line ∷ soft_gap 1 ∷ line ∷ soft_gap 1 ∷ line ∷ insert 200 9 ∷ [])

abbrev pub note_style : ℕ → StyleValue
note_style limit = record (plain 58) { classes = record { number = 200; kind = Note (rigid (points 4)) (points limit) } ∷ [] }

-- two lines and two floats, which do not fit beside the text
abbrev pub two_floats : GalleyValue
two_floats = galley (line ∷ insert 100 50 ∷ gap ∷ line ∷ insert 100 10 ∷ [])

abbrev pub floats_style : List ℕ → StyleValue
floats_style distance = record (plain 58) {
  tolerance = 200;
  top = area 1 2 4;
  float_column = record { count = 2; demerits = 1000 };
  classes = record { number = 100; kind = Float Top distance } ∷ [];
}

abbrev pub floats_begun : Pagination
floats_begun = pages (page (0 ∷ []) (text_column (at 0) (at 5) (0 ∷ []) ∷ []) ∷ [])

abbrev pub floats_plan : Pagination
floats_plan = pages (page (0 ∷ []) (text_column (at 0) (at 5) (0 ∷ []) ∷ []) ∷ page (0 ∷ []) (floats_at (at 5) 1 ∷ []) ∷ page (0 ∷ []) (floats_at (at 5) 1 ∷ []) ∷ [])

-- a line and a float, and a line behind a barrier, where a page ends in front of the barrier, or behind it
abbrev pub barrier_behind_eject : GalleyValue
barrier_behind_eject = galley (line ∷ insert 100 10 ∷ eject ∷ barrier ∷ line ∷ [])

abbrev pub barrier_before_eject : GalleyValue
barrier_before_eject = galley (line ∷ insert 100 10 ∷ barrier ∷ eject ∷ line ∷ [])

-- a page up to this place and one from there on, with so many floats at their tops
abbrev pub cut_at : ℕ → ℕ → ℕ → Pagination
cut_at cut first second =
    pages (page (0 ∷ []) (record { from = at 0; to = at cut; top = first ∷ []; bottom = 0 ∷ []; picks = [] } ∷ [])
    ∷ page (0 ∷ []) (record { from = at cut; to = at 5; top = second ∷ []; bottom = 0 ∷ []; picks = [] } ∷ []) ∷ [])

-- the float on a page of its own between them
abbrev pub float_between : Pagination
float_between = pages (page (0 ∷ []) (text_column (at 0) (at 2) (0 ∷ []) ∷ []) ∷ page (0 ∷ []) (floats_at (at 2) 1 ∷ [])
    ∷ page (0 ∷ []) (text_column (at 2) (at 5) (0 ∷ []) ∷ []) ∷ [])

-- a line and a float that may stand above or below it
abbrev pub top_or_bottom : GalleyValue
top_or_bottom = galley (line ∷ insert 100 20 ∷ [])

abbrev pub both_style : StyleValue
both_style = record (plain 58) { top = area 1 0 4; bottom = area 1 0 4; classes = record { number = 100; kind = Float Both (0 ∷ []) } ∷ [] }

abbrev pub with_float : ℕ → ℕ → Pagination
with_float top bottom = pages (page (0 ∷ []) (record { from = at 0; to = at 2; top = top ∷ []; bottom = bottom ∷ []; picks = [] } ∷ []) ∷ [])

-- a float that may come in several columns at the same cost
abbrev pub four_ways : GalleyValue
four_ways = galley (line ∷ endless_gap ∷ line ∷ endless_gap ∷ line ∷ insert 100 30 ∷ endless_gap ∷ line ∷ endless_gap ∷ line ∷ eject ∷ line ∷ [])

abbrev pub four_ways_style : StyleValue
four_ways_style = record (plain 34) {
  top = area 1 0 4;
  float_column = record { count = 1; demerits = 1000 };
  classes = record { number = 100; kind = Float Top (0 ∷ 0 ∷ 0 ∷ 500 ∷ []) } ∷ [];
}

abbrev pub four_ways_plan : Pagination
four_ways_plan = pages (
    page (0 ∷ []) (text_column (at 0) (at 6) (0 ∷ []) ∷ []) ∷ page (0 ∷ []) (floats_at (at 6) 1 ∷ []) ∷ page (0 ∷ []) (text_column (at 6) (at 10) (0 ∷ []) ∷ [])
    ∷ page (0 ∷ []) (text_column (at 10) (at 12) (0 ∷ []) ∷ []) ∷ [])

-- another of the four: the float stands beside the last line
abbrev pub four_ways_late : Pagination
four_ways_late = pages (
    page (0 ∷ []) (text_column (at 0) (at 6) (0 ∷ []) ∷ []) ∷ page (0 ∷ []) (text_column (at 6) (at 10) (0 ∷ []) ∷ []) ∷ page (0 ∷ []) (floats_at (at 10) 1 ∷ [])
    ∷ page (0 ∷ []) (text_column (at 10) (at 12) (0 ∷ []) ∷ []) ∷ [])

-- two columns, and a wide float that is called in the second
abbrev pub wide_float : GalleyValue
wide_float = galley (line ∷ gap ∷ line ∷ gap ∷ line ∷ insert 101 10 ∷ gap ∷ line ∷ [])

abbrev pub wide_style : StyleValue
wide_style = record (plain 22) { columns = 2; wide = area 1 0 4; classes = record { number = 101; kind = Float Wide (0 ∷ 50 ∷ []) } ∷ [] }

abbrev pub wide_begun : Pagination
wide_begun = pages (page (0 ∷ []) (text_column (at 0) (at 3) (0 ∷ []) ∷ []) ∷ [])

abbrev pub wide_plan : Pagination
wide_plan = pages (page (0 ∷ []) (text_column (at 0) (at 3) (0 ∷ []) ∷ text_column (at 3) (at 8) (0 ∷ []) ∷ []) ∷ page (1 ∷ []) (text_column (at 8) (at 8) (0 ∷ []) ∷ []) ∷ [])

abbrev pub wide_state : State
wide_state = record { place = at 3; column = 2; side = S; run = Some 0; wide = None; fitness = None; placed = 0 ∷ []; ages = [] }

-- five lines that hold together but for one gap, and runs of two heights
abbrev pub tie : Item
tie = penalty 10000

abbrev pub tied_lines : GalleyValue
tied_lines = galley (line ∷ tie ∷ gap ∷ line ∷ tie ∷ gap ∷ line ∷ gap ∷ line ∷ tie ∷ gap ∷ line ∷ [])

abbrev pub runs_style : First → StyleValue
runs_style first = record (plain 22) { first = first; runs = record { extra = pos 0; demerits = 0 } ∷ record { extra = points 12; demerits = 300 } ∷ [] }

-- the first page long, the second of this run
abbrev pub runs_plan : ℕ → Pagination
runs_plan run = pages (run_page 1 [] (text_column (at 0) (at 7) [] ∷ []) ∷ run_page run [] (text_column (at 7) (at 12) [] ∷ []) ∷ [])

-- a paragraph of five lines, or of six
abbrev pub paragraph : Block
paragraph = Choice (
    record { looseness = pos 0; demerits = 0; items = line ∷ penalty 150 ∷ gap ∷ line ∷ gap ∷ line ∷ penalty 150 ∷ gap ∷ line ∷ [] }
    ∷ record { looseness = pos 1; demerits = 400; items = line ∷ penalty 150 ∷ gap ∷ line ∷ gap ∷ line ∷ gap ∷ line ∷ penalty 150 ∷ gap ∷ line ∷ [] } ∷ [])

abbrev pub one_choice : GalleyValue
one_choice = record { width = points 345; blocks = paragraph ∷ [] }

abbrev pub choice_style : ℕ → StyleValue
choice_style looseness = record (plain 34) { max_looseness = looseness }

abbrev pub choice_plan : Pagination
choice_plan = pages (page [] (record { from = at 0; to = place 0 1 6; top = []; bottom = []; picks = 1 ∷ [] } ∷ []) ∷ page [] (text_column (place 0 1 6) (at 1) [] ∷ []) ∷ [])

-- a first page that is loose, and a second that is decent
abbrev pub loose_and_decent : GalleyValue
loose_and_decent = galley (line ∷ soft_gap 12 ∷ line ∷ gap ∷ line ∷ penalty 150 ∷ gap ∷ line ∷ [])

abbrev pub fitness_style : ℕ → ℕ → StyleValue
fitness_style version fitness = record (plain 34) { version = version; fitness = fitness }
