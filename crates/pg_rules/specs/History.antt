-- A list of columns, from the last to the first: where its end stands, on which page, and which floats it has placed.
use Rattle.std.specs.Prelude.{ℕ, ◌+◌, ◌%◌, Bool, true, false, ◌==◌, ◌&&◌, not, nat_lt, if◌then◌else◌, List, [], ◌∷◌, map, Option, Some, None, ℤ}
use Rattle.pg_list.specs.declared.galley.Place.{Place}
use Rattle.pg_list.specs.Places.{place}
use Rattle.pg_plan.specs.declared.pages.PageMove.{PageMove}
use Rattle.pg_plan.specs.declared.states.Side.{Side}
use Rattle.pg_plan.specs.declared.states.Side.TheVariants.{L, R, S}
use Rattle.pg_style.specs.Values.{StyleValue}
use Rattle.pg_style.specs.declared.style.First.{First}
use Rattle.pg_style.specs.declared.style.First.TheVariants.{Left, Right, Single}
use Rattle.pg_rules.specs.ColumnRules.{text_fitness}
use Rattle.pg_rules.specs.Floats.{entry, float_count, called, slots, plus_counts, floats, is_area_allowed, takes_wide}
use Rattle.pg_rules.specs.Room.{Document, ColumnContext, checked_height, is_text, size_of}
use Rattle.std.specs.Option.{option_map_or}

-- ---- pages: a page goes on until it has all its columns

-- the number of the next column in its page
abbrev pub next_column : StyleValue → List PageMove → ℕ
next_column style [] = 1
next_column style (m ∷ ms) = if next_column style ms == style.columns then 1 else next_column style ms + 1

-- the number of the next column's page
abbrev pub next_page : StyleValue → List PageMove → ℕ
next_page style [] = 1
next_page style (m ∷ ms) = if next_column style ms == style.columns then next_page style ms + 1 else next_page style ms

-- the side of a page by its number, where the first page has this side
abbrev pub side_of : First → ℕ → Side
side_of Single page = S
side_of Left page = if page % 2 == 1 then L else R
side_of Right page = if page % 2 == 1 then R else L

-- a right page
abbrev pub is_right : Side → Bool
is_right R = true
is_right _ = false

-- the side of the next column's page
abbrev pub next_side : StyleValue → List PageMove → Side
next_side style ms = side_of style.first (next_page style ms)

-- the run of the last column's page
abbrev pub last_run : List PageMove → Option ℕ
last_run [] = None
last_run (m ∷ ms) = Some m.run

-- the run that the next column's page must have: that of its first column, or of the other page of its spread
abbrev pub next_run : StyleValue → List PageMove → Option ℕ
next_run style ms = if (next_column style ms == 1) && not (is_right (next_side style ms)) then None else last_run ms

-- ---- places

-- where the next column starts
abbrev pub place_of : List PageMove → Place
place_of [] = place 0 0 0
place_of (m ∷ ms) = m.column.to

-- ---- floats

-- the counts with those of a column added, its page's wide floats first
abbrev pub with_wide : StyleValue → List ℕ → PageMove → List ℕ
with_wide style placed m = plus_counts style placed m.wide

-- the counts with all floats of a column added: wide, top and bottom
abbrev pub placed_after : StyleValue → List ℕ → PageMove → List ℕ
placed_after style placed m = plus_counts style (plus_counts style (with_wide style placed m) m.column.top) m.column.bottom

-- how many floats of each class are placed
abbrev pub placed_of : StyleValue → List PageMove → List ℕ
placed_of style [] = map (λ (slot : ℕ). 0) (slots style)
placed_of style (m ∷ ms) = placed_after style (placed_of style ms) m

-- the height of a wide area that is made of the next floats, where it has any
abbrev pub made_wide : Document → List ℕ → List ℕ → Option ℤ
made_wide doc placed counts =
    if nat_lt 0 (float_count doc.style counts) then Some (checked_height (floats doc.blocks doc.style)
    (is_area_allowed doc.style takes_wide doc.style.wide.count counts) doc.style.wide placed counts) else None

-- the height of the wide area of the last column's page
abbrev pub wide_of : Document → List PageMove → Option ℤ
wide_of doc [] = None
wide_of doc (m ∷ ms) = if next_column doc.style ms == 1 then made_wide doc (placed_of doc.style ms) m.wide else wide_of doc ms

-- a float is called before a place
abbrev pub is_called : Document → Place → ℕ × ℕ → Bool
is_called doc at float = nat_lt float.1 (entry (called doc.blocks doc.style at) float.0)

-- the page of the column whose text calls a float; the last column's where none before it does
abbrev pub calling_page : Document → List PageMove → ℕ × ℕ → ℕ
calling_page doc [] float = 1
calling_page doc (m ∷ ms) float = if is_called doc (place_of ms) float then calling_page doc ms float else next_page doc.style ms

-- ---- a column in its context

-- a column behind so many placed floats, on a page with a wide area of this height
abbrev pub context_with : Document → Option ℤ → List ℕ → PageMove → ColumnContext
context_with doc wide placed m =
    record { document = doc; column = m.column; run = m.run; wide = wide; before = with_wide doc.style placed m }

-- a column behind the columns before it
abbrev pub context : Document → PageMove → List PageMove → ColumnContext
context doc m ms = context_with doc (wide_of doc (m ∷ ms)) (placed_of doc.style ms) m

-- ---- fitness

-- the fitness of a column; decent where its end is no place behind its start
abbrev pub column_fitness : ColumnContext → ℕ
column_fitness it = option_map_or (text_fitness it) (size_of it) 2

-- the fitness of the last text column, in version 2
abbrev pub fitness_after : Option ℕ → ColumnContext → Option ℕ
fitness_after fitness it = if it.document.style.version == 1 then None else (if is_text it then Some (column_fitness it) else fitness)

-- the fitness of the last text among the columns
abbrev pub fitness_of : Document → List PageMove → Option ℕ
fitness_of doc [] = None
fitness_of doc (m ∷ ms) = fitness_after (fitness_of doc ms) (context doc m ms)
