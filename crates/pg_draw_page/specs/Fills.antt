-- How columns and pages fill their goals.
use Rattle.std.specs.Prelude.{if◌then◌else◌, List, [], ◌∷◌, Option, Some, None, ℤ, pos, ◌-ℤ◌, int_lt}
use Rattle.pg_drawing.specs.declared.model.DrawnColumn.{DrawnColumn}
use Rattle.pg_drawing.specs.declared.model.Numbers.{Numbers}
use Rattle.pg_drawing.specs.declared.model.Numbers.TheVariants as of
use Rattle.pg_draw_page.specs.declared.fill.Fill.{Fill}
use Rattle.pg_draw_page.specs.declared.fill.Fill.TheVariants.{Full, Short, Long, Without}

-- a text of this height, with this goal
abbrev pub fill_between : ℤ → ℤ → Fill
fill_between goal total = if int_lt total goal then Short (goal -ℤ total)
    else if int_lt goal total then Long (total -ℤ goal) else Full

-- how a column with these numbers fills its goal
abbrev pub fill_of : Option Numbers → Fill
fill_of None = Without
fill_of (Some (of.Without demerits)) = Without
fill_of (Some (of.Set goal total badness penalty demerits)) = fill_between goal total

-- the badness of a column with these numbers; one without text has none
abbrev pub badness_of : Option Numbers → ℤ
badness_of None = pos 0
badness_of (Some (of.Without demerits)) = pos 0
badness_of (Some (of.Set goal total badness penalty demerits)) = badness

-- the greater of two numbers
abbrev pub greater : ℤ → ℤ → ℤ
greater most number = if int_lt most number then number else most

-- the greatest badness of columns, and no less than this
abbrev pub greatest : ℤ → List DrawnColumn → ℤ
greatest most [] = most
greatest most (column ∷ columns) = greatest (greater most (badness_of column.numbers)) columns
