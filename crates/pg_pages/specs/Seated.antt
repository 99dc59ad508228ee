-- A column in the place where it stands, and what its printing asks of it.
use Rattle.std.specs.Prelude.{◌≡◌, ◌≤◌, true, Option, Some, None, ℤ, pos, nat_abs, ◌≤ℤ◌}
use Rattle.pg_plan.specs.declared.pages.Column.{Column}
use Rattle.pg_rules.specs.ColumnRules.{has_dealable}
use Rattle.pg_rules.specs.Follow.{KeepsColumnRules}
use Rattle.pg_rules.specs.Room.{ColumnContext, Document, before_bottom}
use Rattle.pg_pages.specs.Printed.{FitTogether}
use Rattle.pg_pages.specs.declared.seats.Seat.{Seat}

-- the column in its place
abbrev pub seated : Document → Seat → Column → ColumnContext
seated doc seat column = record {
  document = doc;
  column = column;
  run = seat.run;
  wide = seat.wide;
  before = seat.before;
}

-- the height of a wide area, where there is one
abbrev pub IsWide : Option ℤ → Type 0
IsWide None = Unit {0}
IsWide (Some height) = (pos 0 ≤ℤ height) × (nat_abs height ≤ 8589934584)

-- the column keeps the rules on columns, its floats are there, and the wide area of its page is within bounds
pub record MayPrint (it : ColumnContext) : Type 0 where
  pub rules : KeepsColumnRules it
  pub deals : has_dealable it ≡ true
  pub wide : IsWide it.wide
  pub tops_fit : FitTogether it.before it.column.top
  pub bottoms_fit : FitTogether (before_bottom it) it.column.bottom
