-- The state of its parts, and the column of a layout.
use Rattle.std.specs.Prelude.{ℕ, List}
use Rattle.pg_layouts.specs.declared.layout.Layout.{Layout}
use Rattle.pg_list.specs.declared.galley.Place.{Place}
use Rattle.pg_plan.specs.declared.pages.PageMove.{PageMove}
use Rattle.pg_plan.specs.declared.states.State.{State}
use Rattle.pg_small.specs.declared.states.StateParts.{StateParts}

-- the parts as one value
abbrev pub whole : StateParts → State
whole parts = record {
  place = parts.place;
  column = parts.column;
  side = parts.side;
  run = parts.run;
  wide = parts.wide;
  fitness = parts.fitness;
  placed = parts.placed.now;
  ages = parts.ages.now;
}

-- the column of a layout between two places, by these picks
abbrev pub column_of : Layout → Place → Place → List ℕ → PageMove
column_of layout from to picks = record {
  column = record { from = from; to = to; top = layout.top; bottom = layout.bottom; picks = picks };
  run = layout.run;
  wide = layout.wide;
}

-- the layout on a page of another run
abbrev pub with_run : ℕ → Layout → Layout
with_run run layout = record layout { run = run }
