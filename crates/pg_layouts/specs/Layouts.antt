-- The runs and the float counts with which a column may follow a state.
use Rattle.std.specs.Prelude.{ℕ, ◌-◌, Bool, true, ◌==◌, if◌then◌else◌, List, [], ◌∷◌, length, map, Option}
use Rattle.std.specs.List.{filter, flat_map, range_with_len}
use Rattle.std.specs.Option.{option_map_or}
use Rattle.pg_list.specs.declared.galley.Place.{Place}
use Rattle.pg_plan.specs.declared.pages.PageMove.{PageMove}
use Rattle.pg_plan.specs.declared.states.State.{State}
use Rattle.pg_style.specs.Values.{StyleValue}
use Rattle.pg_style.specs.declared.style.Area.{Area}
use Rattle.pg_rules.specs.Floats.{entry, plus_counts, slots, takes_bottom, takes_in_column, takes_top, takes_wide}
use Rattle.pg_rules.specs.Room.{Document}
use Rattle.pg_floats.specs.Spots.{takes_slot}
use Rattle.pg_layouts.specs.declared.layout.Layout.{Layout}
use Rattle.pg_layouts.specs.Counts.{count_lists}

-- the column of that layout from a state's place to another
abbrev pub move_of : State → Layout → Place → List ℕ → PageMove
move_of u layout to picks = record {
  column = record { from = u.place; to = to; top = layout.top; bottom = layout.bottom; picks = picks };
  run = layout.run;
  wide = layout.wide;
}

-- of each class that an area takes, the floats between those that are placed and a ceiling
abbrev pub limits : StyleValue → (Area → Bool) → List ℕ → List ℕ → List ℕ
limits style takes before ceiling =
    map (λ (slot : ℕ). if takes_slot style takes slot then entry ceiling slot - entry before slot else 0) (slots style)

-- all counts of an area that takes so many floats, behind those that are placed and up to a ceiling
abbrev pub area_lists : StyleValue → (Area → Bool) → ℕ → List ℕ → List ℕ → List (List ℕ)
area_lists style takes most before ceiling = count_lists most (limits style takes before ceiling)

-- no float of any class
abbrev pub zeros : StyleValue → List ℕ
zeros style = map (λ (slot : ℕ). 0) (slots style)

-- a page that must have a run has no other
abbrev pub takes_run : Option ℕ → ℕ → Bool
takes_run must run = option_map_or (λ (other : ℕ). run == other) must true

-- the runs that the page of the next column may have
abbrev pub runs_of : StyleValue → Option ℕ → List ℕ
runs_of style must = filter (takes_run must) (range_with_len 0 (length style.runs))

-- the counts of wide floats that it may have; a second column has none
abbrev pub wides_of : Document → State → List ℕ → List (List ℕ)
wides_of doc u ceiling =
    if u.column == 1 then area_lists doc.style takes_wide doc.style.wide.count u.placed ceiling
    else zeros doc.style ∷ []

-- a layout by its parts
abbrev pub layout_of : ℕ → List ℕ → List ℕ → List ℕ → Layout
layout_of run wide top bottom = record { run = run; wide = wide; top = top; bottom = bottom }

-- the layouts with these floats across the page and at the top
abbrev pub with_bottoms : StyleValue → List ℕ → List ℕ → ℕ → List ℕ → List ℕ → List Layout
with_bottoms style placed ceiling run wide top =
    map (layout_of run wide top)
    (area_lists style takes_bottom style.bottom.count (plus_counts style (plus_counts style placed wide) top) ceiling)

-- the layouts with these floats across the page
abbrev pub with_tops : StyleValue → List ℕ → List ℕ → ℕ → List ℕ → List Layout
with_tops style placed ceiling run wide =
    flat_map (with_bottoms style placed ceiling run wide)
    (area_lists style takes_top style.top.count (plus_counts style placed wide) ceiling)

-- the layouts of a column of text
abbrev pub text_layouts : Document → State → List ℕ → List Layout
text_layouts doc u ceiling =
    flat_map (λ (run : ℕ). flat_map (with_tops doc.style u.placed ceiling run) (wides_of doc u ceiling))
    (runs_of doc.style u.run)

-- the layouts without text with these floats across the page
abbrev pub with_floats : StyleValue → List ℕ → List ℕ → ℕ → List ℕ → List Layout
with_floats style placed ceiling run wide =
    map (λ (top : List ℕ). layout_of run wide top (zeros style))
    (area_lists style takes_in_column style.float_column.count (plus_counts style placed wide) ceiling)

-- the layouts of a column without text
abbrev pub float_layouts : Document → State → List ℕ → List Layout
float_layouts doc u ceiling =
    flat_map (λ (run : ℕ). flat_map (with_floats doc.style u.placed ceiling run) (wides_of doc u ceiling))
    (runs_of doc.style u.run)
