-- The steps as code finds them: each field from sums and from the ages of the state.
use Rattle.std.specs.Prelude.{ℕ, ◌+◌, min, Bool, ◌==◌, ◌&&◌, ◌||◌, not, nat_le, nat_lt, int_le, if◌then◌else◌, is_some, unwrap_or, List, ◌++◌, length, map, Option, Some, None, ℤ, pos, ◌+ℤ◌, ◌-ℤ◌}
use Rattle.std.specs.List.{filter, flat_map, list_all}
use Rattle.pg_list.specs.declared.galley.Place.{Place}
use Rattle.pg_list.specs.Places.{place}
use Rattle.pg_plan.specs.declared.pages.PageMove.{PageMove}
use Rattle.pg_plan.specs.declared.states.State.{State}
use Rattle.pg_style.specs.Values.{StyleValue}
use Rattle.pg_list.specs.Barrier.{text_block}
use Rattle.pg_list.specs.Flat.{is_same_place}
use Rattle.pg_rules.specs.Cost.{run_demerits}
use Rattle.pg_rules.specs.Floats.{called, entry, flushed, plus_counts, slots, total_count}
use Rattle.pg_rules.specs.Follow.{fills_page, keeps_run, other_side, turns}
use Rattle.pg_rules.specs.Legal.{are_placed, are_ready}
use Rattle.pg_rules.specs.Room.{Document, extra}
use Rattle.pg_table.specs.declared.step.Step.{Step}
use Rattle.pg_column.specs.declared.end.End.{End}
use Rattle.law_space.specs.ReachAt.{reach_at}
use Rattle.law_moves.specs.Ages.{ages_left, float_cost, may_wait}
use Rattle.pg_layouts.specs.declared.layout.Layout.{Layout}
use Rattle.pg_layouts.specs.Layouts.{float_layouts, text_layouts}
use Rattle.law_moves.specs.Steps.{area_of, fitness_cost, kept_fitness, move_to, stay, wide_of}

-- how many floats of each class are placed behind a column of that layout
abbrev pub placed_with : StyleValue → List ℕ → Layout → List ℕ
placed_with style placed layout =
    plus_counts style (plus_counts style (plus_counts style placed layout.wide) layout.top) layout.bottom

-- the state behind a column of that layout, up to a place, with a fitness
abbrev pub state_to : Document → State → Layout → Place → Option ℕ → State
state_to doc u layout to fitness = record {
  place = to;
  column = if fills_page doc.style u then 1 else u.column + 1;
  side = if fills_page doc.style u then other_side u.side else u.side;
  run = if fills_page doc.style u then keeps_run u.side layout.run else Some layout.run;
  wide = if fills_page doc.style u then None else wide_of doc u layout.wide;
  fitness = fitness;
  placed = placed_with doc.style u.placed layout;
  ages = ages_left doc u to (placed_with doc.style u.placed layout) (turns doc.style u);
}

-- what a column of that layout pays for its page's run and for its floats
abbrev pub layout_cost : Document → State → Layout → Place → ℤ
layout_cost doc u layout to =
    (if u.column == 1 then run_demerits doc.style layout.run else pos 0)
    +ℤ float_cost doc u to (placed_with doc.style u.placed layout)

-- so many floats of each class are called before a place
abbrev pub calls_all : Document → Place → List ℕ → Bool
calls_all doc to after =
    list_all (λ (slot : ℕ). nat_le (entry after slot) (entry (called doc.blocks doc.style to) slot)) (slots doc.style)

-- so many floats of each class are called before the last barrier in front of a block, at most
abbrev pub flushes_all : Document → ℕ → List ℕ → Bool
flushes_all doc block placed = are_placed doc.style (flushed doc.blocks doc.style block) placed

-- ---- columns of text

-- the floats that are called before the state and before a barrier behind which a text from there would begin are placed
abbrev pub may_begin : Document → State → Bool
may_begin doc u = are_ready doc.style (called doc.blocks doc.style u.place)
    (flushed doc.blocks doc.style (text_block doc.blocks u.place)) u.placed

-- a column of text may end at a place with so many floats placed: these are called there, and those before barriers are
-- placed
abbrev pub opens : Document → State → Place → List ℕ → Bool
opens doc u to placed = calls_all doc to placed && (may_begin doc u && flushes_all doc to.block placed)

-- the column goes on, may end, and leaves no float waiting too long
abbrev pub goes_on : Document → State → Layout → End → Bool
goes_on doc u layout end =
    not (is_same_place u.place end.to)
    && (opens doc u end.to (placed_with doc.style u.placed layout)
    && may_wait doc u end.to (placed_with doc.style u.placed layout) (turns doc.style u))

-- the step to an end
abbrev pub listed_end : Document → State → Layout → End → Step State PageMove
listed_end doc u layout end = record {
  to = state_to doc u layout end.to (kept_fitness doc.style end.cost.fitness);
  by = move_to u layout end;
  cost = (end.cost.demerits +ℤ end.pick_demerits)
      +ℤ (layout_cost doc u layout end.to +ℤ fitness_cost doc.style u.fitness end.cost.fitness);
}

-- the steps to the ends of a layout at which the column goes on
abbrev pub listed_with : Document → State → (Layout → List End) → Layout → List (Step State PageMove)
listed_with doc u ends layout = map (listed_end doc u layout) (filter (goes_on doc u layout) (ends layout))

-- ---- columns without text

-- a column without text, with its wide area, is no higher than its page
abbrev pub column_fits : Document → State → Layout → Bool
column_fits doc u layout =
    int_le ((unwrap_or (wide_of doc u layout.wide) (pos 0)
    +ℤ area_of doc doc.style.top (plus_counts doc.style u.placed layout.wide) layout.top)
    -ℤ (if total_count layout.top == 0 then doc.style.wide.gap.size else doc.style.top.gap.size))
    (doc.style.height +ℤ extra doc.style layout.run)

-- it has a float or a wide area, it fits, and leaves no float that waits too long
abbrev pub stays_on : Document → State → Layout → Bool
stays_on doc u layout =
    (nat_lt 0 (total_count layout.top) || is_some (wide_of doc u layout.wide))
    && (column_fits doc u layout
    && may_wait doc u u.place (placed_with doc.style u.placed layout) (turns doc.style u))

-- the step that it makes
abbrev pub listed_stay : Document → State → Layout → Step State PageMove
listed_stay doc u layout = record {
  to = state_to doc u layout u.place (if doc.style.version == 1 then None else u.fitness);
  by = stay u layout;
  cost = pos doc.style.float_column.demerits +ℤ layout_cost doc u layout u.place;
}

-- ---- all

-- the steps of the columns of text
abbrev pub listed_text : Document → State → List ℕ → (Layout → List End) → List (Step State PageMove)
listed_text doc u ceiling ends = flat_map (listed_with doc u ends) (text_layouts doc u ceiling)

-- the steps of the columns without text, whose floats are called before the state
abbrev pub listed_floats : Document → State → List (Step State PageMove)
listed_floats doc u =
    map (listed_stay doc u) (filter (stays_on doc u) (float_layouts doc u (called doc.blocks doc.style u.place)))

-- the steps of all columns
abbrev pub listed_steps : Document → State → List ℕ → (Layout → List End) → List (Step State PageMove)
listed_steps doc u ceiling ends = listed_text doc u ceiling ends ++ listed_floats doc u

-- the place behind all that a column from a place may reach
abbrev pub beyond : Document → Place → Place
beyond doc from = place (min (reach_at doc from) (length doc.blocks)) 0 0
