-- The steps from a state, listed from the ends of its columns.
use Rattle.std.specs.Prelude.{ℕ, ◌≤◌, ◌<◌, Bool, ◌==◌, ◌&&◌, ◌||◌, not, nat_lt, if◌then◌else◌, is_some, unwrap_or, List, [], ◌++◌, length, map, Option, Some, None, ℤ, pos, ◌+ℤ◌, ◌-ℤ◌}
use Rattle.std.specs.List.{filter, flat_map}
use Rattle.std.specs.Option.{option_map_or}
use Rattle.pg_plan.specs.declared.pages.PageMove.{PageMove}
use Rattle.pg_plan.specs.declared.states.State.{State}
use Rattle.pg_style.specs.Values.{AreaRuleValue, StyleValue}
use Rattle.pg_style.specs.declared.style.Gap.{Gap}
use Rattle.pg_list.specs.Flat.{is_same_place}
use Rattle.pg_rules.specs.ColumnRules.{has_room}
use Rattle.pg_rules.specs.Cost.{differs, float_demerits, run_demerits}
use Rattle.pg_rules.specs.Floats.{area_give, area_height, called, dealt, entry, float_numbers, floats, gap_shrink, gap_stretch, plus_counts, total_count}
use Rattle.pg_rules.specs.Follow.{Follow, age_in, context_in, may_turn, next_state}
use Rattle.pg_rules.specs.Legal.{added, has_callouts, keeps_barriers}
use Rattle.pg_rules.specs.Room.{Document, extra}
use Rattle.pg_table.specs.declared.step.Step.{Step}
use Rattle.pg_column.specs.declared.cost.TextRoom.{TextRoom}
use Rattle.pg_column.specs.declared.end.End.{End}
use Rattle.pg_layouts.specs.declared.layout.Layout.{Layout}
use Rattle.pg_layouts.specs.Layouts.{float_layouts, move_of, text_layouts}

-- ---- the room of a column of text

-- the height of an area with the next floats of each class by counts
abbrev pub area_of : Document → AreaRuleValue → List ℕ → List ℕ → ℤ
area_of doc rule before counts = area_height rule (dealt (floats doc.blocks doc.style) before counts)

-- what its gaps give
abbrev pub give_of : (Gap → ℤ) → Document → AreaRuleValue → List ℕ → List ℕ → ℤ
give_of part doc rule before counts = area_give part rule (length (dealt (floats doc.blocks doc.style) before counts))

-- the height of the page's wide area
abbrev pub wide_of : Document → State → List ℕ → Option ℤ
wide_of doc u wide =
    if u.column == 1 then (if nat_lt 0 (total_count wide) then Some (area_of doc doc.style.wide u.placed wide) else None)
    else u.wide

-- what the areas of a layout leave of the column
abbrev pub text_size : Document → State → Layout → ℤ
text_size doc u layout =
    (((doc.style.height +ℤ extra doc.style layout.run) -ℤ unwrap_or (wide_of doc u layout.wide) (pos 0))
    -ℤ area_of doc doc.style.top (plus_counts doc.style u.placed layout.wide) layout.top)
    -ℤ area_of doc doc.style.bottom
    (plus_counts doc.style (plus_counts doc.style u.placed layout.wide) layout.top) layout.bottom

-- what the gaps of its areas give to the text between them
abbrev pub text_give : (Gap → ℤ) → Document → State → Layout → ℤ
text_give part doc u layout =
    give_of part doc doc.style.top (plus_counts doc.style u.placed layout.wide) layout.top
    +ℤ give_of part doc doc.style.bottom
    (plus_counts doc.style (plus_counts doc.style u.placed layout.wide) layout.top) layout.bottom

-- both
abbrev pub text_room : Document → State → Layout → TextRoom
text_room doc u layout = record {
  size = text_size doc u layout;
  give = record { stretch = text_give gap_stretch doc u layout; shrink = text_give gap_shrink doc u layout };
}

-- ---- what a column pays

-- the fitness that the next column is compared with; version 1 compares none
abbrev pub kept_fitness : StyleValue → ℕ → Option ℕ
kept_fitness style fitness = if style.version == 1 then None else Some fitness

-- what a column of text pays for its fitness behind one of another
abbrev pub fitness_cost : StyleValue → Option ℕ → ℕ → ℤ
fitness_cost style last fitness = option_map_or (λ (it : ℕ). if differs it fitness then pos style.fitness else pos 0) last
    (pos 0)

-- what a column pays for its page's run and for its floats
abbrev pub page_cost : Document → State → PageMove → ℤ
page_cost doc u m =
    (if u.column == 1 then run_demerits doc.style m.run else pos 0)
    +ℤ float_demerits doc.style (age_in doc u) (added doc u.placed m)

-- ---- columns of text

-- the column of text to an end
abbrev pub move_to : State → Layout → End → PageMove
move_to u layout end = move_of u layout end.to end.picks

-- the column goes on, calls its floats, keeps barriers, and leaves no float waiting too long
abbrev pub may_end : Document → State → Layout → End → Bool
may_end doc u layout end =
    not (is_same_place u.place end.to)
    && (has_callouts doc u.placed (move_to u layout end)
    && (keeps_barriers doc u.placed (move_to u layout end) && may_turn doc u (move_to u layout end)))

-- the step that such a column makes
abbrev pub text_step : Document → State → Layout → End → Step State PageMove
text_step doc u layout end = record {
  to = record (next_state doc u (move_to u layout end)) { fitness = kept_fitness doc.style end.cost.fitness };
  by = move_to u layout end;
  cost = (end.cost.demerits +ℤ end.pick_demerits)
      +ℤ (page_cost doc u (move_to u layout end) +ℤ fitness_cost doc.style u.fitness end.cost.fitness);
}

-- the steps of a layout, one for each of its ends at which the column may end
abbrev pub steps_with : Document → State → (Layout → List End) → Layout → List (Step State PageMove)
steps_with doc u ends layout = map (text_step doc u layout) (filter (may_end doc u layout) (ends layout))

-- the steps of the columns of text
abbrev pub text_steps : Document → State → List ℕ → (Layout → List End) → List (Step State PageMove)
text_steps doc u ceiling ends = flat_map (steps_with doc u ends) (text_layouts doc u ceiling)

-- ---- columns without text

-- the column without text of a layout
abbrev pub stay : State → Layout → PageMove
stay u layout = move_of u layout u.place []

-- there is a float in it or wide floats above it, it is not too high, and it leaves no float waiting too long
abbrev pub may_stay : Document → State → Layout → Bool
may_stay doc u layout =
    (nat_lt 0 (total_count layout.top) || is_some (wide_of doc u layout.wide))
    && (has_room (context_in doc u (stay u layout)) && may_turn doc u (stay u layout))

-- the step that such a column makes
abbrev pub float_step : Document → State → Layout → Step State PageMove
float_step doc u layout = record {
  to = record (next_state doc u (stay u layout)) { fitness = if doc.style.version == 1 then None else u.fitness };
  by = stay u layout;
  cost = pos doc.style.float_column.demerits +ℤ page_cost doc u (stay u layout);
}

-- their floats are called before the state
abbrev pub float_steps : Document → State → List (Step State PageMove)
float_steps doc u =
    map (float_step doc u)
    (filter (may_stay doc u) (float_layouts doc u (called doc.blocks doc.style u.place)))

-- ---- all

-- the steps of all columns
abbrev pub steps_of : Document → State → List ℕ → (Layout → List End) → List (Step State PageMove)
steps_of doc u ceiling ends = text_steps doc u ceiling ends ++ float_steps doc u

-- how many floats each class has
abbrev pub float_counts : Document → List ℕ
float_counts doc = map (λ (sizes : List ℤ). length sizes) (floats doc.blocks doc.style)

-- before no end of a column are more floats called, and there are as many
pub record IsCeiling (doc : Document) (u : State) (ceiling : List ℕ) : Type 0 where
  pub reached : (m : PageMove) (v : State) (c : ℤ) → Follow doc u m v c → (slot : ℕ) →
      slot < length (float_numbers doc.style) →
      entry (called doc.blocks doc.style m.column.to) slot ≤ entry ceiling slot
  pub there : (slot : ℕ) → slot < length (float_numbers doc.style) →
      entry ceiling slot ≤ entry (float_counts doc) slot
