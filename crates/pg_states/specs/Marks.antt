-- What is remembered of states of pages.
use Rattle.std.specs.Prelude.{ℕ, ℤ, Bool, false, ◌==◌, ◌&&◌, int_lt, nat_le, List, Option, slice_get}
use Rattle.std.specs.List.{list_any}
use Rattle.std.specs.Option.{option_map_or}
use Rattle.pg_list.specs.declared.galley.Place.{Place}
use Rattle.pg_plan.specs.declared.states.State.{State}
use Rattle.pg_rules.specs.NoWorse.{are_no_older, are_same_counts, is_no_worse, is_same_number, is_same_side, is_same_whole}
use Rattle.pg_states.specs.declared.marks.Cell.{Cell}

-- equal but for the place, the fitness and the ages, and no age greater
abbrev pub is_no_worse_line : State → State → Bool
is_no_worse_line a b =
    ((a.column == b.column) && is_same_side a.side b.side)
    && ((is_same_number a.run b.run && is_same_whole a.wide b.wide)
    && (are_same_counts a.placed b.placed && are_no_older a.ages b.ages))

-- the state of a line at a place, with a fitness
abbrev pub along : State → Place → Option ℕ → State
along u place fitness = record u { place = place; fitness = fitness }

-- the state of this number is no worse than a state along its line
abbrev pub has_no_worse : List State → ℕ → State → Bool
has_no_worse lines number u = option_map_or (λ line. is_no_worse_line line u) (slice_get lines number) false

-- a state is no worse than that of this number along its line
abbrev pub has_no_better : List State → ℕ → State → Bool
has_no_better lines number u = option_map_or (λ line. is_no_worse_line u line) (slice_get lines number) false

-- a state for each line, and what was reached along the lines
pub record Marks : Type 0 where
  pub lines : List State
  pub cells : List Cell

-- the cell names none of so many lines
abbrev pub is_past : ℕ → Cell → Bool
is_past count cell = nat_le count cell.line

-- the cell tells of a state that is no worse, and was reached at a lower cost
abbrev pub tells : List State → State → ℤ → Cell → Bool
tells lines v c cell =
    option_map_or (λ line. is_no_worse (along line cell.place cell.fitness) v) (slice_get lines cell.line) false
    && int_lt cell.cost c

-- a cell tells so
unfoldable pub is_marked : Marks → State → ℤ → Bool
is_marked m v c = list_any (tells m.lines v c) m.cells
