-- Lines as the steps of a table.
use Rattle.std.specs.Prelude.{ℕ, ◌+◌, ◌-◌, nat_le, if◌then◌else◌, List, [], ◌∷◌, length, slice_get, ℤ, pos, ◌+ℤ◌, ◌*ℤ◌}
use Rattle.std.specs.List.{flat_map, slice_index}
use Rattle.std.specs.Option.{option_map_or}
use Rattle.pg_table.specs.declared.step.Step.{Step}
use Rattle.law_lines.specs.declared.state.LineState.{LineState}
use Rattle.law_lines.specs.BestSpace.{unit}
use Rattle.law_lines.specs.LineSpace.{line_state}
use Rattle.pg_lines.specs.declared.ends.LineEnd.{LineEnd}

-- the lines that are listed for a place
abbrev pub ends_at : List (List LineEnd) → ℕ → List LineEnd
ends_at lists k = option_map_or (λ (ends : List LineEnd). ends) (slice_get lists k) []

-- a line where places alone are states
abbrev pub best_step : LineEnd → List (Step ℕ ℕ)
best_step end = record { to = end.place; by = end.place; cost = (unit *ℤ end.demerits) +ℤ pos 1 } ∷ []

-- a line behind so many others, where no more than the most are within reach behind it
abbrev pub line_step : (ℕ → ℕ) → ℕ → ℕ → LineEnd → List (Step LineState ℕ)
line_step low most lines end =
    if nat_le (lines + 1 + low end.place) most
    then record { to = line_state end.place (lines + 1); by = end.place; cost = end.demerits } ∷ []
    else []

-- fewest lines from a place to the end, where they are listed from the end of a paragraph of so many items back
abbrev pub low_by : ℕ → List ℕ → ℕ → ℕ
low_by len back k = slice_index back (len - k)
