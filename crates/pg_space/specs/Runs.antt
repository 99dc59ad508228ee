-- The way from a label back to the start.
use Rattle.std.specs.Prelude.{◌≡◌, ℕ, ◌++◌, List, slice_get, Option, Some, None}
use Rattle.std.specs.List.{filter_map}
use Rattle.std.specs.Option.{option_map_or}
use Rattle.pg_plan.specs.declared.pages.PageMove.{PageMove}
use Rattle.pg_plan.specs.declared.states.State.{State}
use Rattle.pg_table.specs.Label.{RunOf}
use Rattle.pg_table.specs.declared.table.Entry.{Entry}

abbrev pub move_at : List (Entry State PageMove) → ℕ → Option PageMove
move_at labels at = option_map_or (λ (e : Entry State PageMove). e.by) (slice_get labels at) None

-- the moves of the labels at these places
abbrev pub moves_on : List (Entry State PageMove) → List ℕ → List PageMove
moves_on labels way = filter_map (move_at labels) way

-- the labels at these places have the moves of the label's run, from the last to the first
abbrev pub IsWay : List (Entry State PageMove) → ℕ → List ℕ → Type 0
IsWay labels index way = (e : Entry State PageMove) → slice_get labels index ≡ Some e →
    RunOf labels e (moves_on labels way)

-- these places lead from a label back to the label at another
abbrev pub LeadsBack : List (Entry State PageMove) → ℕ → List ℕ → ℕ → Type 0
LeadsBack labels index way at = (e p : Entry State PageMove) (ms : List PageMove) →
    slice_get labels index ≡ Some e → slice_get labels at ≡ Some p → RunOf labels p ms →
    RunOf labels e (moves_on labels way ++ ms)
