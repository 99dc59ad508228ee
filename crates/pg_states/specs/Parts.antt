-- Parts of the test of a state.
use Rattle.std.specs.Prelude.{ℕ, ◌-◌, Bool, ◌==◌, ◌&&◌, length}
use Rattle.pg_plan.specs.declared.states.State.{State}
use Rattle.pg_rules.specs.Floats.{called, distance_table, entry, total_count}
use Rattle.pg_rules.specs.IsState.{has_side}
use Rattle.pg_rules.specs.Room.{Document}
use Rattle.law_moves.specs.Ages.{waits_of}
use Rattle.law_moves.specs.StateTest.{has_fields, has_floats, has_run_field, young_by}

-- how many floats of a slot are called before a state and not placed
abbrev pub waits_in : Document → State → ℕ → ℕ
waits_in doc u slot = entry (called doc.blocks doc.style u.place) slot - entry u.placed slot

-- as many ages as floats wait, each within the table of its class
abbrev pub has_ages : Document → State → Bool
has_ages doc u = (length u.ages == total_count (waits_of doc u))
    && young_by (λ (slot : ℕ). length (distance_table doc.style slot)) 0 (waits_of doc u) u.ages

-- the wide area, the fitness and the floats
abbrev pub has_rest : Document → State → Bool
has_rest doc u = has_fields doc u && has_floats doc u

-- the side, the run and the rest
abbrev pub has_page : Document → State → Bool
has_page doc u = has_side doc.style.first u.side && (has_run_field doc u && has_rest doc u)
