-- The ages and the demerits of floats behind a column, class by class from the ages of a state.
use Rattle.std.specs.Prelude.{ℕ, ◌+◌, ◌-◌, Bool, nat_lt, List, ◌++◌, length, map, take, drop, replicate, slice_index, ℤ, pos}
use Rattle.std.specs.List.{flat_map, list_all}
use Rattle.pg_list.specs.declared.galley.Place.{Place}
use Rattle.pg_plan.specs.declared.states.State.{State}
use Rattle.pg_list.specs.Whole.{whole_sum_by}
use Rattle.pg_rules.specs.Floats.{called, distance_table, entry, slots}
use Rattle.pg_rules.specs.Room.{Document}
use Rattle.pg_floats.specs.History.{ages_of}

-- how many floats of each class wait
abbrev pub waits_of : Document → State → List ℕ
waits_of doc u =
    map (λ (slot : ℕ). entry (called doc.blocks doc.style u.place) slot - entry u.placed slot) (slots doc.style)

-- the ages of a class's floats that wait, and 0 for each that is called from there up to a place
abbrev pub line_of : Document → State → Place → ℕ → List ℕ
line_of doc u to slot =
    ages_of (waits_of doc u) u.ages slot
    ++ replicate (entry (called doc.blocks doc.style to) slot - entry (called doc.blocks doc.style u.place) slot) 0

-- the ages of those that are left where so many of each class are placed, and pages end behind them
abbrev pub ages_left : Document → State → Place → List ℕ → ℕ → List ℕ
ages_left doc u to after pages =
    flat_map (λ (slot : ℕ). map (λ (age : ℕ). age + pages)
    (drop (entry after slot - entry u.placed slot) (line_of doc u to slot))) (slots doc.style)

-- none of them has waited too long
abbrev pub may_wait : Document → State → Place → List ℕ → ℕ → Bool
may_wait doc u to after pages =
    list_all (λ (slot : ℕ). list_all (λ (age : ℕ). nat_lt (age + pages) (length (distance_table doc.style slot)))
    (drop (entry after slot - entry u.placed slot) (line_of doc u to slot))) (slots doc.style)

-- what those pay that are placed
abbrev pub float_cost : Document → State → Place → List ℕ → ℤ
float_cost doc u to after =
    whole_sum_by (λ (slot : ℕ). whole_sum_by (λ (age : ℕ). pos (slice_index (distance_table doc.style slot) age))
    (take (entry after slot - entry u.placed slot) (line_of doc u to slot))) (slots doc.style)
