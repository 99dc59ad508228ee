-- The test of a state as code makes it.
use Rattle.std.specs.Prelude.{ℕ, ◌+◌, ◌^◌, Bool, true, ◌==◌, ◌&&◌, ◌||◌, not, nat_le, nat_lt, int_le, int_lt, if◌then◌else◌, is_some, List, [], ◌∷◌, length, take, drop, ℤ, pos}
use Rattle.std.specs.List.{list_all}
use Rattle.std.specs.Option.{option_map_or}
use Rattle.pg_list.specs.declared.blocks.Block.{Block}
use Rattle.pg_list.specs.declared.galley.Place.{Place}
use Rattle.pg_list.specs.Places.{items_around}
use Rattle.pg_plan.specs.declared.states.Side.TheVariants.{R}
use Rattle.pg_plan.specs.declared.states.State.{State}
use Rattle.pg_list.specs.Flat.{end_of, is_same_place}
use Rattle.pg_rules.specs.Floats.{called, distance_table, entry, float_numbers, slots, total_count}
use Rattle.pg_rules.specs.IsState.{has_side, not_first, not_some}
use Rattle.pg_rules.specs.NoWorse.{is_same_side}
use Rattle.pg_rules.specs.Room.{Document}
use Rattle.pg_style.specs.Ranges.{max_columns}
use Rattle.law_moves.specs.Ages.{waits_of}

-- an item stands there, or it is the end; the front of a choice has variant 0
abbrev pub has_place : List Block → Place → Bool
has_place blocks at =
    (is_same_place at (end_of blocks) || nat_lt at.index (length (items_around blocks at)))
    && (not (at.index == 0) || (at.variant == 0))

-- class by class, each age is below a limit
abbrev pub young_by : (ℕ → ℕ) → ℕ → List ℕ → List ℕ → Bool
young_by limit slot [] ages = true
young_by limit slot (count ∷ waits) ages =
    list_all (λ (age : ℕ). nat_lt age (limit slot)) (take count ages) && young_by limit (slot + 1) waits (drop count ages)

-- the next column is one that a page may have
abbrev pub has_column : Document → State → Bool
has_column doc u = nat_le 1 u.column && (nat_le u.column doc.style.columns && nat_le u.column max_columns)

-- the run exists where one is due; one is due in a second column, and may be in the first of a right page
abbrev pub has_run_field : Document → State → Bool
has_run_field doc u =
    option_map_or (λ (run : ℕ). nat_lt run (length doc.style.runs)) u.run true
    && (if u.column == 1 then (is_same_side u.side R || not_some u.run) else is_some u.run)

-- a wide area belongs to a page that has begun, and a fitness to version 2
abbrev pub has_fields : Document → State → Bool
has_fields doc u =
    option_map_or (λ (z : ℤ). not_first u.column && (int_le (pos 0) z && int_lt z (pos (2 ^ 33)))) u.wide true
    && option_map_or (λ (f : ℕ). not_first doc.style.version && nat_le f 3) u.fitness true

-- the placed floats are called, and those that wait have ages within their tables
abbrev pub has_floats : Document → State → Bool
has_floats doc u =
    (length u.placed == length (float_numbers doc.style))
    && (list_all (λ (slot : ℕ). nat_le (entry u.placed slot)
    (entry (called doc.blocks doc.style u.place) slot)) (slots doc.style)
    && ((length u.ages == total_count (waits_of doc u))
    && young_by (λ (slot : ℕ). length (distance_table doc.style slot)) 0 (waits_of doc u) u.ages))

-- each field is one that the state of a beginning has
abbrev pub is_state : Document → State → Bool
is_state doc u =
    has_place doc.blocks u.place
    && (has_column doc u
    && (has_side doc.style.first u.side && (has_run_field doc u && (has_fields doc u && has_floats doc u))))
