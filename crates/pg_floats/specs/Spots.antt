-- The areas of a page, and the float classes by slot.
use Rattle.std.specs.Prelude.{ℕ, ◌+◌, ◌-◌, Bool, true, false, ◌==◌, if◌then◌else◌, List, [], ◌∷◌, slice_get}
use Rattle.std.specs.Option.{option_map_or}
use Rattle.pg_style.specs.Values.{StyleValue}
use Rattle.pg_style.specs.declared.style.Area.{Area}
use Rattle.pg_style.specs.declared.style.Class.{Class}
use Rattle.pg_style.specs.declared.style.Kind.{Kind}
use Rattle.pg_style.specs.declared.style.Kind.TheVariants.{Note, Float}
use Rattle.pg_style.specs.Classes.{is_float_kind}
use Rattle.pg_rules.specs.Floats.{float_class, float_numbers, takes_bottom, takes_in_column, takes_top, takes_wide}
use Rattle.pg_floats.specs.declared.spot.Spot.{Spot}
use Rattle.pg_floats.specs.declared.spot.Spot.TheVariants.{Top, Bottom, Across, Column}

-- floats of which area may stand there
abbrev pub takes_of : Spot → Area → Bool
takes_of Top = takes_top
takes_of Bottom = takes_bottom
takes_of Across = takes_wide
takes_of Column = takes_in_column

-- floats of a slot may stand where floats of these areas may
abbrev pub takes_slot : StyleValue → (Area → Bool) → ℕ → Bool
takes_slot style takes slot =
    option_map_or (λ number. option_map_or (λ (kind : Area × List ℕ). takes kind.0) (float_class style number) false)
    (slice_get (float_numbers style) slot) true

-- one class in front of others: a float class is slot 0 and moves those behind it one slot on
abbrev pub next_takes : (Area → Bool) → Kind → ℕ → Bool → Bool → Bool
next_takes takes (Note skip limit) slot same less = same
next_takes takes (Float area distance) slot same less = if slot == 0 then takes area else less

-- the same along the classes
abbrev pub takes_in : (Area → Bool) → List Class → ℕ → Bool
takes_in takes [] slot = true
takes_in takes (class ∷ classes) slot =
    next_takes takes class.kind slot (takes_in takes classes slot) (takes_in takes classes (slot - 1))

-- how many float classes there are
abbrev pub slots_in : List Class → ℕ
slots_in [] = 0
slots_in (class ∷ classes) = (if is_float_kind class.kind then 1 else 0) + slots_in classes
