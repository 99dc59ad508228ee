-- Floats that are called before a place.
use Rattle.std.specs.Prelude.{ℕ, Bool, nat_le, List}
use Rattle.pg_list.specs.declared.galley.Place.{Place}
use Rattle.pg_rules.specs.Floats.{called, entry}
use Rattle.pg_rules.specs.Room.{Document}

-- so many floats of a class are called before a place
abbrev pub is_slot_called : Document → Place → List ℕ → ℕ → Bool
is_slot_called doc to counts slot = nat_le (entry counts slot) (entry (called doc.blocks doc.style to) slot)
