-- The floats that a column adds, slot by slot: whether they are called, how long they waited and what that costs.
use Rattle.std.specs.Prelude.{ℕ, zero, suc, ◌+◌, ◌-◌, Bool, ◌||◌, nat_le, if◌then◌else◌, List, [], ◌∷◌, length, slice_get, Option, Some, None}
use Rattle.pg_list.specs.declared.galley.Place.{Place}
use Rattle.pg_rules.specs.Floats.{called, distance_table, entry}
use Rattle.pg_rules.specs.History.{is_called}
use Rattle.pg_rules.specs.Room.{Document}

-- a slot's floats that counts deal out are called before a place
abbrev pub is_slot_called : Document → Place → List ℕ → List ℕ → ℕ → Bool
is_slot_called doc to placed after slot =
    nat_le (entry after slot) (entry placed slot)
    || nat_le (entry after slot) (entry (called doc.blocks doc.style to) slot)

-- how many of the last pages, up to a limit, ended at a place that passes a test, each behind one that does
abbrev pub waits_in : (Place → Bool) → ℕ → List Place → ℕ
waits_in test zero turns = 0
waits_in test (suc limit) [] = 0
waits_in test (suc limit) (turn ∷ turns) = if test turn then 1 + waits_in test limit turns else 0

-- how many pages ended behind the callout of a float, as far as its table goes; the last page is first
abbrev pub wait_of : Document → List Place → ℕ × ℕ → ℕ
wait_of doc turns float =
    waits_in (λ (turn : Place). is_called doc turn float) (length (distance_table doc.style float.0)) turns

-- what a float pays, where its table goes so far
abbrev pub price_of : Document → List Place → ℕ × ℕ → Option ℕ
price_of doc turns float = slice_get (distance_table doc.style float.0) (wait_of doc turns float)

-- both together, where both are there
abbrev pub both_prices : Option ℕ → Option ℕ → Option ℕ
both_prices None b = None
both_prices (Some a) None = None
both_prices (Some a) (Some b) = Some (a + b)

-- the prices of the numbers below n together, where all are there
abbrev pub prices_below : (ℕ → Option ℕ) → ℕ → Option ℕ
prices_below price zero = Some 0
prices_below price (suc n) = both_prices (prices_below price n) (price n)

-- what the floats of a slot between two counts pay
abbrev pub slot_price : Document → List Place → List ℕ → List ℕ → ℕ → Option ℕ
slot_price doc turns placed after slot =
    prices_below (λ (n : ℕ). price_of doc turns (slot, entry placed slot + n)) (entry after slot - entry placed slot)
