-- Counts of floats, added and counted slot by slot.
use Rattle.std.specs.Prelude.{ℕ, ◌+◌, Bool, ◌==◌, ◌||◌, List, map, min}
use Rattle.std.specs.List.{range_with_len, sum_by}
use Rattle.pg_style.specs.Values.{StyleValue}
use Rattle.pg_style.specs.declared.style.Area.{Area}
use Rattle.pg_rules.specs.Floats.{entry}
use Rattle.pg_floats.specs.Spots.{takes_slot}

-- how many floats counts deal out in so many slots
abbrev pub count_in : ℕ → List ℕ → ℕ
count_in slots counts = sum_by (λ (slot : ℕ). entry counts slot) (range_with_len 0 slots)

-- a count of 16 bits
abbrev pub cap : ℕ → ℕ
cap n = min n 65535

-- counts of 16 bits
abbrev pub capped : List ℕ → List ℕ
capped counts = map cap counts

-- counts added slot by slot, none above 16 bits
abbrev pub capped_sum : ℕ → List ℕ → List ℕ → List ℕ
capped_sum slots a b = map (λ (slot : ℕ). cap (entry a slot + entry b slot)) (range_with_len 0 slots)

-- no float of a slot is dealt out, or such floats may stand there
abbrev pub is_slot_allowed : StyleValue → (Area → Bool) → List ℕ → ℕ → Bool
is_slot_allowed style takes counts slot = (entry counts slot == 0) || takes_slot style takes slot
