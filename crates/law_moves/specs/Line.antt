-- The ages of all classes in one list, and what is found in it class by class.
use Rattle.std.specs.Prelude.{ℕ, ◌+◌, ◌-◌, Bool, true, ◌&&◌, nat_lt, List, [], ◌∷◌, ◌++◌, length, map, take, drop, slice_index, ℤ, pos, ◌+ℤ◌}
use Rattle.std.specs.List.{flat_map, list_all}
use Rattle.pg_list.specs.declared.galley.Place.{Place}
use Rattle.pg_plan.specs.declared.states.State.{State}
use Rattle.pg_style.specs.Values.{StyleValue}
use Rattle.pg_list.specs.Whole.{whole_sum_by}
use Rattle.pg_rules.specs.Floats.{entry, slots}
use Rattle.pg_rules.specs.Room.{Document}
use Rattle.law_moves.specs.Ages.{line_of}

-- the lines of all classes, one behind the other
abbrev pub flat_line : Document → State → Place → List ℕ
flat_line doc u to = flat_map (line_of doc u to) (slots doc.style)

-- how long the line of each class is
abbrev pub line_counts : Document → State → Place → List ℕ
line_counts doc u to = map (λ (slot : ℕ). length (line_of doc u to slot)) (slots doc.style)

-- how many of each class are placed
abbrev pub taken_counts : StyleValue → List ℕ → List ℕ → List ℕ
taken_counts style placed after = map (λ (slot : ℕ). entry after slot - entry placed slot) (slots style)

-- the ages that are left behind the first ones of each class
abbrev pub left_by : ℕ → List ℕ → List ℕ → List ℕ → List ℕ
left_by pages [] taken ages = []
left_by pages (count ∷ counts) [] ages = []
left_by pages (count ∷ counts) (k ∷ taken) ages =
    map (λ (age : ℕ). age + pages) (drop k (take count ages)) ++ left_by pages counts taken (drop count ages)

-- none of them has waited too long
abbrev pub may_by : (ℕ → ℕ) → ℕ → ℕ → List ℕ → List ℕ → List ℕ → Bool
may_by limit pages slot [] taken ages = true
may_by limit pages slot (count ∷ counts) [] ages = true
may_by limit pages slot (count ∷ counts) (k ∷ taken) ages =
    list_all (λ (age : ℕ). nat_lt (age + pages) (limit slot)) (drop k (take count ages))
    && may_by limit pages (slot + 1) counts taken (drop count ages)

-- what the first ones of each class pay
abbrev pub cost_by : (ℕ → List ℕ) → ℕ → List ℕ → List ℕ → List ℕ → ℤ
cost_by table slot [] taken ages = pos 0
cost_by table slot (count ∷ counts) [] ages = pos 0
cost_by table slot (count ∷ counts) (k ∷ taken) ages =
    whole_sum_by (λ (age : ℕ). pos (slice_index (table slot) age)) (take k (take count ages))
    +ℤ cost_by table (slot + 1) counts taken (drop count ages)
