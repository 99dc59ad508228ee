-- The floats of classes: their ages, in the order in which they are placed, and counts of them.
use Rattle.std.specs.Prelude.{ℕ, ◌+◌, ◌-◌, Bool, ◌&&◌, ◌||◌, ◌==◌, nat_le, nat_lt, List, ◌++◌, length, map, take, drop, replicate, slice_index, ℤ, pos}
use Rattle.std.specs.List.{flat_map, list_all, range_with_len}
use Rattle.pg_list.specs.Whole.{whole_sum_by}
use Rattle.pg_style.specs.Values.{StyleValue}
use Rattle.pg_floats.specs.History.{ages_of}
use Rattle.pg_rules.specs.Floats.{distance_table, entry}

-- the ages of floats that waited, and 0 for each that is called only now
abbrev pub with_zeros : List ℕ → ℕ → List ℕ
with_zeros waited fresh = waited ++ replicate fresh 0

-- these ages, so many pages later
abbrev pub later : ℕ → List ℕ → List ℕ
later pages ages = map (λ (age : ℕ). age + pages) ages

-- each of them is below a limit, so many pages later
abbrev pub are_young : ℕ → ℕ → List ℕ → Bool
are_young limit pages ages = list_all (λ (age : ℕ). nat_lt (age + pages) limit) ages

-- what floats of these ages pay together
abbrev pub paid_by : List ℕ → List ℕ → ℤ
paid_by table ages = whole_sum_by (λ (age : ℕ). pos (slice_index table age)) ages

-- ---- counts

-- the one counts are at least the others in a class
abbrev pub covers : List ℕ → List ℕ → ℕ → Bool
covers a b slot = nat_le (entry b slot) (entry a slot)

-- they are at least the second or the third
abbrev pub covers_one : List ℕ → List ℕ → List ℕ → ℕ → Bool
covers_one a b c slot = covers a b slot || covers a c slot

-- no float of a class waits, and none is called from one place up to another
abbrev pub is_line_empty : List ℕ → List ℕ → List ℕ → ℕ → Bool
is_line_empty waits before reached slot = (entry waits slot == 0) && nat_le (entry reached slot) (entry before slot)

-- ---- class by class

-- the ages of a class's floats that wait, and 0 for each that is called from one place up to another
abbrev pub line_in : List ℕ → List ℕ → List ℕ → List ℕ → ℕ → List ℕ
line_in waits ages before reached slot = with_zeros (ages_of waits ages slot) (entry reached slot - entry before slot)

-- of the floats of a class, those that are left where so many are placed
abbrev pub rest_in : (ℕ → List ℕ) → List ℕ → List ℕ → ℕ → List ℕ
rest_in line placed after slot = drop (entry after slot - entry placed slot) (line slot)

-- their ages, so many pages later
abbrev pub left_in : (ℕ → List ℕ) → List ℕ → List ℕ → ℕ → ℕ → List ℕ
left_in line placed after pages slot = later pages (rest_in line placed after slot)

-- each of them is then within its table
abbrev pub young_in : StyleValue → (ℕ → List ℕ) → List ℕ → List ℕ → ℕ → ℕ → Bool
young_in style line placed after pages slot =
    are_young (length (distance_table style slot)) pages (rest_in line placed after slot)

-- what those of a class pay that are placed
abbrev pub price_in : StyleValue → (ℕ → List ℕ) → List ℕ → List ℕ → ℕ → ℤ
price_in style line placed after slot =
    paid_by (distance_table style slot) (take (entry after slot - entry placed slot) (line slot))

-- ---- the first classes together

-- the ages of those that are left
abbrev pub all_left : (ℕ → List ℕ) → List ℕ → List ℕ → ℕ → ℕ → List ℕ
all_left line placed after pages slots = flat_map (left_in line placed after pages) (range_with_len 0 slots)

-- none of them is too old
abbrev pub all_young : StyleValue → (ℕ → List ℕ) → List ℕ → List ℕ → ℕ → ℕ → Bool
all_young style line placed after pages slots =
    list_all (young_in style line placed after pages) (range_with_len 0 slots)

-- what those pay that are placed
abbrev pub all_paid : StyleValue → (ℕ → List ℕ) → List ℕ → List ℕ → ℕ → ℤ
all_paid style line placed after slots = whole_sum_by (price_in style line placed after) (range_with_len 0 slots)
