-- How far the sums of a line may still fall, along the items ahead.
use Rattle.std.specs.Prelude.{◌≤◌, ◌*◌, ◌^◌, ◌&&◌, Bool, if◌then◌else◌, ℕ, List, [], ◌∷◌, ◌++◌, nat_abs, ℤ, pos, ◌+ℤ◌, ◌-ℤ◌, int_le, int_lt}
use Rattle.pg_list.specs.Totals.{shrink_of}
use Rattle.pg_hlist.specs.declared.item.HItem.{HItem}
use Rattle.pg_hlist.specs.Items.{as_item, width_of}
use Rattle.pg_lines.specs.declared.ahead.Fall.{Fall}
use Rattle.pg_lines.specs.declared.sums.LineSums.{LineSums}

-- a sum that is below 0
abbrev pub at_most_zero : ℤ → ℤ
at_most_zero sum = if int_lt sum (pos 0) then sum else pos 0

-- the least sum of the first items, of as many as one likes
abbrev pub least_front : (HItem → ℤ) → List HItem → ℤ
least_front f [] = pos 0
least_front f (item ∷ items) = at_most_zero (f item +ℤ least_front f items)

-- an item's width where its glue is shrunk
abbrev pub tight_width : HItem → ℤ
tight_width item = width_of item -ℤ shrink_of (as_item item)

abbrev pub fall_of : List HItem → Fall
fall_of items = record { total = least_front width_of items; tight = least_front tight_width items }

-- one item more in front
abbrev pub fall_before : HItem → Fall → Fall
fall_before item fall = record {
  total = at_most_zero (width_of item +ℤ fall.total);
  tight = at_most_zero (tight_width item +ℤ fall.tight);
}

-- at each place, along the items from there on; the end first
abbrev pub falls_of : List HItem → List Fall
falls_of [] = fall_of [] ∷ []
falls_of (item ∷ items) = falls_of items ++ fall_of (item ∷ items) ∷ []

-- a line of these sums is over, and so is each longer one
abbrev pub stays_over : ℤ → LineSums → Fall → Bool
stays_over width sums fall =
    int_le width (sums.total +ℤ fall.total) && int_lt width ((sums.total -ℤ sums.shrink) +ℤ fall.tight)

-- a fall along so many items
pub record IsBounded (fall : Fall) (n : ℕ) : Type 0 where
  pub total : nat_abs fall.total ≤ 2 ^ 31 * n
  pub tight : nat_abs fall.tight ≤ 2 ^ 31 * n
