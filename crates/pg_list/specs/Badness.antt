-- How badly an amount of glue serves to fill an excess.
use Rattle.std.specs.Prelude.{ℕ, ◌+◌, ◌*◌, ◌/◌, Bool, ◌==◌, ◌&&◌, not, nat_lt, nat_le, if◌then◌else◌, List, ℤ, pos, negsuc, ◌-ℤ◌, int_lt, int_le, unsigned_abs}
use Rattle.pg_list.specs.declared.item.Item.{Item}
use Rattle.pg_list.specs.declared.item.Order.TheVariants.{Finite, Fil, Fill, Filll}
use Rattle.pg_list.specs.Totals.{stretch, shrink}

-- about 297 times t over s
abbrev pub ratio : ℕ → ℕ → ℕ
ratio t s = if nat_le t 7230584 then t * 297 / s else (if nat_le 1663497 s then t / (s / 297) else t)

-- the cube of a ratio to 297, scaled to 100 at 297, and 10000 from a ratio of 1291 on
abbrev pub cubed : ℕ → ℕ
cubed r = if nat_lt 1290 r then 10000 else (r * r * r + 131072) / 262144

-- about a hundred times the cube of t over s
abbrev pub badness : ℤ → ℤ → ℕ
badness (pos t) (pos s) = if t == 0 then 0 else (if s == 0 then 10000 else cubed (ratio t s))
badness (pos t) (negsuc s) = if t == 0 then 0 else 10000
badness (negsuc t) s = 0

-- the total passes the goal by more than can shrink
abbrev pub is_over : ℤ → ℤ → ℤ → Bool
is_over total shrink goal = int_le goal total && int_lt shrink (total -ℤ goal)

-- some sum of infinite stretch is not 0
abbrev pub has_infinite : List Item → Bool
has_infinite items =
    not ((unsigned_abs (stretch Fil items) == 0)
    && (unsigned_abs (stretch Fill items) == 0)
    && (unsigned_abs (stretch Filll items) == 0))

-- the badness of what is not over, by how much it may be longer and shorter
abbrev pub fill_badness : Bool → ℤ → ℤ → Bool → ℤ → ℤ → ℕ
fill_badness is_spent goal total is_infinite stretch shrink =
    if is_spent && int_le total goal then 0
    else (if int_lt total goal
    then (if is_infinite then 0 else badness (goal -ℤ total) stretch)
    else badness (total -ℤ goal) shrink)

-- the badness of a segment that is not over
abbrev pub page_badness : Bool → ℤ → ℤ → List Item → ℕ
page_badness is_spent goal total items =
    fill_badness is_spent goal total (has_infinite items) (stretch Finite items) (shrink items)
