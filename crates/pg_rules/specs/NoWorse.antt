-- When a state is no worse than another one.
use Rattle.std.specs.Prelude.{ℕ, Bool, true, false, ◌==◌, ◌&&◌, nat_le, List, [], ◌∷◌, Option, Some, None, ℤ}
use Rattle.std.specs.Ordering.{int_eq}
use Rattle.pg_plan.specs.declared.states.Side.{Side}
use Rattle.pg_plan.specs.declared.states.Side.TheVariants.{L, R, S}
use Rattle.pg_plan.specs.declared.states.PageKey.{PageKey}
use Rattle.pg_plan.specs.declared.states.State.{State}
use Rattle.pg_list.specs.Flat.{is_same_place}

-- a state but for its ages
abbrev pub key : State → PageKey
key u = record { place = u.place; column = u.column; side = u.side; run = u.run; wide = u.wide; fitness = u.fitness; placed = u.placed }

-- equal sides
abbrev pub is_same_side : Side → Side → Bool
is_same_side L L = true
is_same_side R R = true
is_same_side S S = true
is_same_side _ _ = false

-- equal numbers, or both absent
abbrev pub is_same_number : Option ℕ → Option ℕ → Bool
is_same_number None None = true
is_same_number (Some a) (Some b) = a == b
is_same_number _ _ = false

-- equal whole numbers, or both absent
abbrev pub is_same_whole : Option ℤ → Option ℤ → Bool
is_same_whole None None = true
is_same_whole (Some a) (Some b) = int_eq a b
is_same_whole _ _ = false

-- equal lists
abbrev pub are_same_counts : List ℕ → List ℕ → Bool
are_same_counts [] [] = true
are_same_counts (a ∷ xs) (b ∷ ys) = (a == b) && are_same_counts xs ys
are_same_counts _ _ = false

-- equal in every field
abbrev pub is_same_key : PageKey → PageKey → Bool
is_same_key a b =
    is_same_place a.place b.place && ((a.column == b.column) && (is_same_side a.side b.side
    && (is_same_number a.run b.run && (is_same_whole a.wide b.wide
    && (is_same_number a.fitness b.fitness && are_same_counts a.placed b.placed)))))

-- as many, and none greater
abbrev pub are_no_older : List ℕ → List ℕ → Bool
are_no_older [] [] = true
are_no_older (a ∷ xs) (b ∷ ys) = nat_le a b && are_no_older xs ys
are_no_older _ _ = false

-- equal but for the ages, and no age greater
abbrev pub is_no_worse : State → State → Bool
is_no_worse a b = is_same_key (key a) (key b) && are_no_older a.ages b.ages
