-- The rooms of several columns.
use Rattle.std.specs.Prelude.{if◌then◌else◌, List, [], ◌∷◌, ℤ, pos, int_lt, ◌≤ℤ◌}
use Rattle.pg_column.specs.Numbers.{IsRoom}
use Rattle.pg_column.specs.declared.cost.TextRoom.{TextRoom}

-- the greatest of a number and those of a list
abbrev pub greatest_room : ℤ → List ℤ → ℤ
greatest_room greatest [] = greatest
greatest_room greatest (room ∷ rooms) = greatest_room (if int_lt greatest room then room else greatest) rooms

-- the numbers of the room are small, and its gaps are not shrunk by less than 0
pub record IsAsked (room : TextRoom) : Type 0 where
  pub small : IsRoom room
  pub shrink : pos 0 ≤ℤ room.give.shrink
