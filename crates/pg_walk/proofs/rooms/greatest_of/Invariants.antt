use Rattle.std.proofs.Common.{◌≡◌, length, map}
use Rattle.std.specs.List.{AllByRecursion}
use Rattle.pg_column.specs.Numbers.{most_room}
use Rattle.pg_walk.specs.Rooms.{IsAsked, greatest_room}
use Rattle.pg_walk.proofs.rooms.greatest_of.Given as goal

abbrev pub invariant-rooms : goal.invariant-rooms
invariant-rooms l = record {
  asked : AllByRecursion IsAsked l.left;
  greatest : greatest_room l.greatest (map most_room l.left) ≡ greatest_room l.first (map most_room l.rooms);
}

abbrev pub decreases-rooms : goal.decreases-rooms
decreases-rooms l = length l.left
