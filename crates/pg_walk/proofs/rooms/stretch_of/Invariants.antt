use Rattle.std.proofs.Common.{◌≡◌, ◌<◌, ◌^◌, length, pos}
use Rattle.std.specs.Prelude.{nat_abs}
use Rattle.std.specs.List.{AllByRecursion}
use Rattle.pg_walk.proofs.Several.{stretches}
use Rattle.pg_walk.specs.Rooms.{IsAsked, greatest_room}
use Rattle.pg_walk.proofs.rooms.stretch_of.Given as goal

abbrev pub invariant-rooms : goal.invariant-rooms
invariant-rooms l = record {
  asked : AllByRecursion IsAsked l.left;
  few : nat_abs l.greatest < 2 ^ 40;
  greatest : greatest_room l.greatest (stretches l.left) ≡ greatest_room (pos 0) (stretches l.rooms);
}

abbrev pub decreases-rooms : goal.decreases-rooms
decreases-rooms l = length l.left
