use Rattle.std.proofs.Common.{◌≡◌, length}
use Rattle.pg_rooms.specs.PlaceEnds.{ends_in, groups_in, has_room}
use Rattle.pg_rooms.proofs.place_ends.kept.Given as goal

abbrev pub invariant-rooms : goal.invariant-rooms
invariant-rooms l = record {
  has : has_room l.rooms l.room ≡ has_room l.rest l.room;
  ends : ends_in l.rooms l.room ≡ ends_in l.rest l.room;
  groups : groups_in l.rooms l.room ≡ groups_in l.rest l.room;
}

abbrev pub decreases-rooms : goal.decreases-rooms
decreases-rooms l = length l.rest
