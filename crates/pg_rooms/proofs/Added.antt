-- A room is added.
use Rattle.std.proofs.Common.{◌≡◌, List, true}
use Rattle.std.specs.Prelude.{OnOk, Result, Ok, Err}
use Rattle.std.specs.List.{AllByRecursion}
use Rattle.law_walk.specs.Candidates.{Candidate}
use Rattle.pg_candidates.specs.Nears.{NearsValue}
use Rattle.pg_column.specs.declared.cost.TextRoom.{TextRoom}
use Rattle.pg_rules.specs.Room.{Document}
use Rattle.pg_rooms.specs.Calls.{AreCalls}
use Rattle.pg_rooms.specs.PlaceEnds.{AddsRoom, AreRoomEnds, IsNearOnPages, IsPageRoom, has_room}
use Rattle.pg_rooms.specs.declared.calls.Call.{Call}
use Rattle.pg_rooms.specs.declared.place_ends.RoomEnds.{RoomEnds}

-- what is kept of a room whose ends these candidates give
pub adds_room : {T E Kept : Type 0} (r : Result T E) (doc : Document) (near : NearsValue) (room : TextRoom)
    (old new : List RoomEnds) (before after : List Call) →
    ((cs : List Candidate) → IsNearOnPages doc cs near → IsPageRoom doc.style room → AreCalls doc before →
    AllByRecursion (AreRoomEnds doc cs near.picks) old → Kept → AllByRecursion (AreRoomEnds doc cs near.picks) new) →
    OnOk r (has_room new room ≡ true) →
    OnOk r ((other : TextRoom) → has_room old other ≡ true → has_room new other ≡ true) → OnOk r Kept →
    OnOk r (AreCalls doc before → AreCalls doc after) → OnOk r (AddsRoom doc near room old new before after)
adds_room (Ok x) doc near room old new before after right h k kept c = record {
  has = h;
  keeps = k;
  right = λ cs near page calls are. right cs near page calls are kept;
  calls = c;
}
adds_room (Err e) doc near room old new before after right h k kept c = tt
