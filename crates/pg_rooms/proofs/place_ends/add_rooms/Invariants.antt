use Rattle.std.proofs.Common.{◌≡◌, List, take, true}
use Rattle.std.specs.List.{AllByRecursion}
use Rattle.law_walk.specs.Candidates.{Candidate, has_text}
use Rattle.pg_rooms.specs.declared.laid.Laid.{Laid}
use Rattle.pg_sources.specs.Document.{doc_of}
use Rattle.pg_rooms.specs.Calls.{AreCalls}
use Rattle.pg_rooms.specs.PlaceEnds.{AreFirst, AreRoomEnds, IsPageRoom, has_room}
use Rattle.pg_rooms.proofs.place_ends.add_rooms.Given as goal

abbrev pub invariant-loop-it : goal.invariant-loop-it
invariant-loop-it l = record {
  has : AllByRecursion (λ (it : Laid). has_text (doc_of l.sources).style it.room ≡ true →
      has_room l.rooms.items it.room ≡ true) (take l.it-index l.laid);
  right : (cs : List Candidate) → AreFirst (doc_of l.sources) l.first.from cs l.first.is_straight l.first.near.now →
      AllByRecursion (λ (it : Laid). IsPageRoom (doc_of l.sources).style it.room) l.laid →
      AreCalls (doc_of l.sources) l.initial.calls.items.items →
      AllByRecursion (AreRoomEnds (doc_of l.sources) cs l.first.near.now.picks) l.initial.rooms.items →
      AllByRecursion (AreRoomEnds (doc_of l.sources) cs l.first.near.now.picks) l.rooms.items;
  calls : AreCalls (doc_of l.sources) l.initial.calls.items.items → AreCalls (doc_of l.sources) l.calls.items.items;
}
