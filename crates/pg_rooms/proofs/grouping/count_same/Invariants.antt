use Rattle.std.proofs.Common.{◌≡◌, take}
use Rattle.std.specs.List.{AllByRecursion}
use Rattle.pg_candidates.specs.declared.room_end.RoomEnd.{RoomEnd}
use Rattle.pg_sources.specs.Document.{doc_of}
use Rattle.pg_rooms.specs.Calls.{AreCalls, IsLike}
use Rattle.pg_rooms.proofs.grouping.count_same.Given as goal

abbrev pub invariant-loop-end : goal.invariant-loop-end
invariant-loop-end l = record {
  same : AreCalls (doc_of l.sources) l.initial.calls.items.items →
      AllByRecursion (λ (end : RoomEnd). IsLike (doc_of l.sources) l.like end.to) (take l.end-index l.ends);
  calls : AreCalls (doc_of l.sources) l.initial.calls.items.items → AreCalls (doc_of l.sources) l.calls.items.items;
  count : l.count ≡ l.end-index;
}
