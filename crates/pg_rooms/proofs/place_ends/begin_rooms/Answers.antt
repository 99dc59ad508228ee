use Rattle.std.proofs.Common.{[], Option, IfSome, ◌≡◌, subst, sym}
use Rattle.std.specs.List.{AllByRecursion}
use Rattle.std.proofs.lemmas.Result.{on_ok_weaker}
use Rattle.pg_candidates.specs.RoomEnds.{ends_of}
use Rattle.law_walk.specs.Best.{AreBest}
use Rattle.law_walk.specs.Candidates.{text_ends}
use Rattle.pg_sources.specs.Document.{doc_of}
use Rattle.pg_walk.specs.Straight.{tallest_room}
use Rattle.pg_walk.specs.declared.straight.StraightEnds.{StraightEnds}
use Rattle.pg_rooms.specs.PlaceEnds.{AreRoomEnds}
use Rattle.pg_rooms.proofs.Kept.{tallest_is_page}
use Rattle.pg_rooms.proofs.Asked.{not_none}
use Rattle.pg_rooms.proofs.place_ends.begin_rooms.Goals as goal

pub returns-clause-right : goal.returns-clause-right
returns-clause-right c = on_ok_weaker c.keep_room.result (λ right cs told calls.
    let doc = doc_of c.args.sources.now in
    let is = subst (λ (o : Option StraightEnds). IfSome o (λ it. (it.room ≡ tallest_room doc.style)
    × AreBest (text_ends doc it.room cs) (ends_of [] it.ends.items))) c.in-Some.is told in
    right cs [] is.1
    (tallest_is_page doc.style c.stays_in_range.ensures c.in-Some.field-0.room is.0) calls
    (subst (AllByRecursion (AreRoomEnds doc cs [])) (sym c.clear.ensures.items) tt)) c.keep_room.ensures.right

pub returns-in_default-clause-none : goal.returns-in_default-clause-none
returns-in_default-clause-none c = λ none. c.clear.ensures.items

pub returns-in_default-clause-right : goal.returns-in_default-clause-right
returns-in_default-clause-right c = λ cs told calls.
    subst (AllByRecursion (AreRoomEnds (doc_of c.args.sources.now) cs []))
    (sym c.clear.ensures.items) tt

pub returns-in_default-clause-calls : goal.returns-in_default-clause-calls
returns-in_default-clause-calls c = λ calls. calls

pub keep_room-requires : goal.keep_room-requires
keep_room-requires c = c.emptied_groups-none.ensures

pub returns-clause-none : goal.returns-clause-none
returns-clause-none c = on_ok_weaker c.keep_room.result
    (λ h none. not_none c.args.straight _ c.in-Some.is none) c.keep_room.ensures.has

pub returns-clause-calls : goal.returns-clause-calls
returns-clause-calls c = c.keep_room.ensures.calls
