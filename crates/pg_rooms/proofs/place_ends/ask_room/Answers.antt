use Rattle.std.proofs.Common.{List, ℕ, sym, subst}
use Rattle.std.specs.List.{AllByRecursion}
use Rattle.std.proofs.lemmas.Result.{on_ok_weaker}
use Rattle.law_walk.specs.Candidates.{Candidate}
use Rattle.pg_sources.specs.Document.{doc_of}
use Rattle.pg_walk.specs.Straight.{straight_candidates}
use Rattle.pg_rooms.specs.PlaceEnds.{AreRoomEnds}
use Rattle.pg_rooms.proofs.Kept.{listed_of, straight_of}
use Rattle.pg_rooms.proofs.Asked.{too_low}
use Rattle.pg_rooms.proofs.place_ends.ask_room.Goals as goal

pub returns-then-first-clause-right : goal.returns-then-first-clause-right
returns-then-first-clause-right c = on_ok_weaker c.add_straight.result (λ right cs first page calls are.
    let doc = doc_of c.args.sources.now in
    let from = c.args.first.now.from in
    let near = c.args.first.now.near.now in
    let is = straight_of doc from cs c.args.first.now.is_straight near c.if-first.true first in
    subst (λ (ds : List Candidate). AllByRecursion (AreRoomEnds doc ds near.picks)
    c.add_straight.new.rooms.items) (sym is.0)
    (subst (λ (ps : List (List ℕ)). AllByRecursion (AreRoomEnds doc (straight_candidates doc from) ps)
    c.add_straight.new.rooms.items) (sym is.1)
    (right page calls (subst (λ (ps : List (List ℕ)).
    AllByRecursion (AreRoomEnds doc (straight_candidates doc from) ps) c.args.rooms.now.items) is.1
    (subst (λ (ds : List Candidate). AllByRecursion (AreRoomEnds doc ds near.picks)
    c.args.rooms.now.items) is.0 are))))) c.add_straight.ensures.right

pub returns-clause-right : goal.returns-clause-right
returns-clause-right c = on_ok_weaker c.add_room.result (λ right cs first page calls are.
    let doc = doc_of c.args.sources.now in
    right cs (listed_of doc c.args.first.now.from cs c.args.first.now.is_straight c.args.first.now.near.now
    c.if-first.false first) page calls are) c.add_room.ensures.right

pub returns-then-not-has_text-clause-has : goal.returns-then-not-has_text-clause-has
returns-then-not-has_text-clause-has c = λ t. too_low _ _ c.has_text.ensures c.if-not-has_text.true t

pub returns-then-not-has_text-clause-keeps : goal.returns-then-not-has_text-clause-keeps
returns-then-not-has_text-clause-keeps c = λ other h. h

pub returns-then-not-has_text-clause-right : goal.returns-then-not-has_text-clause-right
returns-then-not-has_text-clause-right c = λ cs first page calls are. are

pub returns-then-not-has_text-clause-calls : goal.returns-then-not-has_text-clause-calls
returns-then-not-has_text-clause-calls c = λ calls. calls

pub add_straight-requires-clause-place : goal.add_straight-requires-clause-place
add_straight-requires-clause-place c = c.requires.place

pub add_straight-requires-clause-room : goal.add_straight-requires-clause-room
add_straight-requires-clause-room c = c.requires.room

pub returns-then-first-clause-has : goal.returns-then-first-clause-has
returns-then-first-clause-has c = on_ok_weaker c.add_straight.result (λ h t. h) c.add_straight.ensures.has

pub returns-then-first-clause-keeps : goal.returns-then-first-clause-keeps
returns-then-first-clause-keeps c = c.add_straight.ensures.keeps

pub returns-then-first-clause-calls : goal.returns-then-first-clause-calls
returns-then-first-clause-calls c = c.add_straight.ensures.calls

pub add_room-requires : goal.add_room-requires
add_room-requires c = c.requires.room

pub returns-clause-has : goal.returns-clause-has
returns-clause-has c = on_ok_weaker c.add_room.result (λ h t. h) c.add_room.ensures.has

pub returns-clause-keeps : goal.returns-clause-keeps
returns-clause-keeps c = c.add_room.ensures.keeps

pub returns-clause-calls : goal.returns-clause-calls
returns-clause-calls c = c.add_room.ensures.calls
