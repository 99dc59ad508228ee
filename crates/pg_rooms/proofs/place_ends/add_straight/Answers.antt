use Rattle.std.proofs.Common.{[], subst, ◌≡◌, ◌∙◌, sym, List, true}
use Rattle.std.proofs.lemmas.Result.{on_ok_weaker, IfOk-from_err}
use Rattle.pg_candidates.specs.RoomEnds.{ends_of}
use Rattle.pg_column.specs.declared.cost.TextRoom.{TextRoom}
use Rattle.law_walk.specs.Best.{AreBest}
use Rattle.law_walk.specs.Candidates.{text_ends}
use Rattle.pg_sources.specs.Document.{doc_of}
use Rattle.pg_walk.specs.Straight.{straight_candidates}
use Rattle.pg_rooms.specs.PlaceEnds.{has_room}
use Rattle.pg_rooms.specs.declared.place_ends.RoomEnds.{RoomEnds}
use Rattle.pg_rooms.proofs.place_ends.add_straight.Goals as goal

pub returns-clause-right : goal.returns-clause-right
returns-clause-right c = on_ok_weaker c.keep_room.result (λ right page calls are.
    let doc = doc_of c.args.sources.now in
    right (straight_candidates doc c.args.from) []
    (subst (λ (room : TextRoom). AreBest (text_ends doc room (straight_candidates doc c.args.from))
    (ends_of [] c.in_ok-straight.straight.ends.items)) c.in_ok-straight.ensures.room c.in_ok-straight.ensures.ends)
    page calls are)
    c.keep_room.ensures.right

pub returns-then-is_kept-clause-has : goal.returns-then-is_kept-clause-has
returns-then-is_kept-clause-has c = subst (λ (rooms : List RoomEnds). has_room rooms c.args.room.now ≡ true)
    c.as_slice.ensures.value (sym c.is_kept.ensures ∙ c.if-is_kept.true)

pub returns-then-is_kept-clause-keeps : goal.returns-then-is_kept-clause-keeps
returns-then-is_kept-clause-keeps c = λ other h. h

pub returns-then-is_kept-clause-right : goal.returns-then-is_kept-clause-right
returns-then-is_kept-clause-right c = λ page calls are. are

pub returns-then-is_kept-clause-calls : goal.returns-then-is_kept-clause-calls
returns-then-is_kept-clause-calls c = λ calls. calls

pub straight_ends-requires-clause-place : goal.straight_ends-requires-clause-place
straight_ends-requires-clause-place c = c.requires.place

pub straight_ends-requires-clause-room : goal.straight_ends-requires-clause-room
straight_ends-requires-clause-room c = c.requires.room

pub returns-in_err-straight-clause-has : goal.returns-in_err-straight-clause-has
returns-in_err-straight-clause-has c = IfOk-from_err c.from_residual.result _ c.from_residual.ensures.0

pub returns-in_err-straight-clause-keeps : goal.returns-in_err-straight-clause-keeps
returns-in_err-straight-clause-keeps c = IfOk-from_err c.from_residual.result _ c.from_residual.ensures.0

pub returns-in_err-straight-clause-right : goal.returns-in_err-straight-clause-right
returns-in_err-straight-clause-right c = IfOk-from_err c.from_residual.result _ c.from_residual.ensures.0

pub returns-in_err-straight-clause-calls : goal.returns-in_err-straight-clause-calls
returns-in_err-straight-clause-calls c = IfOk-from_err c.from_residual.result _ c.from_residual.ensures.0

pub keep_room-requires : goal.keep_room-requires
keep_room-requires c = c.new.ensures.items

pub returns-clause-has : goal.returns-clause-has
returns-clause-has c = c.keep_room.ensures.has

pub returns-clause-keeps : goal.returns-clause-keeps
returns-clause-keeps c = c.keep_room.ensures.keeps

pub returns-clause-calls : goal.returns-clause-calls
returns-clause-calls c = c.keep_room.ensures.calls
