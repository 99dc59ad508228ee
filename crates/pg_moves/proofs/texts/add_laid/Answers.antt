use Rattle.std.proofs.Common.{sym, subst, ◌∙◌, List}
use Rattle.std.specs.List.{AllByRecursion}
use Rattle.std.proofs.lemmas.Result.{on_ok_weaker}
use Rattle.pg_sources.specs.Document.{doc_of}
use Rattle.pg_rooms.specs.PlaceEnds.{AreRoomEnds}
use Rattle.pg_rooms.specs.declared.place_ends.RoomEnds.{RoomEnds}
use Rattle.pg_moves.specs.Stepping.{steps_at}
use Rattle.pg_moves.specs.Thinned.{Adds}
use Rattle.pg_moves.proofs.AllSteps.{at_err}
use Rattle.pg_moves.proofs.Stepped.{added_alone, added_both}
use Rattle.pg_moves.proofs.texts.add_laid.Goals as goal

pub returns-in-Some : goal.returns-in-Some
returns-in-Some g c = on_ok_weaker c.add_behind.result (λ step right.
    let doc = doc_of c.args.opening.now.sources.now in
    let u = c.args.opening.now.state.now in
    let kept = c.args.kept.now in
    let spares = g.W.Wants.spares c.args.wants.now in
    let first = subst (λ (rooms : List RoomEnds). AllByRecursion
    (AreRoomEnds doc right.first kept.walk.near.picks) rooms →
    Adds spares c.args.steps.now (steps_at doc u kept.walk.near.picks rooms c.args.laid.now.room c.args.laid.now)
    c.add_kept.new.steps) c.as_slice-rooms.ensures.value (c.in_ok-add_kept.ensures right.first) in
    added_both doc u spares c.args.laid.now kept (sym c.has_text.ensures ∙ c.if-not-has_text.false) c.in-Some.behind
    c.args.steps.now c.add_kept.new.steps c.add_behind.new.steps c.in-Some.is right.later right.behind (first right.rooms) (step right.later))
    c.add_behind.ensures

pub returns-in-None : goal.returns-in-None
returns-in-None g c = λ right.
    let doc = doc_of c.args.opening.now.sources.now in
    let u = c.args.opening.now.state.now in
    let kept = c.args.kept.now in
    let spares = g.W.Wants.spares c.args.wants.now in
    let first = subst (λ (rooms : List RoomEnds). AllByRecursion
    (AreRoomEnds doc right.first kept.walk.near.picks) rooms →
    Adds spares c.args.steps.now (steps_at doc u kept.walk.near.picks rooms c.args.laid.now.room c.args.laid.now)
    c.add_kept.new.steps) c.as_slice-rooms.ensures.value (c.in_ok-add_kept.ensures right.first) in
    added_alone doc u spares c.args.laid.now kept (sym c.has_text.ensures ∙ c.if-not-has_text.false) c.args.steps.now
    c.add_kept.new.steps c.in-None.is (first right.rooms)

pub add_kept-requires-clause-own : goal.add_kept-requires-clause-own
add_kept-requires-clause-own g c = c.requires.own

pub add_kept-requires-clause-known : goal.add_kept-requires-clause-known
add_kept-requires-clause-known g c = c.requires.known

pub add_kept-requires-clause-laid : goal.add_kept-requires-clause-laid
add_kept-requires-clause-laid g c = c.requires.laid

pub add_behind-requires-clause-own : goal.add_behind-requires-clause-own
add_behind-requires-clause-own g c = c.requires.own

pub add_behind-requires-clause-known : goal.add_behind-requires-clause-known
add_behind-requires-clause-known g c = c.requires.known

pub add_behind-requires-clause-laid : goal.add_behind-requires-clause-laid
add_behind-requires-clause-laid g c = c.requires.laid

pub add_behind-requires-clause-room : goal.add_behind-requires-clause-room
add_behind-requires-clause-room g c = c.requires.room

pub returns-in_err-add_kept : goal.returns-in_err-add_kept
returns-in_err-add_kept g c = at_err _ c.from_residual.result c.from_residual.ensures.0
