use Rattle.std.proofs.Common.{subst, List}
use Rattle.std.specs.List.{AllByRecursion}
use Rattle.std.proofs.lemmas.Result.{on_ok_weaker}
use Rattle.pg_sources.specs.Document.{doc_of}
use Rattle.pg_rooms.specs.PlaceEnds.{AreRoomEnds}
use Rattle.pg_rooms.specs.declared.place_ends.RoomEnds.{RoomEnds}
use Rattle.pg_moves.specs.Stepping.{steps_at}
use Rattle.pg_moves.specs.Thinned.{Adds}
use Rattle.pg_moves.proofs.Stepped.{behind_added, behind_none}
use Rattle.pg_moves.proofs.texts.add_behind.Goals as goal

pub returns : goal.returns
returns g c = on_ok_weaker c.add_kept.result (λ step.
    let doc = doc_of c.args.opening.now.sources.now in
    let u = c.args.opening.now.state.now in
    let spares = g.W.Wants.spares c.args.wants.now in
    let ps = c.args.behind.now.ends.walk.near.picks in
    behind_added doc u spares c.args.laid.now c.args.behind.now c.room_behind.result c.in-Some.left c.args.steps.now
    c.add_kept.new.steps c.room_behind.ensures.value c.in-Some.is
    (λ all. subst (λ (rooms : List RoomEnds). AllByRecursion (AreRoomEnds doc all ps) rooms →
    Adds spares c.args.steps.now (steps_at doc u ps rooms c.in-Some.left c.args.laid.now) c.add_kept.new.steps)
    c.as_slice-rooms.ensures.value (step all))) c.add_kept.ensures

pub returns-in_default : goal.returns-in_default
returns-in_default g c = λ all are. behind_none (doc_of c.args.opening.now.sources.now) c.args.opening.now.state.now
    (g.W.Wants.spares c.args.wants.now) c.args.laid.now c.args.behind.now c.room_behind.result c.args.steps.now
    c.room_behind.ensures.value c.in_default.is

pub room_behind-requires : goal.room_behind-requires
room_behind-requires g c = c.requires.room

pub add_kept-requires-clause-own : goal.add_kept-requires-clause-own
add_kept-requires-clause-own g c = c.requires.own

pub add_kept-requires-clause-known : goal.add_kept-requires-clause-known
add_kept-requires-clause-known g c = c.requires.known

pub add_kept-requires-clause-laid : goal.add_kept-requires-clause-laid
add_kept-requires-clause-laid g c = c.requires.laid
