use Rattle.std.proofs.lemmas.Result.{on_ok_weaker}
use Rattle.pg_moves.specs.Columns.{doc_at}
use Rattle.pg_moves.proofs.Stepped.{in_room}
use Rattle.pg_moves.proofs.texts.add_kept.Goals as goal

pub returns : goal.returns
returns g c =
    let column = c.args.column.now in
    on_ok_weaker c.add_groups.result (λ step all. in_room (doc_at column) column.state.now
    (g.W.Wants.spares c.args.wants.now) column.laid.now all column.near.now.picks c.args.rooms.now c.args.room.now
    c.room_in.result.0.now c.room_in.result.1.now c.args.steps.now c.add_groups.new.steps
    c.room_in.ensures.groups c.room_in.ensures.ends step) c.add_groups.ensures

pub add_groups-requires-clause-own : goal.add_groups-requires-clause-own
add_groups-requires-clause-own g c = c.requires.own

pub add_groups-requires-clause-known : goal.add_groups-requires-clause-known
add_groups-requires-clause-known g c = c.requires.known

pub add_groups-requires-clause-laid : goal.add_groups-requires-clause-laid
add_groups-requires-clause-laid g c = c.requires.laid
