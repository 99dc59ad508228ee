use Rattle.std.proofs.lemmas.Result.{on_ok_weaker}
use Rattle.pg_rooms.proofs.place_ends.add_room.Goals as goal

pub returns-clause-has : goal.returns-clause-has
returns-clause-has c = on_ok_weaker c.make_room.result (λ it. it.has) c.make_room.ensures

pub returns-clause-keeps : goal.returns-clause-keeps
returns-clause-keeps c = on_ok_weaker c.make_room.result (λ it. it.keeps) c.make_room.ensures

pub returns-clause-right : goal.returns-clause-right
returns-clause-right c = on_ok_weaker c.make_room.result (λ it. it.right) c.make_room.ensures

pub returns-clause-calls : goal.returns-clause-calls
returns-clause-calls c = on_ok_weaker c.make_room.result (λ it. it.calls) c.make_room.ensures
