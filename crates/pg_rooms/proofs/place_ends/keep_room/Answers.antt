use Rattle.std.proofs.Common.{refl, subst}
use Rattle.pg_sources.specs.Document.{doc_of}
use Rattle.pg_rooms.specs.PlaceEnds.{AreGroups}
use Rattle.pg_rooms.proofs.Kept.{has_added, has_still, rooms_added}
use Rattle.std.proofs.lemmas.Result.{IfOk-from_err}
use Rattle.pg_rooms.proofs.place_ends.keep_room.Goals as goal

pub returns-clause-has : goal.returns-clause-has
returns-clause-has c = has_added c.args.rooms.now.items c.push.new.self.items
    (record { room = c.args.room.now; ends = c.args.ends; groups = c.in_ok-groups.groups }) c.args.room.now
    c.in_ok-push.ensures.items refl

pub returns-clause-keeps : goal.returns-clause-keeps
returns-clause-keeps c = λ other h. has_still c.args.rooms.now.items c.push.new.self.items
    (record { room = c.args.room.now; ends = c.args.ends; groups = c.in_ok-groups.groups }) other
    c.in_ok-push.ensures.items h

pub returns-clause-right : goal.returns-clause-right
returns-clause-right c = λ cs ps best page calls are. rooms_added (doc_of c.args.sources.now) cs ps
    c.args.rooms.now.items c.push.new.self.items
    (record { room = c.args.room.now; ends = c.args.ends; groups = c.in_ok-groups.groups })
    c.in_ok-push.ensures.items are (record {
      page = page;
      best = best;
      groups = subst (AreGroups (doc_of c.args.sources.now) c.in_ok-groups.groups.items) c.as_slice.ensures.value
          (c.in_ok-groups.ensures.groups calls);
    })

pub returns-clause-calls : goal.returns-clause-calls
returns-clause-calls c = c.in_ok-groups.ensures.calls

pub group_ends-requires : goal.group_ends-requires
group_ends-requires c = c.requires

pub returns-in_err-groups-clause-has : goal.returns-in_err-groups-clause-has
returns-in_err-groups-clause-has c = IfOk-from_err c.from_residual.result _ c.from_residual.ensures.0

pub returns-in_err-groups-clause-keeps : goal.returns-in_err-groups-clause-keeps
returns-in_err-groups-clause-keeps c = IfOk-from_err c.from_residual.result _ c.from_residual.ensures.0

pub returns-in_err-groups-clause-right : goal.returns-in_err-groups-clause-right
returns-in_err-groups-clause-right c = IfOk-from_err c.from_residual.result _ c.from_residual.ensures.0

pub returns-in_err-groups-clause-calls : goal.returns-in_err-groups-clause-calls
returns-in_err-groups-clause-calls c = IfOk-from_err c.from_residual.result _ c.from_residual.ensures.0

pub returns-in_err-push-clause-has : goal.returns-in_err-push-clause-has
returns-in_err-push-clause-has c =
    IfOk-from_err c.from_residual-in_err-push.result _ c.from_residual-in_err-push.ensures.0

pub returns-in_err-push-clause-keeps : goal.returns-in_err-push-clause-keeps
returns-in_err-push-clause-keeps c =
    IfOk-from_err c.from_residual-in_err-push.result _ c.from_residual-in_err-push.ensures.0

pub returns-in_err-push-clause-right : goal.returns-in_err-push-clause-right
returns-in_err-push-clause-right c =
    IfOk-from_err c.from_residual-in_err-push.result _ c.from_residual-in_err-push.ensures.0

pub returns-in_err-push-clause-calls : goal.returns-in_err-push-clause-calls
returns-in_err-push-clause-calls c =
    IfOk-from_err c.from_residual-in_err-push.result _ c.from_residual-in_err-push.ensures.0
