use Rattle.std.proofs.Common.{refl}
use Rattle.pg_sources.specs.Document.{doc_of}
use Rattle.pg_rooms.proofs.Kept.{on_three, still_kept}
use Rattle.std.proofs.lemmas.Result.{IfOk-from_err, on_ok_weaker}
use Rattle.pg_rooms.proofs.place_ends.PlaceEnds.ask_all.Goals as goal

pub returns-clause-right : goal.returns-clause-right
returns-clause-right c = on_three c.ask_behind.result (λ right walk calls low are.
    still_kept (doc_of c.args.sources.now) c.args.from c.args.self.now _ refl refl walk are
    (c.in_ok-add_rooms.ensures.right are.first are.are_first low are.calls are.rooms)
    (right are.later low (c.in_ok-add_rooms.ensures.calls are.calls) are.behind)
    (calls (c.in_ok-add_rooms.ensures.calls are.calls)))
    c.ask_behind.ensures.right c.ask_behind.ensures.walk c.ask_behind.ensures.calls

pub add_rooms-requires-clause-place : goal.add_rooms-requires-clause-place
add_rooms-requires-clause-place c = c.requires.place

pub add_rooms-requires-clause-small : goal.add_rooms-requires-clause-small
add_rooms-requires-clause-small c = c.requires.small

pub returns-in_err-add_rooms-clause-walk : goal.returns-in_err-add_rooms-clause-walk
returns-in_err-add_rooms-clause-walk c = IfOk-from_err c.from_residual.result _ c.from_residual.ensures.0

pub returns-in_err-add_rooms-clause-counts : goal.returns-in_err-add_rooms-clause-counts
returns-in_err-add_rooms-clause-counts c = IfOk-from_err c.from_residual.result _ c.from_residual.ensures.0

pub returns-in_err-add_rooms-clause-has : goal.returns-in_err-add_rooms-clause-has
returns-in_err-add_rooms-clause-has c = IfOk-from_err c.from_residual.result _ c.from_residual.ensures.0

pub returns-in_err-add_rooms-clause-behind : goal.returns-in_err-add_rooms-clause-behind
returns-in_err-add_rooms-clause-behind c = IfOk-from_err c.from_residual.result _ c.from_residual.ensures.0

pub returns-in_err-add_rooms-clause-right : goal.returns-in_err-add_rooms-clause-right
returns-in_err-add_rooms-clause-right c = IfOk-from_err c.from_residual.result _ c.from_residual.ensures.0

pub ask_behind-requires : goal.ask_behind-requires
ask_behind-requires c = record { small = c.requires.small }

pub returns-clause-walk : goal.returns-clause-walk
returns-clause-walk c = on_ok_weaker c.ask_behind.result (λ h. refl) c.ask_behind.ensures.has

pub returns-clause-counts : goal.returns-clause-counts
returns-clause-counts c = on_ok_weaker c.ask_behind.result (λ h. refl) c.ask_behind.ensures.has

pub returns-clause-has : goal.returns-clause-has
returns-clause-has c = on_ok_weaker c.ask_behind.result (λ h. c.in_ok-add_rooms.ensures.has) c.ask_behind.ensures.has

pub returns-clause-behind : goal.returns-clause-behind
returns-clause-behind c = c.ask_behind.ensures.has
