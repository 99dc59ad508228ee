use Rattle.std.proofs.Common.{◌≡◌, sym, true, arith}
use Rattle.pg_column.specs.Numbers.{IsRoom}
use Rattle.pg_column.specs.declared.cost.TextRoom.{TextRoom}
use Rattle.law_walk.specs.Candidates.{has_text}
use Rattle.pg_rooms.specs.PlaceEnds.{IsPageRoom, has_room}
use Rattle.pg_rooms.specs.declared.laid.Laid.{Laid}
use Rattle.pg_rooms.proofs.Kept.{all_contain, asked_more}
use Rattle.std.proofs.lemmas.Result.{IfOk-from_err}
use Rattle.pg_rooms.proofs.Asked.{all_passed}
use Rattle.pg_rooms.proofs.place_ends.add_rooms.Goals as goal

pub loop-it-init : goal.loop-it-init
loop-it-init c = record { has = tt; right = λ cs first page calls are. are; calls = λ calls. calls }

pub loop-it-preserved : goal.loop-it-preserved
loop-it-preserved c = record {
  has = asked_more
      (λ (room : TextRoom). has_text c.args.sources.now.style.now room ≡ true → has_room c.loop-it.rooms.items room ≡ true)
      (λ (room : TextRoom).
      has_text c.args.sources.now.style.now room ≡ true → has_room c.ask_room.new.rooms.items room ≡ true)
      c.args.laid.now c.loop-it.it-index c.it-item.result c.loop-it-test.true c.it-item.is c.loop-it.invariant.has
      c.in_ok-ask_room.ensures.has (λ room h t. c.in_ok-ask_room.ensures.keeps room (h t));
  right = λ cs first page calls are. c.in_ok-ask_room.ensures.right cs first
      (all_contain (λ (it : Laid). IsPageRoom c.args.sources.now.style.now it.room) c.args.laid.now c.it-item.result
      page (c.loop-it.it-index, c.loop-it-test.true, sym c.it-item.is))
      (c.loop-it.invariant.calls calls) (c.loop-it.invariant.right cs first page calls are);
  calls = λ calls. c.in_ok-ask_room.ensures.calls (c.loop-it.invariant.calls calls);
}

pub ask_room-requires-clause-room : goal.ask_room-requires-clause-room
ask_room-requires-clause-room c = all_contain (λ (it : Laid). IsRoom it.room) c.args.laid.now c.it-item.result c.requires.small
    (c.loop-it.it-index, c.loop-it-test.true, sym c.it-item.is)

pub returns-clause-right : goal.returns-clause-right
returns-clause-right c = c.loop-it.invariant.right

pub returns-clause-calls : goal.returns-clause-calls
returns-clause-calls c = c.loop-it.invariant.calls

pub returns-in_err-ask_room-clause-has : goal.returns-in_err-ask_room-clause-has
returns-in_err-ask_room-clause-has c = IfOk-from_err c.from_residual.result _ c.from_residual.ensures.0

pub returns-in_err-ask_room-clause-right : goal.returns-in_err-ask_room-clause-right
returns-in_err-ask_room-clause-right c = IfOk-from_err c.from_residual.result _ c.from_residual.ensures.0

pub returns-in_err-ask_room-clause-calls : goal.returns-in_err-ask_room-clause-calls
returns-in_err-ask_room-clause-calls c = IfOk-from_err c.from_residual.result _ c.from_residual.ensures.0

pub ask_room-requires-clause-place : goal.ask_room-requires-clause-place
ask_room-requires-clause-place c = c.requires.place

pub returns-clause-has : goal.returns-clause-has
returns-clause-has c = λ it among. all_passed
    (λ (it : Laid).
    has_text c.args.sources.now.style.now it.room ≡ true → has_room c.loop-it.rooms.items it.room ≡ true)
    c.args.laid.now c.loop-it.it-index (omega (arith, c.loop-it-test.false, c.loop-it.auto.it-index-end))
    c.loop-it.invariant.has it among
