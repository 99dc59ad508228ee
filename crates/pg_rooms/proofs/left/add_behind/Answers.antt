use Rattle.std.proofs.Common.{◌≡◌, ◌∙◌, refl, sym, true, Some, arith}
use Rattle.pg_column.specs.Numbers.{IsRoom}
use Rattle.pg_column.specs.declared.cost.TextRoom.{TextRoom}
use Rattle.law_walk.specs.Candidates.{has_text}
use Rattle.pg_rooms.specs.PlaceEnds.{IsPageRoom, has_behind}
use Rattle.pg_rooms.specs.declared.laid.Laid.{Laid}
use Rattle.pg_rooms.proofs.Kept.{all_contain, asked_more}
use Rattle.std.proofs.lemmas.Result.{IfOk-from_err}
use Rattle.pg_rooms.proofs.Asked.{all_passed}
use Rattle.pg_rooms.proofs.left.add_behind.Goals as goal

pub loop-it-init : goal.loop-it-init
loop-it-init c = record {
  has = tt;
  right = λ cs page calls are. are;
  same = record { walk = refl; by = refl; bound = refl };
  calls = λ calls. calls;
}

pub loop-it-preserved : goal.loop-it-preserved
loop-it-preserved c = record {
  has = asked_more
      (λ (room : TextRoom). has_text c.args.sources.now.style.now room ≡ true → has_behind (Some c.loop-it.behind) room ≡ true)
      (λ (room : TextRoom).
      has_text c.args.sources.now.style.now room ≡ true → has_behind (Some c.ask_left.new.behind) room ≡ true)
      c.args.laid.now c.loop-it.it-index c.it-item.result c.loop-it-test.true c.it-item.is c.loop-it.invariant.has
      c.in_ok-ask_left.ensures.has (λ room h t. c.in_ok-ask_left.ensures.keeps room (h t));
  right = λ cs page calls are. c.in_ok-ask_left.ensures.right cs
      (all_contain (λ (it : Laid). IsPageRoom c.args.sources.now.style.now it.room) c.args.laid.now c.it-item.result
      page (c.loop-it.it-index, c.loop-it-test.true, sym c.it-item.is))
      (c.loop-it.invariant.calls calls) (c.loop-it.invariant.right cs page calls are);
  same = record {
    walk = c.in_ok-ask_left.ensures.same.walk ∙ c.loop-it.invariant.same.walk;
    by = c.in_ok-ask_left.ensures.same.by ∙ c.loop-it.invariant.same.by;
    bound = c.in_ok-ask_left.ensures.same.bound ∙ c.loop-it.invariant.same.bound;
  };
  calls = λ calls. c.in_ok-ask_left.ensures.calls (c.loop-it.invariant.calls calls);
}

pub ask_left-requires : goal.ask_left-requires
ask_left-requires c = all_contain (λ (it : Laid). IsRoom it.room) c.args.laid.now c.it-item.result c.requires.small
    (c.loop-it.it-index, c.loop-it-test.true, sym c.it-item.is)

pub returns-clause-right : goal.returns-clause-right
returns-clause-right c = c.loop-it.invariant.right

pub returns-clause-same : goal.returns-clause-same
returns-clause-same c = c.loop-it.invariant.same

pub returns-clause-calls : goal.returns-clause-calls
returns-clause-calls c = c.loop-it.invariant.calls

pub returns-in_err-ask_left-clause-has : goal.returns-in_err-ask_left-clause-has
returns-in_err-ask_left-clause-has c = IfOk-from_err c.from_residual.result _ c.from_residual.ensures.0

pub returns-in_err-ask_left-clause-right : goal.returns-in_err-ask_left-clause-right
returns-in_err-ask_left-clause-right c = IfOk-from_err c.from_residual.result _ c.from_residual.ensures.0

pub returns-in_err-ask_left-clause-same : goal.returns-in_err-ask_left-clause-same
returns-in_err-ask_left-clause-same c = IfOk-from_err c.from_residual.result _ c.from_residual.ensures.0

pub returns-in_err-ask_left-clause-calls : goal.returns-in_err-ask_left-clause-calls
returns-in_err-ask_left-clause-calls c = IfOk-from_err c.from_residual.result _ c.from_residual.ensures.0

pub returns-clause-has : goal.returns-clause-has
returns-clause-has c = λ it among. all_passed
    (λ (it : Laid).
    has_text c.args.sources.now.style.now it.room ≡ true → has_behind (Some c.loop-it.behind) it.room ≡ true)
    c.args.laid.now c.loop-it.it-index (omega (arith, c.loop-it-test.false, c.loop-it.auto.it-index-end))
    c.loop-it.invariant.has it among
