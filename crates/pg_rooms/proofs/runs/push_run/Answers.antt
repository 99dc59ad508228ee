use Rattle.std.proofs.Common.{arith, ◌≡◌, ◌∙◌, ◌++◌, ◌∷◌, [], ap, subst, sym, length, map, take, List, ℕ}
use Rattle.std.specs.List.{AllByRecursion}
use Rattle.std.proofs.Math.Seq.{take-length}
use Rattle.pg_column.specs.Numbers.{IsRoom}
use Rattle.pg_lemmas.proofs.Lists.{all_append}
use Rattle.pg_rooms.specs.Runs.{IsLow, laid_in}
use Rattle.pg_rooms.specs.declared.laid.Laid.{Laid}
use Rattle.pg_rooms.proofs.Kept.{all_contain}
use Rattle.pg_rooms.proofs.Running.{run_more}
use Rattle.std.proofs.lemmas.Result.{IfOk-from_err}
use Rattle.pg_rooms.proofs.runs.push_run.Goals as goal

pub in_run-requires : goal.in_run-requires
in_run-requires c = all_contain (λ (it : Laid). IsLow it.room) c.args.first.now c.it-item.result c.requires
    (c.loop-it.it-index, c.loop-it-test.true, sym c.it-item.is)

pub loop-it-preserved : goal.loop-it-preserved
loop-it-preserved c =
    let push : c.push.new.self.items ≡ c.loop-it.all.items ++ c.in_ok-in_run.field-0 ∷ [] =
    c.in_ok-push.ensures.items in
    record {
      value = run_more c.args.sources.now.style.now c.args.run c.args.first.now c.loop-it.it-index c.it-item.result
          c.in_ok-in_run.field-0 c.args.all.now.items c.loop-it.all.items c.push.new.self.items c.loop-it-test.true
          c.it-item.is c.in_ok-in_run.ensures.value c.loop-it.invariant.value push;
      small = λ all. subst (AllByRecursion (λ (x : Laid). IsRoom x.room)) (sym push)
          (all_append (λ (x : Laid). IsRoom x.room) c.loop-it.all.items (c.in_ok-in_run.field-0 ∷ [])
          (c.loop-it.invariant.small all) (c.in_ok-in_run.ensures.small, tt));
    }

pub returns-clause-value : goal.returns-clause-value
returns-clause-value c =
    let e : c.loop-it.it-index ≡ length c.args.first.now =
    omega (arith, c.loop-it-test.false, c.loop-it.auto.it-index-end) in
    c.loop-it.invariant.value
    ∙ ap (λ (xs : List Laid). c.args.all.now.items ++ map (laid_in c.args.sources.now.style.now c.args.run) xs)
    (ap (λ (n : ℕ). take n c.args.first.now) e ∙ take-length c.args.first.now)

pub returns-clause-small : goal.returns-clause-small
returns-clause-small c = c.loop-it.invariant.small

pub returns-in_err-in_run-clause-value : goal.returns-in_err-in_run-clause-value
returns-in_err-in_run-clause-value c = IfOk-from_err c.from_residual.result _ c.from_residual.ensures.0

pub returns-in_err-in_run-clause-small : goal.returns-in_err-in_run-clause-small
returns-in_err-in_run-clause-small c = IfOk-from_err c.from_residual.result _ c.from_residual.ensures.0

pub returns-in_err-push-clause-value : goal.returns-in_err-push-clause-value
returns-in_err-push-clause-value c =
    IfOk-from_err c.from_residual-in_err-push.result _ c.from_residual-in_err-push.ensures.0

pub returns-in_err-push-clause-small : goal.returns-in_err-push-clause-small
returns-in_err-push-clause-small c =
    IfOk-from_err c.from_residual-in_err-push.result _ c.from_residual-in_err-push.ensures.0
