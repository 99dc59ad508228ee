use Rattle.std.proofs.Common.{rules, ◌≡◌, ◌∙◌, ap, length, ℕ}
use Rattle.std.specs.List.{flat_map, range_with_len}
use Rattle.pg_rooms.specs.Runs.{laid_in_all}
use Rattle.pg_rooms.proofs.Running.{runs_more}
use Rattle.std.proofs.lemmas.Result.{IfOk-from_err}
use Rattle.pg_rooms.proofs.runs.all_runs.Goals as goal

pub loop-run-preserved : goal.loop-run-preserved
loop-run-preserved c = record {
  value = runs_more (laid_in_all c.args.sources.now.style.now c.args.first.now) c.loop-run.run c.loop-run.all.items
      c.push_run.new.all.items c.loop-run.invariant.value c.in_ok-push_run.ensures.value;
  small = c.in_ok-push_run.ensures.small c.loop-run.invariant.small;
}

pub returns-clause-value : goal.returns-clause-value
returns-clause-value c = c.loop-run.invariant.value
    ∙ ap (λ (n : ℕ). flat_map (laid_in_all c.args.sources.now.style.now c.args.first.now) (range_with_len 0 n))
    (let e : c.loop-run.run ≡ length c.args.sources.now.style.now.runs = search rules in e)

pub returns-clause-small : goal.returns-clause-small
returns-clause-small c = c.loop-run.invariant.small

pub push_run-requires : goal.push_run-requires
push_run-requires c = c.requires

pub returns-in_err-all-clause-value : goal.returns-in_err-all-clause-value
returns-in_err-all-clause-value c = IfOk-from_err c.from_residual.result _ c.from_residual.ensures.0

pub returns-in_err-all-clause-small : goal.returns-in_err-all-clause-small
returns-in_err-all-clause-small c = IfOk-from_err c.from_residual.result _ c.from_residual.ensures.0

pub returns-in_err-push_run-clause-value : goal.returns-in_err-push_run-clause-value
returns-in_err-push_run-clause-value c =
    IfOk-from_err c.from_residual-in_err-push_run.result _ c.from_residual-in_err-push_run.ensures.0

pub returns-in_err-push_run-clause-small : goal.returns-in_err-push_run-clause-small
returns-in_err-push_run-clause-small c =
    IfOk-from_err c.from_residual-in_err-push_run.result _ c.from_residual-in_err-push_run.ensures.0
