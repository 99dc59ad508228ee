use Rattle.std.proofs.Common.{arith, sym, subst, ◌≡◌, List, length, take}
use Rattle.std.specs.Prelude.{reverse}
use Rattle.std.proofs.lemmas.Result.{IfOk-from_err}
use Rattle.pg_plan.specs.declared.pages.Page.{Page}
use Rattle.pg_plan.specs.Order.{columns_of}
use Rattle.pg_judge.specs.Bases.{doc_of}
use Rattle.pg_judge.specs.Progress.{IsProgress}
use Rattle.pg_judge.proofs.PageCounts.{columns_within, next_page_is}
use Rattle.pg_judge.proofs.Walks.{take_whole}
use Rattle.pg_judge.proofs.walk.judge_pages.Goals as goal

pub judge_page-requires-clause-number : goal.judge_page-requires-clause-number
judge_page-requires-clause-number c =
    let within = columns_within c.args.pages.now c.loop-page.page-index c.page-item.result c.loop-page-test.true
    (sym c.page-item.is) in
    let n = c.loop-page.invariant.progress.number in
    omega (arith, within, n, c.requires.number)

pub loop-page-init : goal.loop-page-init
loop-page-init c = record { kept = c.requires.kept; progress = c.requires.start }

pub judge_page-requires-clause-list : goal.judge_page-requires-clause-list
judge_page-requires-clause-list c = c.requires.list

pub judge_page-requires-clause-kept : goal.judge_page-requires-clause-kept
judge_page-requires-clause-kept c = c.loop-page.invariant.kept

pub returns-in_err-judge_page-clause-kept : goal.returns-in_err-judge_page-clause-kept
returns-in_err-judge_page-clause-kept c = IfOk-from_err c.from_residual.result _ c.from_residual.ensures.0

pub returns-in_err-judge_page-clause-progress : goal.returns-in_err-judge_page-clause-progress
returns-in_err-judge_page-clause-progress c = IfOk-from_err c.from_residual.result _ c.from_residual.ensures.0

pub loop-page-smaller : goal.loop-page-smaller
loop-page-smaller c = omega (arith, c.loop-page-test.true)

pub loop-page-preserved : goal.loop-page-preserved
loop-page-preserved c = record {
  kept = c.in_ok-judge_page.ensures.kept;
  progress = subst (λ (xs : List Page). IsProgress (doc_of c.args.basis.now) (columns_of xs) c.judge_page.new.progress)
      (sym (next_page_is c.args.pages.now c.loop-page.page-index c.page-item.result c.loop-page-test.true
      (sym c.page-item.is)))
      (c.in_ok-judge_page.ensures.next (columns_of (reverse (take c.loop-page.page-index c.args.pages.now)))
      c.loop-page.invariant.progress);
}

pub returns-clause-kept : goal.returns-clause-kept
returns-clause-kept c = c.loop-page.invariant.kept

pub returns-clause-progress : goal.returns-clause-progress
returns-clause-progress c =
    let all : c.loop-page.page-index ≡ length c.args.pages.now =
    omega (arith, c.loop-page-test.false, c.loop-page.auto.page-index-end) in
    subst (λ (xs : List Page). IsProgress (doc_of c.args.basis.now) (columns_of (reverse xs)) c.loop-page.progress)
    (take_whole c.args.pages.now c.loop-page.page-index all) c.loop-page.invariant.progress
