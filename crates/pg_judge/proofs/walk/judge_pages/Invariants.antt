use Rattle.std.proofs.Common.{take}
use Rattle.std.specs.Prelude.{reverse}
use Rattle.pg_plan.specs.Order.{columns_of}
use Rattle.pg_judge.specs.Bases.{doc_of}
use Rattle.pg_judge.specs.Progress.{IsKept, IsProgress}
use Rattle.pg_judge.proofs.walk.judge_pages.Given as goal

abbrev pub invariant-loop-page : goal.invariant-loop-page
invariant-loop-page l = record {
  kept : IsKept l.basis.style.now l.progress;
  progress : IsProgress (doc_of l.basis) (columns_of (reverse (take l.page-index l.pages))) l.progress;
}
