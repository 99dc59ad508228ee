use Rattle.std.proofs.Common.{subst, List}
use Rattle.std.specs.Prelude.{reverse}
use Rattle.pg_plan.specs.declared.pages.Page.{Page}
use Rattle.pg_plan.specs.Order.{columns, columns_of}
use Rattle.pg_rules.specs.Legal.{document}
use Rattle.pg_judge.specs.Progress.{IsProgress}
use Rattle.pg_judge.proofs.whole.judge_columns.Goals as goal

pub judge_pages-requires-clause-start : goal.judge_pages-requires-clause-start
judge_pages-requires-clause-start c = c.start-progress.ensures.start c.args.galley.now

pub returns-in-Ok : goal.returns-in-Ok
returns-in-Ok c = c.settle.ensures (columns c.args.plan.now)
    (subst (λ (pages : List Page). IsProgress (document c.args.galley.now c.args.style.now) (columns_of (reverse pages))
    c.judge_pages.new.progress) c.as_slice.ensures c.in-Ok.ensures.progress)
