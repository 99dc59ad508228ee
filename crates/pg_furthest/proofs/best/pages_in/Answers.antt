use Rattle.std.proofs.Common.{List, subst, sym}
use Rattle.pg_plan.specs.declared.pages.PageMove.{PageMove}
use Rattle.pg_plan.specs.declared.states.State.{State}
use Rattle.pg_rules.specs.Legal.{document}
use Rattle.law_space.specs.PageSpace.{page_meaning}
use Rattle.pg_table.specs.Label.{IsTable}
use Rattle.pg_table.specs.declared.table.Entry.{Entry}
use Rattle.pg_furthest.specs.Pages.{IsBestLabel}
use Rattle.pg_furthest.proofs.best.pages_in.Goals as goal

pub pages_at-requires-clause-filled : goal.pages_at-requires-clause-filled
pages_at-requires-clause-filled c =
    subst (λ (labels : List (Entry State PageMove)).
    IsTable (page_meaning (document c.args.galley.now c.args.style.now)) labels) (sym c.labels.ensures) c.requires.filled

pub pages_at-requires-clause-best : goal.pages_at-requires-clause-best
pages_at-requires-clause-best c =
    subst (λ (labels : List (Entry State PageMove)).
    IsBestLabel c.args.galley.now c.args.style.now labels c.in-Some.at) (sym c.labels.ensures) c.in-Some.ensures
