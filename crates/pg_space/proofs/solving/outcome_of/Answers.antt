use Rattle.std.proofs.Common.{sym, subst, List}
use Rattle.pg_sources.specs.Document.{doc_of}
use Rattle.pg_plan.specs.declared.pages.PageMove.{PageMove}
use Rattle.pg_plan.specs.declared.states.State.{State}
use Rattle.law_space.specs.PageSpace.{page_meaning}
use Rattle.pg_table.specs.Label.{IsBestOf, IsTable}
use Rattle.pg_table.specs.declared.table.Entry.{Entry}
use Rattle.pg_space.proofs.solving.outcome_of.Goals as goal

pub returns-in-None : goal.returns-in-None
returns-in-None c = (c.table_tells_all.ensures c.args.table.now c.requires).none c.in-None.ensures.none

pub best_at-requires-clause-table : goal.best_at-requires-clause-table
best_at-requires-clause-table c =
    subst (λ (es : List (Entry State PageMove)). IsTable (page_meaning (doc_of c.args.space.now.sources)) es)
    (sym c.labels.ensures) c.requires

pub best_at-requires-clause-best : goal.best_at-requires-clause-best
best_at-requires-clause-best c =
    subst (λ (es : List (Entry State PageMove)). IsBestOf (page_meaning (doc_of c.args.space.now.sources)) es es
    c.in-Some.index) (sym c.labels.ensures) c.in-Some.ensures.some
