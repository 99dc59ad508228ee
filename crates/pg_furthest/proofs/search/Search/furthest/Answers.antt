use Rattle.std.proofs.Common.{subst, List}
use Rattle.pg_plan.specs.declared.pages.PageMove.{PageMove}
use Rattle.pg_plan.specs.declared.states.State.{State}
use Rattle.pg_table.specs.declared.table.Entry.{Entry}
use Rattle.pg_furthest.specs.Furthest.{StandsFurthest}
use Rattle.pg_furthest.specs.Searches.{SearchValue}
use Rattle.pg_furthest.proofs.search.Search.furthest.Goals as goal

pub returns-clause-furthest : goal.returns-clause-furthest
returns-clause-furthest c =
    subst (λ (x : SearchValue). StandsFurthest x.galley x.style x.labels c.furthest_in.result) c.self.view_is
    (subst (λ (labels : List (Entry State PageMove)).
    StandsFurthest c.self.inside.galley c.self.inside.style labels c.furthest_in.result) c.labels.ensures
    c.furthest_in.ensures.furthest)
