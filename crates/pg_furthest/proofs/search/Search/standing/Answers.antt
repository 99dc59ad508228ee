use Rattle.std.proofs.Common.{subst, List}
use Rattle.pg_plan.specs.declared.pages.PageMove.{PageMove}
use Rattle.pg_plan.specs.declared.states.State.{State}
use Rattle.pg_table.specs.declared.table.Entry.{Entry}
use Rattle.pg_furthest.proofs.Stands.{IsRead, stands_at}
use Rattle.pg_furthest.proofs.search.Search.standing.Goals as goal

pub returns : goal.returns
returns c = stands_at c.args.self.now.galley c.args.self.now.style c.args.self.now.labels c.furthest-label.result
    c.in_ok-plan.plan c.place_at.result c.column_at-column.result c.page_of.result c.furthest-label.ensures.within
    c.furthest-label.ensures.furthest c.in_ok-plan.ensures
    (subst (λ (labels : List (Entry State PageMove)).
    IsRead labels c.furthest-label.result (λ (u : State). u.place) c.place_at.result) c.labels-2.ensures
    c.place_at.ensures)
    (subst (λ (labels : List (Entry State PageMove)).
    IsRead labels c.furthest-label.result (λ (u : State). u.column) c.column_at-column.result) c.labels.ensures
    c.column_at-column.ensures) c.page_of.ensures
