use Rattle.std.proofs.Common.{◌≡◌, map, take, Bor}
use Rattle.pg_plan.specs.declared.pages.PageMove.{PageMove}
use Rattle.pg_plan.specs.declared.states.State.{State}
use Rattle.pg_table.specs.declared.table.Entry.{Entry}
use Rattle.pg_space.proofs.listing.in_order.Given as goal

abbrev pub invariant-loop-entry : goal.invariant-loop-entry
invariant-loop-entry l =
    map (λ (it : Bor (Entry State PageMove)). it.now) l.ordered.items ≡ take l.entry-index l.entries
