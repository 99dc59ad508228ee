use Rattle.std.proofs.Common.{◌≡◌, map, take, Bor}
use Rattle.pg_plan.specs.declared.pages.PageMove.{PageMove}
use Rattle.pg_plan.specs.declared.states.State.{State}
use Rattle.law_space.specs.SpaceLaws.{label_of}
use Rattle.pg_table.specs.declared.table.Entry.{Entry}
use Rattle.pg_space.proofs.listing.labels_of.Given as goal

abbrev pub invariant-loop-entry : goal.invariant-loop-entry
invariant-loop-entry l =
    l.labels ≡ map label_of (map (λ (it : Bor (Entry State PageMove)). it.now) (take l.entry-index l.ordered))
