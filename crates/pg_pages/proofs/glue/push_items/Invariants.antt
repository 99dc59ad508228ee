use Rattle.std.proofs.Common.{◌≡◌, ◌++◌, length}
use Rattle.std.specs.List.{flat_map}
use Rattle.pg_pages.specs.SetGlue.{elastic}
use Rattle.pg_column.specs.Between.{behind}
use Rattle.pg_pages.proofs.glue.push_items.Given as goal

abbrev pub invariant-items : goal.invariant-items
invariant-items l = l.list.items ++ flat_map (elastic l.sense) (behind l.rest)
    ≡ l.initial.list.items ++ flat_map (elastic l.sense) (behind l.items)

abbrev pub decreases-items : goal.decreases-items
decreases-items l = length l.rest
