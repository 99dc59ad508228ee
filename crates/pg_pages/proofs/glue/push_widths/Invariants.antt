use Rattle.std.proofs.Common.{◌≡◌, ◌++◌, length}
use Rattle.std.specs.List.{flat_map}
use Rattle.pg_pages.specs.SetGlue.{own_width}
use Rattle.pg_column.specs.Between.{behind}
use Rattle.pg_pages.proofs.glue.push_widths.Given as goal

abbrev pub invariant-items : goal.invariant-items
invariant-items l = l.widths.items ++ flat_map own_width (behind l.rest)
    ≡ l.initial.widths.items ++ flat_map own_width (behind l.items)

abbrev pub decreases-items : goal.decreases-items
decreases-items l = length l.rest
