use Rattle.std.proofs.Common.{◌≡◌, length}
use Rattle.pg_column.specs.Between.{behind}
use Rattle.pg_rules.specs.Floats.{sizes_of}
use Rattle.pg_pages.proofs.areas.has_insert.Given as goal

abbrev pub invariant-items : goal.invariant-items
invariant-items l = length (sizes_of l.number (behind l.rest)) ≡ length (sizes_of l.number (behind l.items))

abbrev pub decreases-items : goal.decreases-items
decreases-items l = length l.rest
