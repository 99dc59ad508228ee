use Rattle.std.proofs.Common.{◌≡◌, ◌≤◌, ◌+◌, length}
use Rattle.std.specs.List.{flat_map}
use Rattle.pg_column.specs.Between.{behind}
use Rattle.pg_pages.specs.SetGlue.{own_width}
use Rattle.pg_pages.proofs.column.count_glue.Given as goal

abbrev pub invariant-items : goal.invariant-items
invariant-items l = record {
  same : l.count + length (flat_map own_width (behind l.rest)) ≡ length (flat_map own_width (behind l.items));
  few : l.count + length l.rest ≤ length l.items;
}

abbrev pub decreases-items : goal.decreases-items
decreases-items l = length l.rest
