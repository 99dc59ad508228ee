use Rattle.std.proofs.Common.{◌≡◌, ◌+◌, ◌*◌, ◌≤◌, ◌^◌, length, ◌+ℤ◌}
use Rattle.std.specs.Prelude.{nat_abs}
use Rattle.pg_list.specs.Totals.{stretch}
use Rattle.pg_column.specs.Between.{behind}
use Rattle.pg_pages.proofs.glue.has_order.Given as goal

abbrev pub invariant-items : goal.invariant-items
invariant-items l = record {
  sum : l.sum +ℤ stretch l.order (behind l.rest) ≡ stretch l.order (behind l.items);
  few : nat_abs l.sum + 2 ^ 31 * length l.rest ≤ 2 ^ 52;
}

abbrev pub decreases-items : goal.decreases-items
decreases-items l = length l.rest
