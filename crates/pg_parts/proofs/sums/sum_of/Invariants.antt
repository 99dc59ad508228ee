use Rattle.std.proofs.Common.{◌≡◌, ◌+◌, ◌*◌, ◌^◌, ◌≤◌, length, ◌+ℤ◌}
use Rattle.std.specs.Prelude.{nat_abs}
use Rattle.pg_parts.specs.Priced.{amounts}
use Rattle.pg_parts.proofs.sums.sum_of.Given as goal

abbrev pub invariant-columns : goal.invariant-columns
invariant-columns l = record {
  sum : l.sum +ℤ amounts l.rest l.part ≡ amounts l.columns l.part;
  small : nat_abs l.sum + 2 ^ 64 * length l.rest ≤ 2 ^ 64 * length l.columns;
}

abbrev pub decreases-columns : goal.decreases-columns
decreases-columns l = length l.rest
