use Rattle.std.proofs.Common.{◌≡◌, ◌≤◌, ◌+◌, ◌*◌, ◌^◌, length, nat_abs}
use Rattle.std.specs.Prelude.{◌+ℤ◌}
use Rattle.pg_draw_page.specs.Spaces.{own_sum}
use Rattle.pg_draw_page.proofs.spaces.own_sum.Given as goal

abbrev pub invariant-marks : goal.invariant-marks
invariant-marks l = record {
  sum : l.sum.all +ℤ own_sum l.rest ≡ own_sum l.marks;
  room : nat_abs l.sum.all + 2 ^ 63 * length l.rest ≤ 2 ^ 126;
}

abbrev pub decreases-marks : goal.decreases-marks
decreases-marks l = length l.rest
