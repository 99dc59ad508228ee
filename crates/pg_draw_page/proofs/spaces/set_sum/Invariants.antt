use Rattle.std.proofs.Common.{◌≡◌, ◌≤◌, ◌+◌, ◌*◌, ◌^◌, length, nat_abs}
use Rattle.std.specs.Prelude.{◌+ℤ◌}
use Rattle.pg_draw_page.specs.Spaces.{set_sum}
use Rattle.pg_draw_page.proofs.spaces.set_sum.Given as goal

abbrev pub invariant-marks : goal.invariant-marks
invariant-marks l = record {
  sum : l.sum.all +ℤ set_sum l.rest ≡ set_sum l.marks;
  room : nat_abs l.sum.all + 2 ^ 63 * length l.rest ≤ 2 ^ 126;
}

abbrev pub decreases-marks : goal.decreases-marks
decreases-marks l = length l.rest
