use Rattle.std.proofs.Common.{◌≡◌, ◌≤◌, ◌+◌, ◌*◌, ◌^◌, length, nat_abs, pos}
use Rattle.pg_drawing.specs.Totals.{hanging, with_items}
use Rattle.pg_drawing.proofs.totals.sum_of.Given as goal

abbrev pub invariant-marks : goal.invariant-marks
invariant-marks l = record {
  height : with_items l.sum.height l.rest ≡ with_items (pos 0) l.marks;
  depth : hanging l.sum.depth l.rest ≡ hanging (pos 0) l.marks;
  room : nat_abs l.sum.height + 2 ^ 63 * length l.rest ≤ 2 ^ 126;
}

abbrev pub decreases-marks : goal.decreases-marks
decreases-marks l = length l.rest
