use Rattle.std.proofs.Common.{◌≡◌, ◌+◌, length}
use Rattle.pg_draw_page.specs.Spaces.{between_count}
use Rattle.pg_draw_page.proofs.spaces.space_len.Given as goal

abbrev pub invariant-marks : goal.invariant-marks
invariant-marks l = record {
  count : between_count l.marks ≡ l.count + between_count l.rest;
  bound : l.count + length l.rest ≡ length l.marks;
}

abbrev pub decreases-marks : goal.decreases-marks
decreases-marks l = length l.rest
