use Rattle.std.proofs.Common.{◌≡◌, min, take, ◌^◌}
use Rattle.std.specs.Str.Parse.{digits_value}
use Rattle.pg_drawing.proofs.widths.capped_points.Given as goal

abbrev pub invariant-loop-d : goal.invariant-loop-d
invariant-loop-d l = l.points ≡ min (digits_value 10 (take l.d-index l.digits)) (2 ^ 104)
