-- Where an end goes among others that are in order.
use Rattle.std.specs.Prelude.{Bool, true, false, if◌then◌else◌, Option, Some, None}
use Rattle.std.specs.Ordering.{nat_cmp, ordering_then}
use Rattle.std.specs.declared.cmp.Ordering.{Ordering}
use Rattle.std.specs.declared.cmp.Ordering.TheVariants.{Less, Equal, Greater}
use Rattle.pg_column.specs.declared.end.End.{End}
use Rattle.pg_plan.specs.Order.{place_cmp}
use Rattle.law_walk.specs.Best.{end_cmp, is_better}
use Rattle.pg_candidates.specs.declared.best.Spot.{Spot}
use Rattle.pg_candidates.specs.declared.best.Spot.TheVariants.{Before, Instead, Nowhere}
use Rattle.pg_candidates.specs.declared.room_end.RoomEnd.{RoomEnd}

abbrev pub is_less : Ordering → Bool
is_less Less = true
is_less Equal = false
is_less Greater = false

-- by place, and at one place by fitness
abbrev pub is_before : RoomEnd → RoomEnd → Bool
is_before a b = is_less (ordering_then (place_cmp a.to b.to) (nat_cmp a.cost.fitness b.cost.fitness))

-- at one place and fitness the better stays
abbrev pub spot_by : Ordering → Bool → Spot
spot_by Less better = Before
spot_by Equal better = if better then Instead else Nowhere
spot_by Greater better = Before

-- at the first end that is not before it, or behind all
abbrev pub spot_in : Option End → End → Spot
spot_in None end = Before
spot_in (Some other) end = spot_by (end_cmp end other) (is_better end other)
