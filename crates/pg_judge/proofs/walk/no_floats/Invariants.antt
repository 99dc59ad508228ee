use Rattle.std.proofs.Common.{◌≡◌, take}
use Rattle.pg_plan.specs.Order.{no_floats}
use Rattle.pg_judge.proofs.walk.no_floats.Given as goal

abbrev pub invariant-loop-count : goal.invariant-loop-count
invariant-loop-count l = l.zeros ≡ no_floats (take l.count-index l.counts)
