use Rattle.std.proofs.Common.{◌≤◌, ◌-◌, length}
use Rattle.pg_space.proofs.fronts.Fronts.take.Given as goal

abbrev pub invariant-fronts : goal.invariant-fronts
invariant-fronts g l = l.at ≤ length l.self.ends.items

abbrev pub decreases-fronts : goal.decreases-fronts
decreases-fronts g l = length l.self.ends.items - l.at
