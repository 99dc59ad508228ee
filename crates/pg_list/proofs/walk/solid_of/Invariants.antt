use Rattle.std.proofs.Common.{◌≡◌, ◌≤◌, length}
use Rattle.pg_list.specs.Places.{solid}
use Rattle.pg_list.proofs.walk.solid_of.Given as goal

abbrev pub invariant-ends : goal.invariant-ends
invariant-ends l = record { same : solid l.blocks ≡ solid l.rest; within : length l.rest ≤ length l.blocks }

abbrev pub decreases-ends : goal.decreases-ends
decreases-ends l = length l.rest
