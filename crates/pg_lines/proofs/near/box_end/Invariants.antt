use Rattle.std.proofs.Common.{◌≡◌, ◌≤◌, length}
use Rattle.pg_lines.specs.Near.{box_end}
use Rattle.pg_lines.proofs.near.box_end.Given as goal

abbrev pub invariant-ends : goal.invariant-ends
invariant-ends l = record { same : box_end l.items ≡ box_end l.rest; within : length l.rest ≤ length l.items }

abbrev pub decreases-ends : goal.decreases-ends
decreases-ends l = length l.rest
