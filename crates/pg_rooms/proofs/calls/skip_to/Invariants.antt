use Rattle.std.proofs.Common.{◌≤◌, ◌-◌, length}
use Rattle.pg_rooms.proofs.calls.skip_to.Given as goal

abbrev pub invariant-calls : goal.invariant-calls
invariant-calls l = record {
  within : l.at ≤ length l.calls;
}

abbrev pub decreases-calls : goal.decreases-calls
decreases-calls l = length l.calls - l.at
