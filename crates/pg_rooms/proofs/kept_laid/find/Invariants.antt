use Rattle.std.proofs.Common.{◌≤◌, length}
use Rattle.pg_rooms.proofs.kept_laid.find.Given as goal

abbrev pub invariant-kept : goal.invariant-kept
invariant-kept l = l.at ≤ length l.kept

abbrev pub decreases-kept : goal.decreases-kept
decreases-kept l = l.at
