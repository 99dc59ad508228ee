use Rattle.std.proofs.Common.{◌≤◌, length}
use Rattle.pg_hops.proofs.index.behind_inserts.Given as goal

abbrev pub invariant-items : goal.invariant-items
invariant-items l = length l.rest ≤ length l.items

abbrev pub decreases-items : goal.decreases-items
decreases-items l = length l.rest
