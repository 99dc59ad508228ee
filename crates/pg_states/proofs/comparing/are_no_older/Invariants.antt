use Rattle.std.proofs.Common.{◌≡◌, length}
use Rattle.pg_rules.specs.NoWorse.{are_no_older}
use Rattle.pg_states.proofs.comparing.are_no_older.Given as goal

abbrev pub invariant-ages : goal.invariant-ages
invariant-ages l = are_no_older l.left l.right ≡ are_no_older l.a l.b

abbrev pub decreases-ages : goal.decreases-ages
decreases-ages l = length l.left
