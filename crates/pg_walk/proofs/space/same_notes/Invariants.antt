use Rattle.std.proofs.Common.{◌≡◌, length}
use Rattle.law_walk.specs.Space.{same_notes}
use Rattle.pg_walk.proofs.space.same_notes.Given as goal

abbrev pub invariant-classes : goal.invariant-classes
invariant-classes l = same_notes l.left l.right ≡ same_notes l.a l.b

abbrev pub decreases-classes : goal.decreases-classes
decreases-classes l = length l.left
