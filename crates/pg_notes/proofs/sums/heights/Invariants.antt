use Rattle.std.proofs.Common.{◌≡◌, ◌+◌, length}
use Rattle.pg_notes.specs.NotesValue.{heights}
use Rattle.pg_notes.proofs.sums.heights.Given as goal

abbrev pub invariant-classes : goal.invariant-classes
invariant-classes l = l.height + heights l.rest l.left ≡ heights l.classes l.sums

abbrev pub decreases-classes : goal.decreases-classes
decreases-classes l = length l.rest
