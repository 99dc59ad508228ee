use Rattle.std.proofs.Common.{◌≡◌, length}
use Rattle.pg_notes.specs.NotesValue.{first_over_limit}
use Rattle.pg_notes.proofs.sums.first_over_in.Given as goal

abbrev pub invariant-classes : goal.invariant-classes
invariant-classes l = first_over_limit l.rest l.left ≡ first_over_limit l.classes l.sums

abbrev pub decreases-classes : goal.decreases-classes
decreases-classes l = length l.rest
