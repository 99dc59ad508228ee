use Rattle.std.proofs.Common.{◌≡◌, length}
use Rattle.pg_alone.specs.Notes.{first_high}
use Rattle.pg_alone.proofs.notes.first_high.Given as goal

abbrev pub invariant-items : goal.invariant-items
invariant-items l = first_high l.style l.rest ≡ first_high l.style l.initial.rest

abbrev pub decreases-items : goal.decreases-items
decreases-items l = length l.rest
