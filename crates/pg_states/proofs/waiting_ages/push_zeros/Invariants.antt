use Rattle.std.proofs.Common.{◌≡◌, ◌++◌}
use Rattle.std.specs.Prelude.{replicate}
use Rattle.pg_states.specs.Lines.{are_young, later}
use Rattle.pg_states.proofs.waiting_ages.push_zeros.Given as goal

abbrev pub invariant-zeros : goal.invariant-zeros
invariant-zeros l = (are_young l.limit l.pages (replicate l.zeros 0)
    ≡ are_young l.limit l.pages (replicate l.count 0))
    × (l.left ++ later l.pages (replicate l.zeros 0) ≡ l.initial.left ++ later l.pages (replicate l.count 0))

abbrev pub decreases-zeros : goal.decreases-zeros
decreases-zeros l = l.zeros
