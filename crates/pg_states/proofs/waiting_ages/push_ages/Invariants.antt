use Rattle.std.proofs.Common.{◌≡◌, ◌++◌, length}
use Rattle.pg_states.specs.Lines.{are_young, later}
use Rattle.pg_states.proofs.waiting_ages.push_ages.Given as goal

abbrev pub invariant-ages : goal.invariant-ages
invariant-ages l = (are_young l.limit l.pages l.rest ≡ are_young l.limit l.pages l.ages)
    × (l.left ++ later l.pages l.rest ≡ l.initial.left ++ later l.pages l.ages)

abbrev pub decreases-ages : goal.decreases-ages
decreases-ages l = length l.rest
