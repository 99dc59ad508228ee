use Rattle.std.proofs.Common.{◌≤◌, true}
use Rattle.pg_changes.specs.Changes.{NoneLegal, TellsValue}
use Rattle.pg_changes.specs.Numbers.{with_number}
use Rattle.pg_changes.proofs.trying.halve.Given as goal

abbrev pub invariant-halves : goal.invariant-halves
invariant-halves g l = (l.bad ≤ 1073741823) × (l.good ≤ 1073741823)
    × NoneLegal l.trial.galley.now (with_number l.trial.style.now l.number l.bad)
    × TellsValue l.trial.galley.now l.trial.style.now l.number l.good true

abbrev pub decreases-halves : goal.decreases-halves
decreases-halves g l = l.left
