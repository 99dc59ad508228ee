use Rattle.pg_changes.specs.Changes.{AllHelp}
use Rattle.pg_changes.proofs.tries.push_classes.Given as goal

abbrev pub invariant-classes : goal.invariant-classes
invariant-classes g l = AllHelp l.trial.galley.now l.trial.style.now l.changes.items
