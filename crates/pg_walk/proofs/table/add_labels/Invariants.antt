use Rattle.std.proofs.Common.{take, length, ◌≤◌, ◌-◌}
use Rattle.pg_walk.specs.Collected.{HasEnds}
use Rattle.pg_walk.specs.Contexts.{doc_of}
use Rattle.pg_walk.proofs.table.add_labels.Given as goal

abbrev pub invariant-labels : goal.invariant-labels
invariant-labels l = record {
  within : l.at ≤ length l.labels;
  ends : HasEnds (doc_of l.context) l.context.top l.labels (take l.at l.labels) l.initial.found l.found;
}

abbrev pub decreases-labels : goal.decreases-labels
decreases-labels l = length l.labels - l.at
