use Rattle.std.proofs.Common.{◌≡◌, take}
use Rattle.pg_small.proofs.labels.small_labels.Given as goal

-- what is made so far is what was passed
abbrev pub invariant-loop-label : goal.invariant-loop-label
invariant-loop-label l = l.made.items ≡ take l.label-index l.labels
