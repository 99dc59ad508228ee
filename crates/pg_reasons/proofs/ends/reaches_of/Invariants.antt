use Rattle.std.proofs.Common.{◌≤◌}
use Rattle.pg_reasons.proofs.ends.reaches_of.Given as goal

abbrev pub invariant-loop : goal.invariant-loop
invariant-loop l = record {
  sums : l.sums.count ≤ l.counter;
  notes : l.notes.count ≤ l.counter;
}
