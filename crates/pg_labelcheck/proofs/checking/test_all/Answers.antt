use Rattle.std.proofs.Common.{ap, length}
use Rattle.pg_labelcheck.proofs.checking.test_all.Goals as goal

pub returns-clause-checked : goal.returns-clause-checked
returns-clause-checked g c = record {
  passes = c.in_ok-test_labels.ensures.tested;
  cost = c.shown_cost.ensures;
  labels = ap length c.as_slice.ensures;
}
