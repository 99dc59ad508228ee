use Rattle.std.proofs.Common.{arith}
use Rattle.pg_walk.proofs.Labels.{contains_at, got_at, next_label}
use Rattle.pg_walk.specs.Contexts.{doc_of}
use Rattle.pg_walk.proofs.table.add_labels.Goals as goal

pub add_label-requires-clause-own : goal.add_label-requires-clause-own
add_label-requires-clause-own c =
    let entry = c.index-labels-at.result in
    c.requires.small.own entry
    (contains_at c.args.labels.now c.labels.at entry c.labels-test.true c.index-labels-at.is)

pub labels-preserved : goal.labels-preserved
labels-preserved c =
    let labels = c.args.labels.now in
    let entry = c.index-labels-at.result in
    record {
      within = omega (arith, c.labels-test.true);
      ends = next_label (doc_of c.args.context.now) c.args.context.now.top labels
          c.labels.at entry c.in_ok-picks.picks c.args.found.now c.labels.found c.add_label.new.found
          c.labels-test.true c.index-labels-at.is c.labels.invariant.ends
          (c.in_ok-picks.ensures entry (got_at labels c.labels.at entry c.labels-test.true c.index-labels-at.is))
          c.in_ok-add_label.ensures;
    }

pub labels-preserved-in_ok-add_label : goal.labels-preserved-in_ok-add_label
labels-preserved-in_ok-add_label c =
    let labels = c.args.labels.now in
    let entry = c.index-labels-at.result in
    record {
      within = omega (arith, c.labels-test.true);
      ends = next_label (doc_of c.args.context.now) c.args.context.now.top labels
          c.labels.at entry c.in_ok-picks.picks c.args.found.now c.labels.found c.add_label.new.found
          c.labels-test.true c.index-labels-at.is c.labels.invariant.ends
          (c.in_ok-picks.ensures entry (got_at labels c.labels.at entry c.labels-test.true c.index-labels-at.is))
          c.in_ok-add_label.ensures;
    }
