use Rattle.std.proofs.Common.{subst, List, ℕ, OnOk}
use Rattle.pg_hops.specs.declared.state.State.{State}
use Rattle.pg_table.specs.declared.table.Entry.{Entry}
use Rattle.pg_walk.specs.Collected.{HasEnds}
use Rattle.pg_walk.proofs.Labels.{collected}
use Rattle.pg_walk.specs.Contexts.{doc_of}
use Rattle.pg_walk.proofs.table.collect.Goals as goal

pub returns : goal.returns
returns c =
    let doc = doc_of c.args.context.now in
    let top = c.args.context.now.top in
    collected c.add_labels.result doc top c.args.start c.in_ok-table.table c.args.found.now c.add_labels.new.found
    c.in_ok-table.ensures.table
    (subst (λ (es : List (Entry State ℕ)). OnOk c.add_labels.result (HasEnds doc top es es c.args.found.now
    c.add_labels.new.found)) c.labels.ensures c.add_labels.ensures)
