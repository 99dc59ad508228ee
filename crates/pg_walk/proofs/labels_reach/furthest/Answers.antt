use Rattle.std.proofs.Common.{subst, sym, List, ℕ}
use Rattle.pg_hops.specs.declared.state.State.{State}
use Rattle.pg_table.specs.Label.{IsTable}
use Rattle.pg_table.specs.declared.table.Entry.{Entry}
use Rattle.pg_walk.specs.Meaning.{space_meaning}
use Rattle.pg_walk.proofs.Greatest.{goes_to}
use Rattle.pg_walk.specs.Contexts.{doc_of}
use Rattle.pg_walk.proofs.labels_reach.furthest.Goals as goal

pub returns : goal.returns
returns c =
    let doc = doc_of c.args.context.now in
    goes_to doc c.args.context.now.top c.args.start c.labels.result.now c.args.least c.reach_of_labels.result
    (subst (λ (es : List (Entry State ℕ)). IsTable (space_meaning doc c.args.context.now.top c.args.start) es) (sym c.labels.ensures)
    c.in_ok-table.ensures.table)
    (c.reach_of_labels.ensures c.args.context.now.style.now c.args.context.now.top)
