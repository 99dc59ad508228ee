use Rattle.std.proofs.Common.{sym, subst, take, List, ℕ, arith}
use Rattle.std.proofs.lemmas.List.{take_all}
use Rattle.pg_lemmas.proofs.Lists.{one_more}
use Rattle.pg_rules.specs.Legal.{document}
use Rattle.pg_hops.specs.declared.state.State.{State}
use Rattle.pg_table.specs.declared.table.Entry.{Entry}
use Rattle.pg_walk.specs.Furthest.{IsFurthest}
use Rattle.pg_walk.proofs.Greatest.{label_more}
use Rattle.pg_walk.proofs.Labels.{contains_at}
use Rattle.pg_walk.proofs.labels_reach.reach_of_labels.Goals as goal

pub labels-preserved : goal.labels-preserved
labels-preserved c =
    let labels = c.args.labels.now in
    let entry = c.index-labels-index.result in
    record {
      within = omega (arith, c.labels-test.true);
      furthest = λ style top told.
          let doc = document c.args.galley.now style in
          subst (λ (xs : List (Entry State ℕ)). IsFurthest doc top xs c.args.least
          c.reach_of_label-greatest.result)
          (sym (one_more labels c.labels.index entry c.labels-test.true c.index-labels-index.is))
          (label_more doc top (take c.labels.index labels) entry c.args.least c.labels.greatest
          c.reach_of_label-greatest.result (c.labels.invariant.furthest style top told)
          (c.reach_of_label-greatest.ensures style top (told.told entry
          (contains_at labels c.labels.index entry c.labels-test.true c.index-labels-index.is))));
    }

pub returns : goal.returns
returns c = λ style top told.
    let labels = c.args.labels.now in
    subst (λ (xs : List (Entry State ℕ)). IsFurthest (document c.args.galley.now style) top xs c.args.least
    c.labels.greatest) (take_all c.labels.index labels (omega (arith, c.labels-test.false)))
    (c.labels.invariant.furthest style top told)
