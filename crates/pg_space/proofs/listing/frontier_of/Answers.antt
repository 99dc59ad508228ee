use Rattle.std.proofs.Common.{◌≡◌, ◌∙◌, ap, subst, sym, List, map, Bor}
use Rattle.std.specs.List.Sorted.{IsPermutation, IsSortedByKey}
use Rattle.std.specs.Ordering.{is_lt}
use Rattle.std.proofs.lemmas.List.Sorted.{IsPermutation-map}
use Rattle.std.proofs.lemmas.Result.{IfOk-weaker}
use Rattle.pg_plan.specs.declared.pages.PageMove.{PageMove}
use Rattle.pg_plan.specs.declared.states.Label.{Label}
use Rattle.pg_plan.specs.declared.states.State.{State}
use Rattle.pg_rules.specs.Frontier.{state_cmp}
use Rattle.law_space.specs.SpaceLaws.{label_of}
use Rattle.pg_table.specs.declared.table.Entry.{Entry}
use Rattle.pg_space.proofs.Listed.{map_sorted}
use Rattle.pg_space.proofs.listing.frontier_of.Goals as goal

pub returns-clause-all : goal.returns-clause-all
returns-clause-all c =
    let now = λ (it : Bor (Entry State PageMove)). it.now in
    IfOk-weaker c.labels_of.result
    (λ (labels : List Label). labels ≡ map label_of (map now c.as_slice.result.now))
    (λ (labels : List Label). IsPermutation (map label_of c.args.entries.now) labels)
    (λ labels are. subst (λ (them : List Label). IsPermutation (map label_of c.args.entries.now) them)
    (sym (are ∙ ap (λ (its : List (Bor (Entry State PageMove))). map label_of (map now its)) c.as_slice.ensures.value))
    (IsPermutation-map label_of c.args.entries.now (map now c.in_ok-ordered.ordered.items) c.in_ok-ordered.ensures.all))
    c.labels_of.ensures

pub returns-clause-order : goal.returns-clause-order
returns-clause-order c =
    let now = λ (it : Bor (Entry State PageMove)). it.now in
    let sorted = λ (labels : List Label). IsSortedByKey (λ (label : Label). label.state) state_cmp labels in
    IfOk-weaker c.labels_of.result
    (λ (labels : List Label). labels ≡ map label_of (map now c.as_slice.result.now)) sorted
    (λ labels are. subst sorted
    (sym (are ∙ ap (λ (its : List (Bor (Entry State PageMove))). map label_of (map now its)) c.as_slice.ensures.value))
    (map_sorted label_of (λ (a b : Label). is_lt (state_cmp a.state b.state)) (map now c.in_ok-ordered.ordered.items)
    c.in_ok-ordered.ensures.order))
    c.labels_of.ensures
