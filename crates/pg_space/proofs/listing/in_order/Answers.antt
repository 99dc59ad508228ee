use Rattle.std.proofs.Common.{rules, ◌≡◌, ◌∙◌, subst, List, map, Bor, arith}
use Rattle.std.specs.List.Sorted.{IsPermutation}
use Rattle.std.proofs.lemmas.List.{take_all}
use Rattle.std.proofs.lemmas.List.Sorted.{IsPermutation-map}
use Rattle.std.proofs.lemmas.Result.{IfOk-from_err}
use Rattle.law_columns.proofs.StateOrder.{states_total}
use Rattle.pg_plan.specs.declared.pages.PageMove.{PageMove}
use Rattle.pg_plan.specs.declared.states.State.{State}
use Rattle.pg_rules.specs.Frontier.{state_cmp}
use Rattle.pg_table.specs.declared.table.Entry.{Entry}
use Rattle.pg_space.proofs.Listed.{sorted_now}
use Rattle.pg_space.proofs.listing.in_order.Goals as goal

pub returns-in_err-ordered-clause-all : goal.returns-in_err-ordered-clause-all
returns-in_err-ordered-clause-all c =
    IfOk-from_err c.from_residual.result _ c.from_residual.ensures.0

pub returns-in_err-ordered-clause-order : goal.returns-in_err-ordered-clause-order
returns-in_err-ordered-clause-order c =
    IfOk-from_err c.from_residual.result _ c.from_residual.ensures.0

pub returns-in_err-push-clause-all : goal.returns-in_err-push-clause-all
returns-in_err-push-clause-all c =
    IfOk-from_err c.from_residual-in_err-push.result _ c.from_residual-in_err-push.ensures.0

pub returns-in_err-push-clause-order : goal.returns-in_err-push-clause-order
returns-in_err-push-clause-order c =
    IfOk-from_err c.from_residual-in_err-push.result _ c.from_residual-in_err-push.ensures.0

pub returns-in_err-sort_by-clause-all : goal.returns-in_err-sort_by-clause-all
returns-in_err-sort_by-clause-all c =
    IfOk-from_err c.from_residual-in_err-sort_by.result _ c.from_residual-in_err-sort_by.ensures.0

pub returns-in_err-sort_by-clause-order : goal.returns-in_err-sort_by-clause-order
returns-in_err-sort_by-clause-order c =
    IfOk-from_err c.from_residual-in_err-sort_by.result _ c.from_residual-in_err-sort_by.ensures.0

pub returns-clause-all : goal.returns-clause-all
returns-clause-all c =
    let now = λ (it : Bor (Entry State PageMove)). it.now in
    let them : map now c.loop-entry.ordered.items ≡ c.args.entries.now = c.loop-entry.invariant
    ∙ take_all c.loop-entry.entry-index c.args.entries.now (omega (arith, c.loop-entry-test.false)) in
    subst (λ (es : List (Entry State PageMove)). IsPermutation es (map now c.sort_by.new.self.items)) them
    (IsPermutation-map now c.loop-entry.ordered.items c.sort_by.new.self.items c.in_ok-sort_by.ensures.permutation)

pub returns-clause-order : goal.returns-clause-order
returns-clause-order c = sorted_now (λ (e : Entry State PageMove). e.state) state_cmp states_total
    c.sort_by.new.self.items c.in_ok-sort_by.ensures.sorted (λ a r q k. search rules)
