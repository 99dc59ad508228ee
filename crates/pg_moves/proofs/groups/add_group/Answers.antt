use Rattle.std.proofs.Common.{◌≤◌, ◌^◌, ◌∙◌, ap, subst, Option, IfSome}
use Rattle.std.proofs.lemmas.Result.{on_ok_weaker}
use Rattle.pg_sources.specs.declared.calls.Before.{Before}
use Rattle.pg_moves.specs.Columns.{doc_at}
use Rattle.pg_states.specs.declared.settling.Settled.{Settled}
use Rattle.pg_moves.proofs.AllSteps.{at_err}
use Rattle.pg_moves.proofs.Stepped.{group_closed, group_old, group_open}
use Rattle.pg_moves.proofs.groups.add_group.Goals as goal

pub returns-then-not-may_end : goal.returns-then-not-may_end
returns-then-not-may_end g c =
    let column = c.args.column.now in
    group_closed (doc_at column) column.state.now column.laid.now
    c.requires.laid (g.W.Wants.spares c.args.wants.now) column.near.now.picks
    c.args.before.now c.args.ends.now c.as_slice.result.now c.args.steps.now c.may_end.result
    c.as_slice.ensures c.if-not-may_end.true (λ to e. c.may_end.ensures column.state.now to c.requires.known e)

pub returns-in-None : goal.returns-in-None
returns-in-None g c =
    let column = c.args.column.now in
    group_old (doc_at column) column.state.now column.laid.now
    c.requires.laid (g.W.Wants.spares c.args.wants.now) column.near.now.picks
    c.args.before.now c.args.ends.now c.args.steps.now c.in_ok-settle.field-0 c.in-None.is
    (λ to e. c.in_ok-settle.ensures.settles to (c.as_slice-2.ensures ∙ ap (λ (it : Before). it.called) e))

pub returns-in-Some : goal.returns-in-Some
returns-in-Some g c =
    let column = c.args.column.now in
    on_ok_weaker c.add_ends.result (λ step all. step (group_open (doc_at column)
    column.state.now column.laid.now c.requires.laid (g.W.Wants.spares c.args.wants.now)
    column.near.now.picks c.args.before.now c.args.ends.now c.as_slice.result.now
    c.may_end.result c.in_ok-settle.field-0 c.in-Some.settled c.as_slice.ensures c.if-not-may_end.false
    (λ to e. c.may_end.ensures column.state.now to c.requires.known e) c.in-Some.is
    (λ to e. c.in_ok-settle.ensures.settles to (c.as_slice-2.ensures ∙ ap (λ (it : Before). it.called) e)) all)) c.add_ends.ensures

pub settle-requires : goal.settle-requires
settle-requires g c = c.requires.known

pub add_ends-requires-clause-own : goal.add_ends-requires-clause-own
add_ends-requires-clause-own g c = c.requires.own

pub add_ends-requires-clause-laid : goal.add_ends-requires-clause-laid
add_ends-requires-clause-laid g c = c.requires.laid

pub add_ends-requires-clause-price : goal.add_ends-requires-clause-price
add_ends-requires-clause-price g c = subst (λ (it : Option Settled). IfSome it (λ settled. settled.price ≤ 2 ^ 51))
    c.in-Some.is c.in_ok-settle.ensures.small

pub returns-in_err-settle : goal.returns-in_err-settle
returns-in_err-settle g c = at_err _ c.from_residual.result c.from_residual.ensures.0
