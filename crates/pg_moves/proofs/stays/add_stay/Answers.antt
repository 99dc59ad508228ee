use Rattle.std.proofs.Common.{◌∙◌, ap, sym}
use Rattle.pg_sources.specs.Document.{doc_of}
use Rattle.pg_states.specs.declared.settling.Known.{Known}
use Rattle.pg_moves.proofs.AllSteps.{at_err}
use Rattle.pg_moves.proofs.Standing.{not_standing}
use Rattle.pg_moves.proofs.stays.add_stay.Goals as goal

pub returns-then-not-can_stand : goal.returns-then-not-can_stand
returns-then-not-can_stand c = not_standing (doc_of c.args.sources.now) c.args.state.now c.args.laid.now
    c.requires.laid.is c.args.steps.now
    (sym (c.can_stand.ensures c.args.state.now c.requires.laid) ∙ c.if-not-can_stand.true)

pub add_standing-requires-clause-stands : goal.add_standing-requires-clause-stands
add_standing-requires-clause-stands c =
    sym (c.can_stand.ensures c.args.state.now c.requires.laid) ∙ c.if-not-can_stand.false

pub can_stand-requires-clause-size : goal.can_stand-requires-clause-size
can_stand-requires-clause-size c = c.requires.laid.small

pub can_stand-requires-clause-long : goal.can_stand-requires-clause-long
can_stand-requires-clause-long c = c.requires.laid.long

pub settle-requires : goal.settle-requires
settle-requires c = c.requires.known

pub add_standing-requires-clause-own : goal.add_standing-requires-clause-own
add_standing-requires-clause-own c = c.requires.own

pub add_standing-requires-clause-laid : goal.add_standing-requires-clause-laid
add_standing-requires-clause-laid c = c.requires.laid.is

pub add_standing-requires-clause-settled : goal.add_standing-requires-clause-settled
add_standing-requires-clause-settled c = c.in_ok-settled.ensures.settles c.args.state.now.place
    (c.as_slice.ensures ∙ ap (λ (it : Known). it.called) c.requires.known)

pub returns-in_err-settled : goal.returns-in_err-settled
returns-in_err-settled c = at_err _ c.from_residual.result c.from_residual.ensures.0
