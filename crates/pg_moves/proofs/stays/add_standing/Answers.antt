use Rattle.std.proofs.Common.{subst}
use Rattle.pg_sources.specs.Document.{doc_of}
use Rattle.pg_states.specs.Settling.{Settles}
use Rattle.pg_moves.proofs.AllSteps.{at_err}
use Rattle.pg_moves.proofs.Standing.{not_stayed, stayed}
use Rattle.pg_moves.proofs.stays.add_standing.Goals as goal

pub returns-in-None : goal.returns-in-None
returns-in-None c = not_stayed (doc_of c.args.sources.now) c.args.state.now c.args.laid.now c.requires.laid
    c.args.steps.now c.requires.stands
    (subst (Settles (doc_of c.args.sources.now) c.args.state.now c.args.state.now.place c.args.laid.now.after) c.in-None.is
    c.requires.settled)

pub returns-in_ok-push-in-Some : goal.returns-in_ok-push-in-Some
returns-in_ok-push-in-Some c = stayed (doc_of c.args.sources.now) c.args.state.now c.args.laid.now c.requires.laid
    c.args.steps.now c.push.new.self c.in_ok-step_of-in-Some.field-0 c.requires.stands
    (subst (Settles (doc_of c.args.sources.now) c.args.state.now c.args.state.now.place c.args.laid.now.after) c.in-Some.is
    c.requires.settled).0 c.in_ok-step_of-in-Some.ensures c.in_ok-push-in-Some.ensures.ok

pub step_of-requires-clause-own : goal.step_of-requires-clause-own
step_of-requires-clause-own c = c.requires.own

pub step_of-requires-clause-laid : goal.step_of-requires-clause-laid
step_of-requires-clause-laid c = c.requires.laid

pub step_of-requires-clause-settled : goal.step_of-requires-clause-settled
step_of-requires-clause-settled c =
    subst (Settles (doc_of c.args.sources.now) c.args.state.now c.args.state.now.place c.args.laid.now.after) c.in-Some.is
    c.requires.settled

pub returns-in_err-step_of-in-Some : goal.returns-in_err-step_of-in-Some
returns-in_err-step_of-in-Some c = at_err _ c.from_residual.result c.from_residual.ensures.0

pub returns-in_err-push-in-Some : goal.returns-in_err-push-in-Some
returns-in_err-push-in-Some c = at_err _ c.from_residual-in_err-push-in-Some.result
    c.from_residual-in_err-push-in-Some.ensures.0
