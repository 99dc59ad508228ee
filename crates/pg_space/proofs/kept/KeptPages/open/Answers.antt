use Rattle.std.proofs.Common.{◌≡◌, sym, subst}
use Rattle.std.proofs.lemmas.Result.{IfOk-from_err}
use Rattle.law_space.specs.PageSpace.{page_meaning}
use Rattle.law_space.specs.ReachAt.{reach_at}
use Rattle.pg_plan.specs.declared.states.State.{State}
use Rattle.pg_rules.specs.IsState.{IsPlace, IsState}
use Rattle.pg_sources.specs.Document.{doc_of}
use Rattle.pg_table.specs.Space.{AreWanted}
use Rattle.pg_space.proofs.kept.KeptPages.open.Goals as goal

pub returns-in_err-own-clause-moves : goal.returns-in_err-own-clause-moves
returns-in_err-own-clause-moves g c = IfOk-from_err c.from_residual.result _ c.from_residual.ensures.0

pub returns-in_err-own-clause-reach : goal.returns-in_err-own-clause-reach
returns-in_err-own-clause-reach g c = IfOk-from_err c.from_residual.result _ c.from_residual.ensures.0

pub take-requires : goal.take-requires
take-requires g c = subst (λ (u : State). IsPlace c.args.self.now.pages.sources.galley.now.blocks u.place)
    (sym c.in_ok-own.ensures) c.requires.own.place

pub returns-in_err-kept-clause-moves : goal.returns-in_err-kept-clause-moves
returns-in_err-kept-clause-moves g c =
    IfOk-from_err c.from_residual-in_err-kept.result _ c.from_residual-in_err-kept.ensures.0

pub returns-in_err-kept-clause-reach : goal.returns-in_err-kept-clause-reach
returns-in_err-kept-clause-reach g c =
    IfOk-from_err c.from_residual-in_err-kept.result _ c.from_residual-in_err-kept.ensures.0

pub open_by-requires-clause-own : goal.open_by-requires-clause-own
open_by-requires-clause-own g c = subst (IsState (doc_of c.args.self.now.pages.sources)) (sym c.in_ok-own.ensures)
    c.requires.own

pub open_by-requires-clause-from : goal.open_by-requires-clause-from
open_by-requires-clause-from g c = c.in_ok-kept.ensures

pub open_by-requires-clause-emptied : goal.open_by-requires-clause-emptied
open_by-requires-clause-emptied g c = c.requires.emptied

pub returns-in_err-by-clause-moves : goal.returns-in_err-by-clause-moves
returns-in_err-by-clause-moves g c =
    IfOk-from_err c.from_residual-in_err-by.result _ c.from_residual-in_err-by.ensures.0

pub returns-in_err-by-clause-reach : goal.returns-in_err-by-clause-reach
returns-in_err-by-clause-reach g c =
    IfOk-from_err c.from_residual-in_err-by.result _ c.from_residual-in_err-by.ensures.0

pub returns-clause-moves : goal.returns-clause-moves
returns-clause-moves g c = subst (λ (u : State). AreWanted (page_meaning (doc_of c.args.self.now.pages.sources)) u
    (g.W.Wants.spares c.args.wants.now) c.in_ok-by.by.opened.steps) c.in_ok-own.ensures c.in_ok-by.ensures.moves

pub returns-clause-reach : goal.returns-clause-reach
returns-clause-reach g c = subst (λ (u : State).
    c.in_ok-by.by.opened.reach ≡ reach_at (doc_of c.args.self.now.pages.sources) u.place) c.in_ok-own.ensures
    c.in_ok-by.ensures.reach
