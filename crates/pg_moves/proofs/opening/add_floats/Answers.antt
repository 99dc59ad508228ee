use Rattle.std.proofs.Common.{◌≡◌, ◌++◌, ◌∙◌, ap, subst, sym, length, List}
use Rattle.std.proofs.lemmas.List.{append-nil}
use Rattle.std.proofs.lemmas.Result.{on_ok_weaker}
use Rattle.std.specs.Prelude.{Contains, OnOk}
use Rattle.pg_plan.specs.declared.pages.PageMove.{PageMove}
use Rattle.pg_plan.specs.declared.states.State.{State}
use Rattle.pg_table.specs.declared.step.Step.{Step}
use Rattle.pg_rules.specs.Floats.{total_count}
use Rattle.pg_layouts.proofs.Areas.{slots_long}
use Rattle.pg_sources.specs.Document.{doc_of}
use Rattle.pg_rooms.specs.Laid.{HasSoMany}
use Rattle.pg_rooms.specs.declared.laid.Laid.{Laid}
use Rattle.pg_states.specs.declared.settling.Known.{Known}
use Rattle.pg_moves.proofs.AllSteps.{at_err, floats_are}
use Rattle.pg_moves.proofs.NoFloats.{no_columns, none_both}
use Rattle.pg_rooms.proofs.Dealt.{called_has}
use Rattle.pg_rooms.proofs.FloatLaid.{float_each}
use Rattle.pg_moves.proofs.opening.add_floats.Goals as goal

pub may_have_floats-requires : goal.may_have_floats-requires
may_have_floats-requires c = ap (λ (it : Known). length it.waits) c.requires.known
    ∙ slots_long c.args.sources.now.style.now _

pub find_stays-requires-clause-ceiling : goal.find_stays-requires-clause-ceiling
find_stays-requires-clause-ceiling c = subst (HasSoMany (doc_of c.args.sources.now))
    (sym (ap (λ (it : Known). it.called) c.requires.known))
    (called_has (doc_of c.args.sources.now) c.args.sources.now.in_range.blocks c.args.state.now.place)

pub add_stays-requires-clause-laid : goal.add_stays-requires-clause-laid
add_stays-requires-clause-laid c = λ it m. float_each (doc_of c.args.sources.now) c.args.state.now c.args.known.now.called
    _ c.in_ok-at.ensures.laid.are c.in_ok-at.ensures.laid.small it
    (subst (λ (xs : List Laid). Contains xs it) c.stays-laid.ensures m)

pub returns-clause-steps : goal.returns-clause-steps
returns-clause-steps c = subst (λ (more : List (Step State PageMove)). OnOk c.add_stays.result
    (c.add_stays.new.steps ≡ c.args.steps.now ++ more))
    (floats_are (doc_of c.args.sources.now) c.args.state.now c.args.known.now.called c.stays-laid.result.now
    (c.stays-laid.ensures ∙ c.in_ok-at.ensures.laid.are)
    (ap (λ (it : Known). it.called) c.requires.known))
    c.add_stays.ensures

pub returns-in_err-at-clause-steps : goal.returns-in_err-at-clause-steps
returns-in_err-at-clause-steps c = at_err _ c.from_residual.result c.from_residual.ensures.0

pub returns-then-not-may_have_floats-clause-steps : goal.returns-then-not-may_have_floats-clause-steps
returns-then-not-may_have_floats-clause-steps c =
    let none = none_both (total_count c.args.known.now.waits) c.args.state.now.wide
    (sym c.may_have_floats.ensures ∙ c.if-not-may_have_floats.true) in
    sym (ap (λ (more : List (Step State PageMove)). c.args.steps.now ++ more)
    (no_columns (doc_of c.args.sources.now) c.args.state.now c.requires.own.placed
    (subst (λ (it : Known). total_count it.waits ≡ 0) c.requires.known none.0) none.1) ∙ append-nil c.args.steps.now)

pub find_stays-requires-clause-own : goal.find_stays-requires-clause-own
find_stays-requires-clause-own c = c.requires.own

pub find_stays-requires-clause-kept : goal.find_stays-requires-clause-kept
find_stays-requires-clause-kept c = c.requires.layouts

pub add_stays-requires-clause-own : goal.add_stays-requires-clause-own
add_stays-requires-clause-own c = c.requires.own

pub add_stays-requires-clause-known : goal.add_stays-requires-clause-known
add_stays-requires-clause-known c = c.requires.known

pub returns-clause-layouts : goal.returns-clause-layouts
returns-clause-layouts c = on_ok_weaker c.add_stays.result (λ _. c.in_ok-at.ensures.kept) c.add_stays.ensures

pub returns-in_err-at-clause-layouts : goal.returns-in_err-at-clause-layouts
returns-in_err-at-clause-layouts c = at_err _ c.from_residual.result c.from_residual.ensures.0

pub returns-then-not-may_have_floats-clause-layouts : goal.returns-then-not-may_have_floats-clause-layouts
returns-then-not-may_have_floats-clause-layouts c = c.requires.layouts
