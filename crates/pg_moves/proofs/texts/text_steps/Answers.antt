use Rattle.std.proofs.Common.{◌∙◌, ap, subst, sym, List, ℕ}
use Rattle.std.proofs.lemmas.Result.{IfOk-from_err}
use Rattle.std.specs.Prelude.{Contains}
use Rattle.std.specs.List.{AllByRecursion}
use Rattle.pg_column.specs.Numbers.{IsRoom}
use Rattle.pg_layouts.specs.Layouts.{text_layouts}
use Rattle.pg_sources.specs.Document.{doc_of}
use Rattle.pg_sources.specs.declared.place_counts.PlaceCounts.{PlaceCounts}
use Rattle.pg_rooms.specs.PlaceEnds.{IsPageRoom}
use Rattle.pg_rooms.specs.declared.laid.Laid.{Laid}
use Rattle.law_moves.specs.Listed.{beyond}
use Rattle.pg_rooms.specs.Laid.{HasSoMany}
use Rattle.pg_rooms.proofs.Dealt.{called_has}
use Rattle.pg_moves.specs.Stepping.{AreTextSteps}
use Rattle.pg_moves.proofs.AllSteps.{at_err, laid_own, text_steps_are}
use Rattle.pg_moves.proofs.texts.text_steps.Goals as goal

pub candidates_give_ends-requires-clause-blocks : goal.candidates_give_ends-requires-clause-blocks
candidates_give_ends-requires-clause-blocks g c = c.args.opening.now.sources.now.in_range.blocks

pub candidates_give_ends-requires-clause-ranges : goal.candidates_give_ends-requires-clause-ranges
candidates_give_ends-requires-clause-ranges g c = c.args.opening.now.sources.now.in_range.style_in

pub find_texts-requires-clause-ceiling : goal.find_texts-requires-clause-ceiling
find_texts-requires-clause-ceiling g c = subst (HasSoMany (doc_of c.args.opening.now.sources.now)) (sym (ap (λ (it : PlaceCounts). it.most) c.requires.counts))
    (called_has (doc_of c.args.opening.now.sources.now) c.args.opening.now.sources.now.in_range.blocks
    (beyond (doc_of c.args.opening.now.sources.now) c.args.opening.now.state.now.place))

pub add_all-requires-clause-laid : goal.add_all-requires-clause-laid
add_all-requires-clause-laid g c = λ it m. laid_own (doc_of c.args.opening.now.sources.now) c.args.opening.now.state.now
    (text_layouts (doc_of c.args.opening.now.sources.now) c.args.opening.now.state.now c.args.kept.now.counts.most) it
    (subst (λ (xs : List Laid). Contains xs it) (c.texts-laid.ensures ∙ c.in_ok-at.ensures.laid.are) m)

pub add_all-requires-clause-rooms : goal.add_all-requires-clause-rooms
add_all-requires-clause-rooms g c = subst (AllByRecursion (λ (it : Laid). IsRoom it.room))
    (sym c.texts-laid.ensures) c.in_ok-at.ensures.laid.small

pub returns-clause-steps : goal.returns-clause-steps
returns-clause-steps g c = λ right.
    let low = subst (AllByRecursion (λ (it : Laid). IsPageRoom c.args.opening.now.sources.now.style.now it.room))
    (sym c.texts-laid.ensures) c.in_ok-at.ensures.laid.low in
    let now = c.in_ok-ask_all.ensures.right low right in
    subst (λ (counts : List ℕ). AreTextSteps (doc_of c.args.opening.now.sources.now) c.args.opening.now.state.now counts
    (g.W.Wants.spares c.args.wants.now) c.add_all.new.steps) (ap (λ (it : PlaceCounts). it.most) c.requires.counts)
    (text_steps_are (doc_of c.args.opening.now.sources.now) c.candidates_give_ends.ensures.one c.args.opening.now.state.now c.args.kept.now.counts.most c.ask_all.new.self
    c.texts-laid.result.now (g.W.Wants.spares c.args.wants.now) c.args.emptied c.add_all.new.steps
    (c.texts-laid.ensures ∙ c.in_ok-at.ensures.laid.are) low
    c.in_ok-ask_all.ensures.has c.in_ok-ask_all.ensures.behind now c.requires.emptied (c.in_ok-add_all.ensures now))

pub returns-clause-kept : goal.returns-clause-kept
returns-clause-kept g c = c.in_ok-ask_all.ensures.right
    (subst (AllByRecursion (λ (it : Laid). IsPageRoom c.args.opening.now.sources.now.style.now it.room))
    (sym c.texts-laid.ensures) c.in_ok-at.ensures.laid.low)

pub find_texts-requires-clause-own : goal.find_texts-requires-clause-own
find_texts-requires-clause-own g c = c.requires.own

pub find_texts-requires-clause-kept : goal.find_texts-requires-clause-kept
find_texts-requires-clause-kept g c = c.requires.layouts

pub add_all-requires-clause-own : goal.add_all-requires-clause-own
add_all-requires-clause-own g c = c.requires.own

pub add_all-requires-clause-known : goal.add_all-requires-clause-known
add_all-requires-clause-known g c = c.requires.known

pub returns-in_err-at-clause-walk : goal.returns-in_err-at-clause-walk
returns-in_err-at-clause-walk g c = at_err _ c.from_residual.result c.from_residual.ensures.0

pub returns-in_err-at-clause-counts : goal.returns-in_err-at-clause-counts
returns-in_err-at-clause-counts g c = at_err _ c.from_residual.result c.from_residual.ensures.0

pub returns-in_err-at-clause-layouts : goal.returns-in_err-at-clause-layouts
returns-in_err-at-clause-layouts g c = at_err _ c.from_residual.result c.from_residual.ensures.0

pub returns-in_err-at-clause-kept : goal.returns-in_err-at-clause-kept
returns-in_err-at-clause-kept g c = at_err _ c.from_residual.result c.from_residual.ensures.0

pub returns-in_err-at-clause-steps : goal.returns-in_err-at-clause-steps
returns-in_err-at-clause-steps g c = IfOk-from_err c.from_residual.result _ c.from_residual.ensures.0

pub returns-in_err-ask_all-clause-steps : goal.returns-in_err-ask_all-clause-steps
returns-in_err-ask_all-clause-steps g c = IfOk-from_err c.from_residual-in_err-ask_all.result _
    c.from_residual-in_err-ask_all.ensures.0

pub returns-in_err-ask_all-clause-walk : goal.returns-in_err-ask_all-clause-walk
returns-in_err-ask_all-clause-walk g c = at_err _ c.from_residual-in_err-ask_all.result
    c.from_residual-in_err-ask_all.ensures.0

pub returns-in_err-ask_all-clause-counts : goal.returns-in_err-ask_all-clause-counts
returns-in_err-ask_all-clause-counts g c = at_err _ c.from_residual-in_err-ask_all.result
    c.from_residual-in_err-ask_all.ensures.0

pub returns-in_err-ask_all-clause-layouts : goal.returns-in_err-ask_all-clause-layouts
returns-in_err-ask_all-clause-layouts g c = at_err _ c.from_residual-in_err-ask_all.result
    c.from_residual-in_err-ask_all.ensures.0

pub returns-in_err-ask_all-clause-kept : goal.returns-in_err-ask_all-clause-kept
returns-in_err-ask_all-clause-kept g c = at_err _ c.from_residual-in_err-ask_all.result
    c.from_residual-in_err-ask_all.ensures.0

pub returns-in_err-add_all-clause-steps : goal.returns-in_err-add_all-clause-steps
returns-in_err-add_all-clause-steps g c = IfOk-from_err c.from_residual-in_err-add_all.result _
    c.from_residual-in_err-add_all.ensures.0

pub returns-in_err-add_all-clause-walk : goal.returns-in_err-add_all-clause-walk
returns-in_err-add_all-clause-walk g c = at_err _ c.from_residual-in_err-add_all.result
    c.from_residual-in_err-add_all.ensures.0

pub returns-in_err-add_all-clause-counts : goal.returns-in_err-add_all-clause-counts
returns-in_err-add_all-clause-counts g c = at_err _ c.from_residual-in_err-add_all.result
    c.from_residual-in_err-add_all.ensures.0

pub returns-in_err-add_all-clause-layouts : goal.returns-in_err-add_all-clause-layouts
returns-in_err-add_all-clause-layouts g c = at_err _ c.from_residual-in_err-add_all.result
    c.from_residual-in_err-add_all.ensures.0

pub returns-in_err-add_all-clause-kept : goal.returns-in_err-add_all-clause-kept
returns-in_err-add_all-clause-kept g c = at_err _ c.from_residual-in_err-add_all.result
    c.from_residual-in_err-add_all.ensures.0

pub returns-clause-walk : goal.returns-clause-walk
returns-clause-walk g c = c.in_ok-ask_all.ensures.walk

pub returns-clause-counts : goal.returns-clause-counts
returns-clause-counts g c = c.in_ok-ask_all.ensures.counts

pub returns-clause-layouts : goal.returns-clause-layouts
returns-clause-layouts g c = c.in_ok-at.ensures.kept

pub ask_all-requires-clause-place : goal.ask_all-requires-clause-place
ask_all-requires-clause-place g c = c.requires.own.place

pub ask_all-requires-clause-small : goal.ask_all-requires-clause-small
ask_all-requires-clause-small g c = subst (AllByRecursion (λ (it : Laid). IsRoom it.room))
    (sym c.texts-laid.ensures) c.in_ok-at.ensures.laid.small
