use Rattle.std.proofs.Common.{rules, sym, ap, subst, ◌∙◌, ℕ, List}
use Rattle.std.specs.Prelude.{◌==◌}
use Rattle.std.specs.Int.{w128}
use Rattle.std.specs.List.{list_all, range_with_len}
use Rattle.std.proofs.lemmas.Int.{to_z-of_z}
use Rattle.pg_list.specs.declared.galley.Place.{Place}
use Rattle.pg_list.specs.Flat.{end_of}
use Rattle.pg_rules.specs.Floats.{called, entry}
use Rattle.pg_rules.specs.History.{placed_of}
use Rattle.pg_rules.specs.IsState.{IsPlace}
use Rattle.pg_rules.specs.Legal.{document, is_chained, is_spent_at}
use Rattle.law_columns.proofs.Faults.{kept}
use Rattle.pg_floats.specs.Counts.{capped}
use Rattle.pg_judge.specs.Progress.{broken_pair}
use Rattle.pg_judge.specs.Settled.{Settles}
use Rattle.pg_floats.proofs.Capped.{are_few}
use Rattle.pg_judge.proofs.Distances.{chained_place}
use Rattle.pg_floats.proofs.Dealt.{dealt_is}
use Rattle.pg_judge.proofs.Settling.{settles_going, settles_lost}
use Rattle.pg_judge.proofs.whole.settle.Goals as goal

pub returns-then-is_lost : goal.returns-then-is_lost
returns-then-is_lost c = λ ms prog.
    let doc = document c.args.galley.now c.args.style.now in
    subst (Settles doc ms) (sym c.answer.ensures)
    (settles_lost doc ms c.args.progress.now _ prog (sym c.is_lost.ensures ∙ c.if-is_lost.true))

pub returns : goal.returns
returns c = λ ms prog.
    let galley = c.args.galley.now in
    let style = c.args.style.now in
    let doc = document galley style in
    let it = c.args.progress.now in
    let going = prog.going (sym c.is_lost.ensures ∙ c.if-is_lost.false) in
    let place = subst (IsPlace galley.blocks) (sym going.at)
    (chained_place doc c.requires.list.floats.shape ms (kept (is_chained doc) ms going.chained)) in
    let spent = c.is_spent_at-is_spent.ensures style place ∙ ap (λ (at : Place). is_spent_at doc at) going.at in
    let dealt = c.has_dealt_all-has_dealt.ensures
    ∙ (ap (λ (xs : List ℕ). list_all (λ (slot : ℕ). entry xs slot
    == entry (called galley.blocks style (end_of galley.blocks)) slot) (range_with_len 0 it.slots))
    (c.as_slice.ensures ∙ going.placed)
    ∙ (ap (λ (n : ℕ). list_all (λ (slot : ℕ). entry (capped (placed_of style ms)) slot
    == entry (called galley.blocks style (end_of galley.blocks)) slot) (range_with_len 0 n)) c.requires.kept.slots
    ∙ dealt_is doc (are_few galley.blocks style c.requires.list.few) (placed_of style ms))) in
    subst (Settles doc ms) (sym c.answer-2.ensures)
    (settles_going doc ms it prog going c.is_spent_at-is_spent.result c.has_dealt_all-has_dealt.result spent dealt
    c.end_rule-rule.result c.end_rule-rule.ensures (broken_pair c.lesser_of.result) c.lesser_of.ensures _
    (to_z-of_z w128 it.cost (record { sfits = search rules })))
