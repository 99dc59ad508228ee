use Rattle.std.proofs.Common.{refl, subst, sym, ◌+◌}
use Rattle.std.specs.Prelude.{Contains, Option, ℤ}
use Rattle.std.proofs.lemmas.Option.{slice_get_read}
use Rattle.pg_plan.specs.declared.states.Label.{Label}
use Rattle.pg_sources.specs.Document.{doc_of}
use Rattle.law_check.specs.Faults.{IsFaultOrMemory, IsFirst}
use Rattle.law_check.specs.Tests.{AreStates}
use Rattle.pg_labelcheck.specs.Tested.{IsFinalBelow}
use Rattle.pg_labelcheck.proofs.Passes.{final_fails, final_passes, index_few, index_within}
use Rattle.pg_labelcheck.proofs.labels.test_final.Goals as goal

pub first_final-requires : goal.first_final-requires
first_final-requires c = subst (AreStates (doc_of c.args.space.now.sources)) (sym c.requires.labels)
    c.requires.before.before.before.states

pub number_of-requires : goal.number_of-requires
number_of-requires c = index_few _ c.args.labels.now c.args.output.now.labels c.in-Some.index
    c.requires.labels c.requires.few.labels (c.in-Some.ensures.some c.in-Some.index refl)

pub bounds-labels-index : goal.bounds-labels-index
bounds-labels-index c = index_within _ c.args.labels.now c.in-Some.index
    (c.in-Some.ensures.some c.in-Some.index refl)

pub returns-in-None : goal.returns-in-None
returns-in-None c = final_passes _ _ c.args.output.now c.args.labels.now c.requires.labels
    c.requires.before (subst (λ (below : Option ℤ). (label : Label) → Contains c.args.labels.now label →
    IsFinalBelow (doc_of c.args.space.now.sources) below label → ⊥) c.shown_cost.ensures (c.in-None.ensures.none refl))

pub returns-in-Some : goal.returns-in-Some
returns-in-Some c =
    let first = c.in-Some.ensures.some c.in-Some.index refl in
    subst (IsFaultOrMemory _ _ c.args.output.now) (sym c.final_fault.ensures)
    (final_fails _ _ c.args.output.now c.args.labels.now c.in-Some.index c.number_of.result
    c.index-labels-index.result.cost c.index-labels-index.result c.requires.labels c.number_of.ensures
    (slice_get_read c.args.labels.now _ c.in-Some.index c.index-labels-index.result refl
    (index_within _ c.args.labels.now c.in-Some.index first) c.index-labels-index.is) refl c.requires.before
    (subst (λ (below : Option ℤ). IsFirst (IsFinalBelow (doc_of c.args.space.now.sources) below)
    c.args.labels.now (c.in-Some.index + 1)) c.shown_cost.ensures first))
