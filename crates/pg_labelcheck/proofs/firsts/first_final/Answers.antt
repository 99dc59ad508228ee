use Rattle.pg_plan.specs.declared.states.Label.{Label}
use Rattle.pg_sources.specs.Document.{doc_of}
use Rattle.pg_labelcheck.specs.Tested.{IsFinalBelow}
use Rattle.pg_labelcheck.proofs.OneByOne.{before_last, before_more, decided_not, first_is, is_among}
use Rattle.pg_labelcheck.proofs.firsts.first_final.Goals as goal

pub is_final-requires : goal.is_final-requires
is_final-requires c = c.requires c.index-labels-index.result (is_among c.args.labels.now c.loop-index.index
    c.index-labels-index.result c.loop-index-test.true c.index-labels-index.is)

pub returns-then-is_final-clause-some : goal.returns-then-is_final-clause-some
returns-then-is_final-clause-some c = λ index e.
    first_is (IsFinalBelow (doc_of c.args.space.now.sources) c.args.below) c.args.labels.now c.loop-index.index
    c.index-labels-index.result index c.loop-index-test.true c.index-labels-index.is
    (c.is_final.ensures.0 c.if-is_final.true) c.loop-index.invariant e

pub loop-index-preserved : goal.loop-index-preserved
loop-index-preserved c = before_more
    (λ (label : Label). IsFinalBelow (doc_of c.args.space.now.sources) c.args.below label → ⊥) c.args.labels.now
    c.loop-index.index c.index-labels-index.result c.index-labels-index.is
    (decided_not c.is_final.result _ c.is_final.ensures c.if-is_final.false) c.loop-index.invariant

pub returns-clause-none : goal.returns-clause-none
returns-clause-none c = λ e. before_last
    (λ (label : Label). IsFinalBelow (doc_of c.args.space.now.sources) c.args.below label → ⊥) c.args.labels.now
    c.loop-index.index c.loop-index-test.false c.loop-index.invariant
