use Rattle.pg_plan.specs.declared.states.Label.{Label}
use Rattle.pg_rules.specs.IsState.{IsState}
use Rattle.pg_sources.specs.Document.{doc_of}
use Rattle.law_check.specs.Faults.{IsNoState}
use Rattle.pg_labelcheck.proofs.OneByOne.{before_last, before_more, decided_not, first_is}
use Rattle.pg_labelcheck.proofs.firsts.first_no_state.Goals as goal

pub returns-then-not-has_state-clause-some : goal.returns-then-not-has_state-clause-some
returns-then-not-has_state-clause-some c = λ index e.
    first_is (IsNoState (doc_of c.args.space.now.sources)) c.args.labels.now c.loop-index.index
    c.index-labels-index.result index c.loop-index-test.true c.index-labels-index.is
    (decided_not c.has_state.result _ c.has_state.ensures c.if-not-has_state.true)
    (record { all = λ i label less at not. not (c.loop-index.invariant.all i label less at) }) e

pub loop-index-preserved : goal.loop-index-preserved
loop-index-preserved c = before_more
    (λ (label : Label). IsState (doc_of c.args.space.now.sources) label.state) c.args.labels.now c.loop-index.index
    c.index-labels-index.result c.index-labels-index.is (c.has_state.ensures.0 c.if-not-has_state.false)
    c.loop-index.invariant

pub returns-clause-none : goal.returns-clause-none
returns-clause-none c = λ e. before_last
    (λ (label : Label). IsState (doc_of c.args.space.now.sources) label.state) c.args.labels.now c.loop-index.index
    c.loop-index-test.false c.loop-index.invariant
