use Rattle.pg_plan.specs.declared.states.Label.{Label}
use Rattle.pg_rules.specs.IsState.{IsState}
use Rattle.pg_sources.specs.Document.{doc_of}
use Rattle.pg_labelcheck.specs.Tested.{AllBefore}
use Rattle.pg_labelcheck.proofs.firsts.first_no_state.Given as goal

abbrev pub invariant-loop-index : goal.invariant-loop-index
invariant-loop-index l = AllBefore (λ (label : Label). IsState (doc_of l.space.sources) label.state) l.labels l.index
