use Rattle.pg_plan.specs.declared.states.Label.{Label}
use Rattle.pg_sources.specs.Document.{doc_of}
use Rattle.pg_labelcheck.specs.Tested.{AllBefore, IsFinalBelow}
use Rattle.pg_labelcheck.proofs.firsts.first_final.Given as goal

abbrev pub invariant-loop-index : goal.invariant-loop-index
invariant-loop-index l =
    AllBefore (λ (label : Label). IsFinalBelow (doc_of l.space.sources) l.below label → ⊥) l.labels l.index
