use Rattle.std.proofs.Common.{◌∙◌, ap, ℕ}
use Rattle.std.specs.Prelude.{replicate}
use Rattle.pg_sources.specs.Document.{doc_of}
use Rattle.pg_states.proofs.FirstState.{start_is}
use Rattle.pg_states.proofs.beginning.first_state.Goals as goal

pub returns : goal.returns
returns c =
    start_is (doc_of c.args.sources.now) c.first_side.result c.zeros.result c.new.result c.first_side.ensures
    (c.zeros.ensures ∙ ap (λ (n : ℕ). replicate {A = ℕ} n 0) c.slots.ensures.value) c.new.ensures
