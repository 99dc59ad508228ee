use Rattle.std.proofs.Common.{sym, subst, Bool}
use Rattle.std.specs.Prelude.{IsTrue, ◌↔◌}
use Rattle.pg_rules.specs.IsState.{IsState}
use Rattle.pg_sources.specs.Document.{doc_of}
use Rattle.pg_states.proofs.testing.is_state.Goals as goal

pub returns : goal.returns
returns c = subst (λ (b : Bool). IsTrue b ↔ IsState (doc_of c.args.sources.now) c.args.state.now)
    (sym c.passes_test.ensures) (c.states_are_tested.ensures c.args.state.now)
