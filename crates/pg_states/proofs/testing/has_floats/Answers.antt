use Rattle.std.proofs.Common.{◌∙◌, ap, length, List, ℕ}
use Rattle.std.specs.Prelude.{◌==◌}
use Rattle.pg_sources.specs.Document.{doc_of}
use Rattle.law_moves.specs.Listed.{calls_all}
use Rattle.pg_lemmas.proofs.Numbers.{eq_yes}
use Rattle.pg_states.proofs.Both.{as_many, not_equal, missed, passed}
use Rattle.pg_states.proofs.testing.has_floats.Goals as goal

pub returns-then-calls_all : goal.returns-then-calls_all
returns-then-calls_all c =
    passed (length c.as_slice-placed.result.now == c.slots.result) _ _
    (as_many c.as_slice-placed.result.now _ c.slots.result _ c.as_slice-placed.ensures c.slots.ensures.value)
    (eq_yes _ _ c.if-placed-slots.true) c.has_ages.result (passed c.calls_all.result _ _
    (c.calls_all.ensures ∙ ap (λ (placed : List ℕ). calls_all (doc_of c.args.sources.now) c.args.state.now.place placed)
    c.as_slice-placed.ensures) c.if-calls_all.true c.has_ages.result c.has_ages.ensures)

pub returns-else-calls_all : goal.returns-else-calls_all
returns-else-calls_all c =
    passed (length c.as_slice-placed.result.now == c.slots.result) _ _
    (as_many c.as_slice-placed.result.now _ c.slots.result _ c.as_slice-placed.ensures c.slots.ensures.value)
    (eq_yes _ _ c.if-placed-slots.true) c.calls_all.result (missed c.calls_all.result _ _
    (c.calls_all.ensures ∙ ap (λ (placed : List ℕ). calls_all (doc_of c.args.sources.now) c.args.state.now.place placed)
    c.as_slice-placed.ensures) c.if-calls_all.false)

pub returns-else-placed-slots : goal.returns-else-placed-slots
returns-else-placed-slots c =
    missed (length c.as_slice-placed.result.now == c.slots.result) _ _
    (as_many c.as_slice-placed.result.now _ c.slots.result _ c.as_slice-placed.ensures c.slots.ensures.value)
    (not_equal _ _ c.if-placed-slots.false)
