use Rattle.std.proofs.Common.{◌∙◌, ap, arith, ℕ, ◌-◌, List}
use Rattle.pg_rules.specs.Floats.{called, entry}
use Rattle.pg_states.proofs.ages.count_waiting.Goals as goal

pub overflow_cast-result : goal.overflow_cast-result
overflow_cast-result c = record { fits = omega (arith, c.saturating_sub.type_inv) }

pub returns-clause-value : goal.returns-clause-value
returns-clause-value c =
    let sources = c.args.sources.now in
    let before = entry (called sources.galley.now.blocks sources.style.now c.args.state.now.place) c.args.slot in
    c.saturating_sub.ensures
    ∙ (ap (λ (n : ℕ). n - c.entry.result) c.called_at-called.ensures
    ∙ ap (λ (n : ℕ). before - n) (c.entry.ensures.value
    ∙ ap (λ (placed : List ℕ). entry placed c.args.slot) c.as_slice.ensures))

pub returns-clause-few : goal.returns-clause-few
returns-clause-few c = c.saturating_sub.type_inv
