use Rattle.std.proofs.Common.{◌∙◌, ap, ℕ}
use Rattle.std.specs.Prelude.{nat_le}
use Rattle.pg_rules.specs.Floats.{entry}
use Rattle.pg_states.proofs.called.calls.Goals as goal

pub returns : goal.returns
returns c = ap (λ (n : ℕ). nat_le n c.called_at.result) c.entry.ensures.value
    ∙ ap (λ (n : ℕ). nat_le (entry c.args.counts.now c.args.slot) n) c.called_at.ensures
