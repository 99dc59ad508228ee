use Rattle.std.proofs.Common.{◌∙◌, ap, rules, ℕ}
use Rattle.std.specs.Prelude.{nat_le}
use Rattle.pg_rules.specs.Floats.{entry}
use Rattle.pg_judge.proofs.Flushed.{placed_is}
use Rattle.pg_judge.proofs.barriers.is_slot_flushed.Goals as goal

pub returns : goal.returns
returns c = λ counts e.
    placed_is c.flushed.result c.from.result c.args.placed.now counts c.args.slot
    c.flushed.ensures.few (search rules) e
    ∙ ap (λ (n : ℕ). nat_le n (entry counts c.args.slot))
    (c.flushed.ensures.value c.args.basis.now.style.now c.requires.floats)
