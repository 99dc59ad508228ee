use Rattle.std.proofs.Common.{◌∙◌, ap, sym, subst, ◌≤◌, List, ℕ, length}
use Rattle.pg_rules.specs.Floats.{total_count}
use Rattle.pg_rooms.proofs.laid.count.Goals as goal

pub total-requires : goal.total-requires
total-requires c = subst (λ (n : ℕ). n ≤ 8) (c.slots.ensures.value
    ∙ (sym c.requires ∙ ap (λ (counts : List ℕ). length counts) (sym c.as_slice.ensures))) c.slots.ensures.few

pub returns : goal.returns
returns c = c.total.ensures ∙ ap total_count c.as_slice.ensures
