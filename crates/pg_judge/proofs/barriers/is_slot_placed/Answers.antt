use Rattle.std.proofs.Common.{◌≡◌, ◌∙◌, ◌≤◌, ◌^◌, ap, subst, sym, rules, ℕ}
use Rattle.std.specs.Prelude.{nat_le}
use Rattle.pg_rules.specs.Floats.{called, entry}
use Rattle.pg_judge.proofs.Flushed.{called_small, placed_is}
use Rattle.pg_judge.proofs.barriers.is_slot_placed.Goals as goal

pub returns : goal.returns
returns c = λ counts e.
    let blocks = c.args.basis.now.galley.now.blocks in
    let style = c.args.basis.now.style.now in
    let is : c.called.result ≡ entry (called blocks style c.args.from) c.args.slot =
    c.called.ensures style c.requires.floats in
    placed_is c.called.result c.from.result c.args.placed.now counts c.args.slot
    (subst (λ (n : ℕ). n ≤ 2 ^ 12) (sym is)
    (called_small blocks style c.requires.floats.shape c.requires.few c.args.from c.args.slot))
    (search rules) e
    ∙ ap (λ (n : ℕ). nat_le n (entry counts c.args.slot)) is
