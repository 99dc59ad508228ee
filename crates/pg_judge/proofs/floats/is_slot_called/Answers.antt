use Rattle.std.proofs.Common.{◌∙◌, ap, ℕ}
use Rattle.std.specs.Prelude.{nat_le}
use Rattle.pg_rules.specs.Floats.{called, entry}
use Rattle.pg_judge.proofs.Either.{none_added, some_added}
use Rattle.pg_judge.proofs.floats.is_slot_called.Goals as goal

pub returns-then-end-entry : goal.returns-then-end-entry
returns-then-end-entry c =
    let slot = c.args.slot in
    let place_called = entry (called c.args.basis.now.galley.now.blocks c.args.basis.now.style.now c.args.to) slot in
    none_added c.entry-end.result c.entry.result (entry c.args.after.now slot) (entry c.args.placed.now slot)
    (nat_le (entry c.args.after.now slot) place_called) c.entry-end.ensures.value c.entry.ensures.value
    c.if-end-entry.true

pub returns-else-end-entry : goal.returns-else-end-entry
returns-else-end-entry c =
    let slot = c.args.slot in
    let style = c.args.basis.now.style.now in
    let place_called = entry (called c.args.basis.now.galley.now.blocks style c.args.to) slot in
    ap (λ (n : ℕ). nat_le n c.called.result) (c.from.ensures ∙ c.entry-end.ensures.value)
    ∙ (ap (nat_le (entry c.args.after.now slot)) (c.called.ensures style c.requires.floats)
    ∙ some_added c.entry-end.result c.entry.result (entry c.args.after.now slot) (entry c.args.placed.now slot)
    (nat_le (entry c.args.after.now slot) place_called) c.entry-end.ensures.value c.entry.ensures.value
    c.if-end-entry.false)
