use Rattle.std.proofs.Common.{rules, sym, ap, ◌∙◌, ◌≡◌, ◌<◌, ℕ}
use Rattle.std.specs.Prelude.{◌==◌}
use Rattle.std.specs.List.{list_all, range_with_len}
use Rattle.pg_list.specs.Flat.{end_of}
use Rattle.pg_rules.specs.Floats.{called, entry}
use Rattle.pg_floats.proofs.Ranges.{next_all, not_all}
use Rattle.pg_floats.proofs.remains.has_dealt_all.Goals as goal

pub returns-then-not-is_slot_dealt : goal.returns-then-not-is_slot_dealt
returns-then-not-is_slot_dealt c =
    let there : c.loop-slot.slot < c.args.slots = search rules in
    sym (not_all (λ (slot : ℕ). entry c.args.placed.now slot
    == entry (called c.args.galley.now.blocks c.args.style.now (end_of c.args.galley.now.blocks)) slot) c.args.slots
    c.loop-slot.slot there (sym c.is_slot_dealt.ensures ∙ c.if-not-is_slot_dealt.true))

pub loop-slot-preserved : goal.loop-slot-preserved
loop-slot-preserved c =
    next_all (λ (slot : ℕ). entry c.args.placed.now slot
    == entry (called c.args.galley.now.blocks c.args.style.now (end_of c.args.galley.now.blocks)) slot) c.loop-slot.slot
    c.loop-slot.invariant (sym c.is_slot_dealt.ensures ∙ c.if-not-is_slot_dealt.false)

pub returns : goal.returns
returns c =
    let all : c.loop-slot.slot ≡ c.args.slots = search rules in
    sym (ap (λ (n : ℕ). list_all (λ (slot : ℕ). entry c.args.placed.now slot
    == entry (called c.args.galley.now.blocks c.args.style.now (end_of c.args.galley.now.blocks)) slot)
    (range_with_len 0 n)) (sym all) ∙ c.loop-slot.invariant)
