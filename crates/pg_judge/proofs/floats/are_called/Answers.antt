use Rattle.std.proofs.Common.{rules, sym, ap, ◌∙◌, ◌≡◌, ◌<◌, ℕ}
use Rattle.std.specs.List.{list_all, range_with_len}
use Rattle.pg_judge.specs.Bases.{doc_of}
use Rattle.pg_judge.specs.Waits.{is_slot_called}
use Rattle.pg_floats.proofs.Ranges.{next_all, not_all}
use Rattle.pg_judge.proofs.floats.are_called.Goals as goal

pub returns-then-not-is_slot_called : goal.returns-then-not-is_slot_called
returns-then-not-is_slot_called c =
    let there : c.loop-slot.slot < c.args.slots = search rules in
    sym (not_all (is_slot_called (doc_of c.args.basis.now) c.args.to c.args.placed.now
    c.args.after.now) c.args.slots c.loop-slot.slot there
    (sym c.is_slot_called.ensures ∙ c.if-not-is_slot_called.true))

pub loop-slot-preserved : goal.loop-slot-preserved
loop-slot-preserved c =
    next_all (is_slot_called (doc_of c.args.basis.now) c.args.to c.args.placed.now
    c.args.after.now) c.loop-slot.slot c.loop-slot.invariant
    (sym c.is_slot_called.ensures ∙ c.if-not-is_slot_called.false)

pub returns : goal.returns
returns c =
    let all : c.loop-slot.slot ≡ c.args.slots = search rules in
    sym (ap (λ (n : ℕ). list_all (is_slot_called (doc_of c.args.basis.now) c.args.to
    c.args.placed.now c.args.after.now) (range_with_len 0 n)) (sym all) ∙ c.loop-slot.invariant)
