use Rattle.std.proofs.Common.{rules, refl, sym, ap, ◌∙◌, ◌≡◌, ◌<◌, ℕ}
use Rattle.std.specs.List.{list_all, range_with_len}
use Rattle.pg_floats.proofs.Ranges.{next_all, not_all}
use Rattle.pg_judge.specs.Barriers.{has_flushed}
use Rattle.pg_judge.specs.Bases.{doc_of}
use Rattle.pg_judge.proofs.barriers.are_flushed.Goals as goal

pub loop-slot-init : goal.loop-slot-init
loop-slot-init c = λ counts e. refl

pub returns-then-not-is_slot_flushed : goal.returns-then-not-is_slot_flushed
returns-then-not-is_slot_flushed c = λ counts e.
    let there : c.loop-slot.slot < c.args.slots = search rules in
    sym (not_all (has_flushed (doc_of c.args.basis.now) c.args.block counts) c.args.slots c.loop-slot.slot there
    (sym (c.is_slot_flushed.ensures counts e) ∙ c.if-not-is_slot_flushed.true))

pub loop-slot-preserved : goal.loop-slot-preserved
loop-slot-preserved c = λ counts e.
    next_all (has_flushed (doc_of c.args.basis.now) c.args.block counts) c.loop-slot.slot (c.loop-slot.invariant counts e)
    (sym (c.is_slot_flushed.ensures counts e) ∙ c.if-not-is_slot_flushed.false)

pub returns : goal.returns
returns c = λ counts e.
    let all : c.loop-slot.slot ≡ c.args.slots = search rules in
    sym (ap (λ (n : ℕ). list_all (has_flushed (doc_of c.args.basis.now) c.args.block counts) (range_with_len 0 n)) (sym all)
    ∙ c.loop-slot.invariant counts e)
