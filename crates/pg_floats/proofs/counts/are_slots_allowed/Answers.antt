use Rattle.std.proofs.Common.{rules, sym, ◌∙◌, ◌<◌, length}
use Rattle.pg_floats.specs.Counts.{is_slot_allowed}
use Rattle.pg_floats.specs.Spots.{takes_of}
use Rattle.pg_floats.proofs.Ranges.{next_all, not_all}
use Rattle.pg_floats.proofs.counts.are_slots_allowed.Goals as goal

pub returns-then-not-is_allowed_at : goal.returns-then-not-is_allowed_at
returns-then-not-is_allowed_at c =
    let there : c.loop-slot.slot < length c.args.counts.now = search rules in
    sym (not_all (is_slot_allowed c.args.style.now (takes_of c.args.spot) c.args.counts.now) (length c.args.counts.now)
    c.loop-slot.slot there (sym c.is_allowed_at.ensures ∙ c.if-not-is_allowed_at.true))

pub loop-slot-preserved : goal.loop-slot-preserved
loop-slot-preserved c =
    next_all (is_slot_allowed c.args.style.now (takes_of c.args.spot) c.args.counts.now) c.loop-slot.slot
    c.loop-slot.invariant (sym c.is_allowed_at.ensures ∙ c.if-not-is_allowed_at.false)
