use Rattle.std.proofs.Common.{rules, ◌-◌, ℕ}
use Rattle.pg_rules.specs.Floats.{entry}
use Rattle.pg_states.proofs.Zeros.{all_written, is_within, write_next}
use Rattle.pg_states.proofs.counts.excess_counts.Goals as goal

pub set-requires : goal.set-requires
set-requires c = is_within (λ (slot : ℕ). entry c.args.a.now slot - entry c.args.b.now slot) c.args.slots
    c.loop-slot.slot c.loop-slot.counts (search rules) c.loop-slot.invariant

pub loop-slot-preserved : goal.loop-slot-preserved
loop-slot-preserved c = write_next (λ (slot : ℕ). entry c.args.a.now slot - entry c.args.b.now slot) c.args.slots
    c.loop-slot.slot c.excess.result c.loop-slot.counts c.set.new.self (search rules) c.loop-slot.invariant
    c.excess.ensures c.set.ensures

pub returns : goal.returns
returns c = all_written (λ (slot : ℕ). entry c.args.a.now slot - entry c.args.b.now slot) c.args.slots
    c.loop-slot.slot c.loop-slot.counts (search rules) c.loop-slot.invariant
