use Rattle.std.proofs.Common.{◌∙◌, sym}
use Rattle.pg_floats.proofs.Ranges.{next_all, not_all}
use Rattle.pg_states.specs.Lines.{covers_one}
use Rattle.pg_states.proofs.counts.covers_either.Goals as goal

pub returns-then-not-covers_one : goal.returns-then-not-covers_one
returns-then-not-covers_one c = sym (not_all (covers_one c.args.a.now c.args.b.now c.args.c.now) c.args.slots
    c.loop-slot.slot c.loop-slot-test.true (sym c.covers_one.ensures ∙ c.if-not-covers_one.true))

pub loop-slot-preserved : goal.loop-slot-preserved
loop-slot-preserved c = next_all (covers_one c.args.a.now c.args.b.now c.args.c.now) c.loop-slot.slot
    c.loop-slot.invariant (sym c.covers_one.ensures ∙ c.if-not-covers_one.false)
