use Rattle.std.proofs.Common.{◌∙◌, sym}
use Rattle.pg_floats.proofs.Ranges.{next_all, not_all}
use Rattle.pg_states.specs.Lines.{covers}
use Rattle.pg_states.proofs.counts.covers_all.Goals as goal

pub returns-then-not-covers : goal.returns-then-not-covers
returns-then-not-covers c = sym (not_all (covers c.args.a.now c.args.b.now) c.args.slots c.loop-slot.slot
    c.loop-slot-test.true (sym c.covers.ensures ∙ c.if-not-covers.true))

pub loop-slot-preserved : goal.loop-slot-preserved
loop-slot-preserved c = next_all (covers c.args.a.now c.args.b.now) c.loop-slot.slot c.loop-slot.invariant
    (sym c.covers.ensures ∙ c.if-not-covers.false)
