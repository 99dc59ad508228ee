use Rattle.std.proofs.Common.{rules, arith, ◌≡◌, ◌<◌, ℕ}
use Rattle.std.specs.Prelude.{slice_index}
use Rattle.pg_floats.proofs.Ranges.{next_sum}
use Rattle.pg_floats.proofs.counts.count_floats.Goals as goal

pub loop-slot-preserved : goal.loop-slot-preserved
loop-slot-preserved c =
    let step = next_sum (λ (slot : ℕ). slice_index c.args.counts.now slot) c.loop-slot.slot in
    let is : c.from-count.result ≡ slice_index c.args.counts.now c.loop-slot.slot = search rules in
    let few : c.from-count.result < 65536 = search rules in (
      omega (arith, step, is, c.loop-slot.invariant.0),
      omega (arith, few, c.loop-slot.invariant.1),
    )
