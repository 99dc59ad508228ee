use Rattle.std.proofs.Common.{rules, ◌+◌, ℕ, ◌≡◌, arith}
use Rattle.pg_rules.specs.Floats.{entry}
use Rattle.pg_pages.proofs.Printed.{counted_more}
use Rattle.pg_pages.proofs.seats.added.Goals as goal

pub loop-slot-preserved : goal.loop-slot-preserved
loop-slot-preserved c =
    let both : c.count_at.result + c.count_at-in-loop-slot.result
    ≡ entry c.args.a.now c.loop-slot.slot + entry c.args.b.now c.loop-slot.slot =
    omega (arith, c.count_at.ensures, c.count_at-in-loop-slot.ensures) in
    counted_more (λ (slot : ℕ). entry c.args.a.now slot + entry c.args.b.now slot) c.loop-slot.counts c.push.new.self
    c.loop-slot.slot (c.count_at.result + c.count_at-in-loop-slot.result) c.loop-slot.invariant (search rules) both
