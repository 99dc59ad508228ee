use Rattle.std.proofs.Common.{rules, sym, ◌∙◌, ap, ◌≡◌, ◌+◌, ◌∷◌, ◌++◌, [], ℕ, List}
use Rattle.pg_rules.specs.Floats.{entry}
use Rattle.pg_floats.specs.Counts.{cap}
use Rattle.pg_floats.proofs.Ranges.{next_map}
use Rattle.pg_floats.proofs.counts.plus.Goals as goal

pub loop-slot-preserved : goal.loop-slot-preserved
loop-slot-preserved c =
    let pushed : c.push.new.self ≡ c.loop-slot.counts ++ cap (entry c.args.a.now c.loop-slot.slot
    + entry c.args.b.now c.loop-slot.slot) ∷ [] = search rules in
    pushed ∙ (ap (λ (xs : List ℕ). xs ++ cap (entry c.args.a.now c.loop-slot.slot
    + entry c.args.b.now c.loop-slot.slot) ∷ []) c.loop-slot.invariant
    ∙ sym (next_map (λ (slot : ℕ). cap (entry c.args.a.now slot + entry c.args.b.now slot)) c.loop-slot.slot))
