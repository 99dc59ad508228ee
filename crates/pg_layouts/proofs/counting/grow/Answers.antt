use Rattle.std.proofs.Common.{rules, ◌++◌, ◌∷◌, [], ℕ}
use Rattle.pg_layouts.proofs.OneMore.{map_next}
use Rattle.pg_layouts.proofs.counting.grow.Goals as goal

pub loop-count-preserved : goal.loop-count-preserved
loop-count-preserved c = map_next (λ (n : ℕ). c.args.counts.now ++ n ∷ []) c.args.lists.now.items
    c.loop-count.lists.items c.push.new.self.items c.loop-count.count c.in_ok-with_count.field-0
    c.loop-count.invariant (search rules) (search rules)
