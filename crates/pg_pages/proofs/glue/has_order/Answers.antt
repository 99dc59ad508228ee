use Rattle.std.proofs.Common.{◌∙◌, rules, arith, of_z, to_z}
use Rattle.std.specs.Int.{w128}
use Rattle.std.proofs.lemmas.Int.{to_z-of_z}
use mir.Val.{SFits}
use Rattle.pg_pages.proofs.Stretches.{fewer, next_sum}
use Rattle.pg_pages.proofs.glue.has_order.Goals as goal

pub large_plus-sum-requires-clause-a : goal.large_plus-sum-requires-clause-a
large_plus-sum-requires-clause-a c = omega (arith, c.items.invariant.few)

pub large_plus-sum-requires-clause-b : goal.large_plus-sum-requires-clause-b
large_plus-sum-requires-clause-b c =
    let fits : SFits w128 c.stretch_in.result = search rules in
    rw (to_z-of_z w128 c.stretch_in.result fits) (omega (arith, c.stretch_in.ensures.size))

pub items-preserved : goal.items-preserved
items-preserved c =
    let fits : SFits w128 c.large_plus-sum.result = search rules in
    let own : SFits w128 c.stretch_in.result = search rules in
    let new = to_z-of_z w128 c.large_plus-sum.result fits in
    let some = c.in-len1-up.len_at_least in
    record {
      sum = next_sum c.args.order c.items.rest.now c.item-item.result _ (to_z w128 c.items.sum-bits) _ _ _ some
          c.item-item.is c.stretch_in.ensures.value (new ∙ simp to_z-of_z at c.large_plus-sum.ensures.value)
          c.items.invariant.sum;
      few = fewer c.items.rest.now (to_z w128 c.items.sum-bits) c.stretch_in.result
          (to_z w128 (of_z w128 c.large_plus-sum.result)) some c.stretch_in.ensures.size
          (rw new (simp to_z-of_z at c.large_plus-sum.ensures.size)) c.items.invariant.few;
    }
