use Rattle.std.proofs.Common.{rules, ◌∙◌, w32, w64}
use Rattle.std.proofs.lemmas.Int.{to_z-of_z}
use Rattle.pg_column.proofs.Numbers.{cost_is}
use Rattle.pg_column.proofs.cost.cost_for.Goals as goal

pub returns : goal.returns
returns c =
    cost_is c.args.style.now c.args.goal c.args.give.now c.args.sums.now.totals c.args.is_spent c.args.penalty _ _ _ _
    _ _
    (to_z-of_z w64 c.args.goal (record { sfits = search rules }))
    (to_z-of_z w64 c.total-total.result (record { sfits = search rules }) ∙ c.total-total.ensures.value)
    c.badness_in-badness.ensures c.fitness.ensures
    (to_z-of_z w32 c.args.penalty (record { sfits = search rules }))
    (to_z-of_z w64 c.demerits.result (record { sfits = search rules }) ∙ c.demerits.ensures)
