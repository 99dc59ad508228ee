use Rattle.std.proofs.Common.{◌≡◌, ◌∙◌, rules, to_z, of_z, w64}
use Rattle.std.proofs.lemmas.Int.{to_z-of_z}
use Rattle.std.specs.Prelude.{◌+ℤ◌}
use Rattle.pg_list.specs.declared.item.Order.TheVariants.{Finite}
use Rattle.pg_list.specs.Badness.{fill_badness, has_infinite, is_over}
use Rattle.pg_list.specs.Totals.{total, shrink, stretch, trimmed}
use Rattle.pg_greedy.proofs.Costs.{badness_same, cost_same, over_same, stops_same, sum_same}
use Rattle.pg_greedy.proofs.judged.judge_break.Goals as goal

pub returns-clause-cost : goal.returns-clause-cost
returns-clause-cost c topskip maxdepth items sums =
    let give = c.args.give.now in
    let whole = total topskip maxdepth (trimmed items) in
    let g : to_z w64 (of_z w64 c.args.goal) ≡ c.args.goal =
    to_z-of_z w64 c.args.goal (record { sfits = c.ranges.goal.sfits }) in
    let p : to_z w64 (of_z w64 c.args.penalty) ≡ c.args.penalty =
    to_z-of_z w64 c.args.penalty (record { sfits = c.ranges.penalty.sfits }) in
    let more : to_z w64 (of_z w64 c.plus-stretch.result) ≡ stretch Finite (trimmed items) +ℤ give.stretch =
    to_z-of_z w64 c.plus-stretch.result (record { sfits = search rules })
    ∙ (c.plus-stretch.ensures.value
    ∙ sum_same (to_z-of_z w64 c.stretch.result (record { sfits = search rules })
    ∙ c.stretch.ensures.sums topskip maxdepth items sums)
    (to_z-of_z w64 give.stretch (record { sfits = search rules }))) in
    let less : to_z w64 (of_z w64 c.plus-shrink.result) ≡ shrink (trimmed items) +ℤ give.shrink =
    to_z-of_z w64 c.plus-shrink.result (record { sfits = search rules })
    ∙ (c.plus-shrink.ensures.value
    ∙ sum_same (to_z-of_z w64 c.shrink.result (record { sfits = search rules })
    ∙ c.shrink.ensures.sums topskip maxdepth items sums)
    (to_z-of_z w64 give.shrink (record { sfits = search rules }))) in
    c.verdict.ensures.cost
    ∙ cost_same (c.is_over-over.ensures topskip maxdepth items sums ∙ over_same whole less g) p
    (c.page_badness-badness.ensures.sums topskip maxdepth items sums
    ∙ badness_same c.args.spent whole (has_infinite (trimmed items)) g more less)

pub returns-clause-stops : goal.returns-clause-stops
returns-clause-stops c topskip maxdepth items sums =
    let give = c.args.give.now in
    let whole = total topskip maxdepth (trimmed items) in
    let g : to_z w64 (of_z w64 c.args.goal) ≡ c.args.goal =
    to_z-of_z w64 c.args.goal (record { sfits = c.ranges.goal.sfits }) in
    let p : to_z w64 (of_z w64 c.args.penalty) ≡ c.args.penalty =
    to_z-of_z w64 c.args.penalty (record { sfits = c.ranges.penalty.sfits }) in
    let less : to_z w64 (of_z w64 c.plus-shrink.result) ≡ shrink (trimmed items) +ℤ give.shrink =
    to_z-of_z w64 c.plus-shrink.result (record { sfits = search rules })
    ∙ (c.plus-shrink.ensures.value
    ∙ sum_same (to_z-of_z w64 c.shrink.result (record { sfits = search rules })
    ∙ c.shrink.ensures.sums topskip maxdepth items sums)
    (to_z-of_z w64 give.shrink (record { sfits = search rules }))) in
    c.verdict.ensures.stops
    ∙ stops_same (c.is_over-over.ensures topskip maxdepth items sums ∙ over_same whole less g) p
