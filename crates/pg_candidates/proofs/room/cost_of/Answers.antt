use Rattle.std.proofs.Common.{◌≡◌, ap, sym, ◌∙◌, rules, w32, w64, ℤ, ◌-ℤ◌, to_z, of_z}
use Rattle.std.proofs.lemmas.Int.{to_z-of_z}
use Rattle.pg_column.specs.Numbers.{cost_for}
use Rattle.pg_style.specs.Plain.{plus_give}
use Rattle.pg_candidates.specs.Nears.{NearValue}
use Rattle.pg_candidates.proofs.Worst.{same_cost, worst_is}
use Rattle.pg_candidates.proofs.room.cost_of.Goals as goal

pub returns-in-Some : goal.returns-in-Some
returns-in-Some c = λ most gives worst.
    let near = c.args.near.now in
    let room = c.args.room.now in
    let left : to_z w64 (of_z w64 c.goal_of-goal.result) ≡ room.size -ℤ near.notes =
    to_z-of_z w64 c.goal_of-goal.result (record { sfits = search rules }) ∙ c.goal_of-goal.ensures.value in
    worst_is c.args.style.now most near.kind near.totals near.give _ room.give gives near.worst worst c.in-Some.cost
    (sym c.worst_at.ensures ∙ c.in-Some.is)
    ∙ ap (λ (z : ℤ). cost_for c.args.style.now z (plus_give room.give near.give) near.totals near.kind.is_spent
    near.kind.penalty) left

pub returns-in-None : goal.returns-in-None
returns-in-None c = λ most gives worst.
    let near = c.args.near.now in
    let room = c.args.room.now in
    let left : to_z w64 (of_z w64 c.goal_of-goal.result) ≡ room.size -ℤ near.notes =
    to_z-of_z w64 c.goal_of-goal.result (record { sfits = search rules }) ∙ c.goal_of-goal.ensures.value in
    c.cost_for.ensures
    ∙ same_cost c.args.style.now _ _ left _ _ c.give_of.ensures.value _ _ (ap (λ (n : NearValue). n.totals) c.near.view_is)
    _ _ (ap (λ (n : NearValue). n.kind.is_spent) c.near.view_is) _ _
    (to_z-of_z w32 c.near.inside.kind.penalty (record { sfits = search rules })
    ∙ ap (λ (n : NearValue). n.kind.penalty) c.near.view_is)
