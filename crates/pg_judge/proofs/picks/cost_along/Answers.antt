use Rattle.std.proofs.Common.{rules, arith, ap, ◌∙◌, ◌≡◌, length}
use Rattle.pg_lemmas.proofs.Lists.{no_items}
use Rattle.pg_judge.specs.Picks.{pick_cost}
use Rattle.pg_judge.proofs.PickCosts.{no_picks}
use Rattle.pg_judge.proofs.picks.cost_along.Goals as goal

pub returns-then-is_empty-clause-value : goal.returns-then-is_empty-clause-value
returns-then-is_empty-clause-value c =
    let empty : length c.choices.left.now ≡ 0 = search rules in
    let none = ap (pick_cost c.choices.rest.now) (no_items c.choices.left.now empty) ∙ no_picks c.choices.rest.now in
    omega (arith, none, c.choices.invariant.same)
