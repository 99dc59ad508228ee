use Rattle.std.proofs.Common.{◌∙◌, arith, subst, IfSome, w64}
use Rattle.std.proofs.lemmas.Int.{to_z-of_z}
use Rattle.pg_style.specs.declared.style.Give.{Give}
use Rattle.pg_candidates.specs.Nears.{IsWorstGoal}
use Rattle.pg_candidates.specs.View.{candidate_of}
use Rattle.pg_candidates.proofs.Short.{goal_small}
use Rattle.pg_candidates.proofs.until.worst_from.Goals as goal

pub room_for-requires-clause-goal : goal.room_for-requires-clause-goal
room_for-requires-clause-goal c =
    goal_small c.args.style.now c.args.most.now.stretch c.args.candidate.now.passed.sums.totals c.args.needs.now.give
    c.worst_goal-goal.result c.worst_goal-goal.ensures

pub returns : goal.returns
returns c =
    let notes = to_z-of_z w64 c.args.needs.now.notes (record { sfits = omega (arith, c.requires.needs.small) }) in
    c.room_for.ensures c.args.style.now c.args.most.now.stretch (candidate_of c.args.candidate.now)
    (notes ∙ c.requires.needs.notes)
    (subst (λ (given : Give). IfSome c.worst_goal-goal.result (IsWorstGoal c.args.style.now c.args.most.now.stretch
    c.args.candidate.now.passed.sums.totals given)) c.requires.needs.give c.worst_goal-goal.ensures)
