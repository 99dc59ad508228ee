use Rattle.std.proofs.Common.{rules, arith, sym, subst, ◌≤◌, ◌^◌, ◌+◌, ℤ, Some, None}
use Rattle.std.specs.Int.{w128}
use Rattle.std.proofs.lemmas.Int.{to_z-of_z}
use Rattle.std.specs.Prelude.{nat_abs}
use Rattle.pg_judge.specs.Bases.{doc_of, move_of}
use Rattle.pg_judge.specs.Progress.{IsOutcome}
use Rattle.pg_judge.proofs.Step.{broken_on, paid_on}
use Rattle.pg_judge.proofs.progress.Progress.outcome.Goals as goal

pub returns-in-Ok-clause-size : goal.returns-in-Ok-clause-size
returns-in-Ok-clause-size c =
    let cost = to_z-of_z w128 c.paid_with.result (record { sfits = search rules }) in
    subst (λ (z : ℤ). nat_abs z ≤ nat_abs c.args.self.now.cost + 2 ^ 70) (sym cost) c.paid_with.ensures.size

pub returns-in-Ok-clause-outcome : goal.returns-in-Ok-clause-outcome
returns-in-Ok-clause-outcome c = λ ms going high counted chained.
    let doc = doc_of c.args.basis.now in
    let m = move_of c.args.step.now in
    let it = c.args.self.now in
    let cost = to_z-of_z w128 c.paid_with.result (record { sfits = search rules }) in
    subst (IsOutcome doc m ms it c.next_fitness.result None) (sym cost)
    (paid_on doc m ms it c.in-Ok.it.own c.in-Ok.it.price c.next_fitness.result c.paid_with.result going.column
    (c.in-Ok.ensures ms going high counted chained) c.next_fitness.ensures c.paid_with.ensures.value)

pub returns-in-Err-clause-size : goal.returns-in-Err-clause-size
returns-in-Err-clause-size c =
    let cost = to_z-of_z w128 c.args.self.now.cost (record { sfits = search rules }) in
    let same : nat_abs c.args.self.now.cost ≤ nat_abs c.args.self.now.cost + 2 ^ 70 = omega arith in
    subst (λ (z : ℤ). nat_abs z ≤ nat_abs c.args.self.now.cost + 2 ^ 70) (sym cost) same

pub returns-in-Err-clause-outcome : goal.returns-in-Err-clause-outcome
returns-in-Err-clause-outcome c = λ ms going high counted chained.
    let doc = doc_of c.args.basis.now in
    let m = move_of c.args.step.now in
    let it = c.args.self.now in
    let cost = to_z-of_z w128 it.cost (record { sfits = search rules }) in
    subst (IsOutcome doc m ms it it.fitness (Some c.in-Err.rule)) (sym cost)
    (broken_on doc m ms it c.in-Err.rule (c.in-Err.ensures ms going high counted chained))
