use Rattle.std.proofs.Common.{◌≡◌, ◌+◌, ◌++◌, take, drop, ℕ}
use Rattle.std.specs.Prelude.{map}
use Rattle.pg_plan.proofs.ages.raise.Given as goal

abbrev pub invariant-loop-age : goal.invariant-loop-age
invariant-loop-age l = l.age-items ≡ map (λ (age : ℕ). age + 1) (take l.age-index l.initial.age-items) ++ drop l.age-index l.initial.age-items
