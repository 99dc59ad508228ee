use Rattle.std.proofs.Common.{◌≡◌, ◌∙◌, ap, refl, ℤ, ◌++◌, ◌∷◌, []}
use Rattle.std.proofs.lemmas.Int.{to_z-of_z}
use Rattle.std.specs.Int.{w128}
use Rattle.pg_plan.specs.declared.pages.PageMove.{PageMove}
use Rattle.pg_plan.specs.declared.states.State.{State}
use Rattle.pg_table.specs.declared.step.Step.{Step}
use Rattle.pg_moves.proofs.steps.push_step.Goals as goal

pub returns : goal.returns
returns c = c.in_ok-push.ensures.ok ∙ ap (λ (x : Step State PageMove). c.args.steps.now ++ x ∷ [])
    (made _ _ _ _ _ _ c.in_ok-copy.ensures c.in_ok-move_to.ensures
    (to_z-of_z w128 c.args.cost (record { sfits = c.ranges.cost.sfits })))
  where
    made : (u v : State) (m n : PageMove) (a b : ℤ) → u ≡ v → m ≡ n → a ≡ b →
        ◌≡◌ {A = Step State PageMove} (record { to = u; by = m; cost = a }) (record { to = v; by = n; cost = b })
    made u v m n a b p q r = rw (p, q, r) refl
