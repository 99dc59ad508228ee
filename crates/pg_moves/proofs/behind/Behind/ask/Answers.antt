use Rattle.std.proofs.Common.{◌≡◌, rules, subst, true}
use Rattle.std.specs.Prelude.{ℤ, ◌+ℤ◌}
use Rattle.std.proofs.lemmas.Int.{to_z-of_z}
use mir.Syntax.{w128}
use mir.Val.{SFits}
use Rattle.pg_plan.specs.declared.states.State.{State}
use Rattle.pg_moves.specs.Outdone.{marked_at}
use Rattle.pg_moves.proofs.behind.Behind.ask.Goals as goal

pub returns-clause-spared : goal.returns-clause-spared
returns-clause-spared g c =
    let fits : SFits w128 c.args.self.now.page = search rules in
    record {
      asked = c.reached_at-self.ensures.asked;
      late = subst (λ (page : ℤ). (v : State) (pays : ℤ) → marked_at c.reached_at-self.result v pays ≡ true →
          g.W.Wants.spares c.args.wants.now v (page +ℤ pays) ≡ true) (to_z-of_z w128 c.args.self.now.page fits)
          c.reached_at-self.ensures.spared;
    }
