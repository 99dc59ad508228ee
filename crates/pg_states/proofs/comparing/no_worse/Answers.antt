use Rattle.std.proofs.Common.{◌≡◌, sym, subst, true}
use Rattle.pg_plan.specs.declared.states.State.{State}
use Rattle.pg_rules.specs.NoWorse.{are_no_older, is_no_worse, is_same_key, key}
use Rattle.law_columns.proofs.Simulation.{key_refl, no_older_refl}
use Rattle.pg_lemmas.proofs.Bools.{both}
use Rattle.pg_states.proofs.comparing.no_worse.Goals as goal

-- a state is no worse than itself
itself : (u : State) → is_no_worse u u ≡ true
itself u = both (is_same_key (key u) (key u)) (are_no_older u.ages u.ages) (key_refl (key u)) (no_older_refl u.ages)

pub returns-then-is_surely_same : goal.returns-then-is_surely_same
returns-then-is_surely_same c =
    sym (subst (λ (v : State). is_no_worse c.args.a.now v ≡ true)
    (c.is_surely_same.ensures c.if-is_surely_same.true) (itself c.args.a.now))
