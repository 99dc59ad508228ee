-- What is merely known of the wanted columns that follow a state is known.
use Rattle.std.proofs.Common.{◌≡◌, sym, subst, ◌∙◌, ◌⊎◌, inl, inr, List, Bool, true, false}
use Rattle.std.specs.Prelude.{ℤ, Contains, Result, Ok, Err, IfOk}
use Rattle.std.specs.List.{list_any}
use Rattle.std.specs.Coded.{Coded-set}
use Rattle.std.specs.declared.cmp.Ordering.TheVariants.{Equal}
use Rattle.std.proofs.Math.Logic.{∥∥₁_elim}
use Rattle.std.proofs.lemmas.List.Folds.{Any-from_list_any, list_any-from_Any}
use Rattle.pg_plan.specs.contracts.states.State as state_row
use Rattle.pg_plan.specs.declared.pages.PageMove.{PageMove}
use Rattle.pg_plan.specs.declared.states.State.{State}
use Rattle.pg_plan.proofs.OrderLaws.{column_equal}
use Rattle.pg_rules.specs.Room.{Document}
use Rattle.pg_table.specs.Space.{AreMoves, AreWanted, Meaning}
use Rattle.pg_table.specs.declared.step.Opened.{Opened}
use Rattle.pg_table.specs.declared.step.Step.{Step}
use Rattle.pg_table.proofs.Spared.{all_wanted}
use Rattle.pg_lemmas.proofs.Bools.{by_bool}
use Rattle.law_space.specs.PageSpace.{page_meaning}
use Rattle.law_space.proofs.Merely.{alike_columns, best_prop, equal, is_by, itself, step_is}

-- ---- any space

module _ {S M K : Type 0} (sp : Meaning S M K) (u : S) (spared : S → ℤ → Bool) (steps : List (Step S M))
    (same : (m n : M) → sp.order m n ≡ Equal → m ≡ n) (alike : (m : M) → sp.order m m ≡ Equal)
    (one : (m : M) (v w : S) (c d : ℤ) → sp.Follow u m v c → sp.Follow u m w d → (v ≡ w) × (c ≡ d))
    (thin : (m : M) (v : S) (c : ℤ) → IsProp (sp.Follow u m v c)) (t : ∥ AreWanted sp u spared steps ∥₁) where
  sound : (step : Step S M) → Contains steps step → sp.Follow u step.by step.to step.cost
  sound step at = ∥∥₁_elim t (thin step.by step.to step.cost) (λ a. a.sound step at)

  -- a move that is not spared is among the steps
  here : (m : M) (v : S) (c : ℤ) → sp.Follow u m v c → spared v c ≡ false →
      Contains steps (record { to = v; by = m; cost = c })
  here m v c f kept = by_bool (list_any (is_by sp m) steps) found lost
    where
      found : list_any (is_by sp m) steps ≡ true → Contains steps (record { to = v; by = m; cost = c })
      found h =
          let a = Any-from_list_any (is_by sp m) steps h in
          let step = a.1 in
          let at : Contains steps step = (a.0, a.2, a.3) in
          let e : step.by ≡ m = same step.by m (equal (sp.order step.by m) a.4) in
          let g : sp.Follow u m step.to step.cost =
          subst (λ (n : M). sp.Follow u n step.to step.cost) e (sound step at) in
          let d = one m step.to v step.cost c g f in
          subst (Contains steps) (step_is step m v c e d.0 d.1) at

      either : list_any (is_by sp m) steps ≡ false →
          Contains steps (record { to = v; by = m; cost = c }) ⊎ (spared v c ≡ true) → ⊥
      either n (inl w) =
          let h : list_any (is_by sp m) steps ≡ true = list_any-from_Any (is_by sp m) steps
          (w.0, record { to = v; by = m; cost = c }, w.1, w.2, itself (sp.order m m) (alike m)) in cc
      either n (inr h) = cc

      lost : list_any (is_by sp m) steps ≡ false → Contains steps (record { to = v; by = m; cost = c })
      lost n = absurd (∥∥₁_elim t (λ x y. absurd x) (λ a. either n (a.whole m v c f)))

  pub had : AreWanted sp u spared steps
  had = record {
    sound = sound;
    whole = λ m v c f. by_bool (spared v c) (λ h. inr h) (λ n. inl (here m v c f n));
    once = λ i j d lt in_end e. ∥∥₁_elim t (λ x y. absurd x) (λ a. a.once i j d lt in_end e);
  }

-- ---- pages

states_set : IsSet State
states_set = Coded-set state_row.the_row.coded

pub wanted_had : (doc : Document) (u : State) (spared : State → ℤ → Bool) (steps : List (Step State PageMove)) →
    ∥ AreWanted (page_meaning doc) u spared steps ∥₁ → AreWanted (page_meaning doc) u spared steps
wanted_had doc u spared steps t = had (page_meaning doc) u spared steps column_equal alike_columns
    (λ m v w c d f g. (f.follow.leads ∙ sym g.follow.leads, f.follow.pays ∙ sym g.follow.pays)) (best_prop doc u) t

-- where every column is wanted, all are made
pub all_made : {E : Type 0} (doc : Document) (u : State) (r : Result (Opened State PageMove) E) →
    IfOk r (λ it. AreWanted (page_meaning doc) u (λ v c. false) it.steps) →
    IfOk r (λ it. AreMoves (page_meaning doc) u it.steps)
all_made doc u (Ok it) h = all_wanted (page_meaning doc) u (λ v c. false) it.steps (λ v c e. absurd cc) h
all_made doc u (Err e) h = tt
