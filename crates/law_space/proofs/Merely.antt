-- What is merely known of the columns that follow a state is known.
use Rattle.std.proofs.Common.{◌≡◌, refl, sym, subst, ◌∙◌, ◌⊎◌, inl, inr, ℕ, List, Bool, true, false, ap, arith}
use Rattle.std.specs.Prelude.{ℤ, Contains, ◌<ℤ◌}
use Rattle.std.specs.List.{list_any}
use Rattle.std.specs.Coded.{Coded-set}
use Rattle.std.specs.Ordering.{is_eq, ordering_reverse}
use Rattle.std.specs.Cmp.{IsTotalOrder}
use Rattle.std.specs.declared.cmp.Ordering.{Ordering}
use Rattle.std.specs.declared.cmp.Ordering.TheVariants.{Equal, Greater, Less}
use Rattle.std.proofs.Props.{props}
use Rattle.std.proofs.Math.Logic.{∥∥₁_elim}
use Rattle.std.proofs.lemmas.Int.{ints}
use Rattle.std.proofs.lemmas.List.Folds.{Any-from_list_any, list_any-from_Any}
use Rattle.pg_plan.specs.contracts.states.State as state_row
use Rattle.pg_plan.specs.declared.pages.PageMove.{PageMove}
use Rattle.pg_plan.specs.declared.states.State.{State}
use Rattle.pg_plan.specs.Order.{column_cmp}
use Rattle.pg_plan.proofs.OrderLaws.{column_equal}
use Rattle.pg_rules.specs.BestPicks.{IsLeast}
use Rattle.pg_rules.specs.Follow.{Follow}
use Rattle.pg_rules.specs.Room.{ColumnContext, Document}
use Rattle.pg_table.specs.Space.{AreMoves, Meaning}
use Rattle.pg_table.specs.declared.step.Step.{Step}
use Rattle.pg_lemmas.proofs.Bools.{by_bool}
use Rattle.law_columns.proofs.Order.{columns_total}
use Rattle.law_space.specs.PageSpace.{FollowBest, page_meaning}

-- ---- any space

pub itself : (o : Ordering) → o ≡ Equal → is_eq o ≡ true
itself Equal e = refl
itself Less e = absurd cc
itself Greater e = absurd cc

pub equal : (o : Ordering) → is_eq o ≡ true → o ≡ Equal
equal Equal e = refl
equal Less e = absurd cc
equal Greater e = absurd cc

-- the step makes this move
abbrev pub is_by : {S M K : Type 0} → Meaning S M K → M → Step S M → Bool
is_by sp m step = is_eq (sp.order step.by m)

pub step_is : {S M : Type 0} (step : Step S M) (m : M) (v : S) (c : ℤ) → step.by ≡ m → step.to ≡ v → step.cost ≡ c →
    step ≡ record { to = v; by = m; cost = c }
step_is {S} {M} step m v c p q r =
    let e : step ≡ record { to = step.to; by = step.by; cost = step.cost } = refl in cc

module _ {S M K : Type 0} (sp : Meaning S M K) (u : S) (steps : List (Step S M))
    (same : (m n : M) → sp.order m n ≡ Equal → m ≡ n) (alike : (m : M) → sp.order m m ≡ Equal)
    (one : (m : M) (v w : S) (c d : ℤ) → sp.Follow u m v c → sp.Follow u m w d → (v ≡ w) × (c ≡ d))
    (thin : (m : M) (v : S) (c : ℤ) → IsProp (sp.Follow u m v c)) (t : ∥ AreMoves sp u steps ∥₁) where
  sound : (step : Step S M) → Contains steps step → sp.Follow u step.by step.to step.cost
  sound step at = ∥∥₁_elim t (thin step.by step.to step.cost) (λ a. a.sound step at)

  whole : (m : M) (v : S) (c : ℤ) → sp.Follow u m v c → Contains steps (record { to = v; by = m; cost = c })
  whole m v c f = by_bool (list_any (is_by sp m) steps) found lost
    where
      found : list_any (is_by sp m) steps ≡ true → Contains steps (record { to = v; by = m; cost = c })
      found h =
          let a = Any-from_list_any (is_by sp m) steps h in
          let step = a.1 in
          let at : Contains steps step = (a.0, a.2, a.3) in
          let e : step.by ≡ m = same step.by m (equal (sp.order step.by m) a.4) in
          let g : sp.Follow u m step.to step.cost =
          subst (λ (n : M). sp.Follow u n step.to step.cost) e (sound step at) in
          let d = one m step.to v step.cost c g f in
          subst (Contains steps) (step_is step m v c e d.0 d.1) at

      lost : list_any (is_by sp m) steps ≡ false → Contains steps (record { to = v; by = m; cost = c })
      lost n = absurd (∥∥₁_elim t (λ x y. absurd x) (λ a.
          (let w = a.whole m v c f in
          let h : list_any (is_by sp m) steps ≡ true = list_any-from_Any (is_by sp m) steps
          (w.0, record { to = v; by = m; cost = c }, w.1, w.2, itself (sp.order m m) (alike m)) in
          absurd cc)))

  pub had : AreMoves sp u steps
  had = record {
    sound = sound;
    whole = whole;
    once = λ i j d lt in_end e. ∥∥₁_elim t (λ x y. absurd x) (λ a. a.once i j d lt in_end e);
  }

-- ---- pages

pub either_prop : {P Q : Type 0} → IsProp P → IsProp Q → (P → Q → ⊥) → IsProp (P ⊎ Q)
either_prop p q apart (inl x) (inl y) = ap inl (p x y)
either_prop p q apart (inl x) (inr y) = absurd (apart x y)
either_prop p q apart (inr x) (inl y) = absurd (apart y x)
either_prop p q apart (inr x) (inr y) = ap inr (q x y)

pub not_less : (a b : ℤ) → a <ℤ b → a ≡ b → ⊥
not_less a b l e = omega (arith, ints)

states_set : IsSet State
states_set = Coded-set state_row.the_row.coded

pub cheaper_prop : (a b : ℤ) (c : Bool) → IsProp ((a <ℤ b) ⊎ ((a ≡ b) × (c ≡ false)))
cheaper_prop a b c = either_prop (hlevel props) (hlevel props) (λ l e. not_less a b l e.0)

pub least_prop : (it : ColumnContext) → IsProp (IsLeast it)
least_prop it = hlevel (props, cheaper_prop)

pub best_prop : (doc : Document) (u : State) (m : PageMove) (v : State) (c : ℤ) → IsProp (FollowBest doc u m v c)
best_prop doc u m v c = hlevel (props, states_set, least_prop)

pub alike_columns : (m : PageMove) → column_cmp m m ≡ Equal
alike_columns m = by (column_cmp m m) (columns_total.antisymm m m)
  where
    by : (o : Ordering) → o ≡ ordering_reverse o → o ≡ Equal
    by Less e = absurd cc
    by Equal e = refl
    by Greater e = absurd cc
