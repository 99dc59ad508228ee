-- The frontier covers every beginning, so it is closed.
use Rattle.std.proofs.Common.{◌≡◌, refl, sym, ap, subst, ◌∙◌, ◌⊎◌, inl, inr, ℕ, zero, suc, ◌<◌, List, [], ◌∷◌, length, true, false, arith}
use Rattle.std.specs.Prelude.{Contains, ℤ, pos, ◌+ℤ◌, ◌≤ℤ◌, ◌<ℤ◌, slice_index_or}
use Rattle.std.specs.Ordering.{int_cmp, is_gt, ordering_then}
use Rattle.std.specs.declared.cmp.Ordering.{Ordering}
use Rattle.std.specs.declared.cmp.Ordering.TheVariants.{Less, Equal, Greater}
use Rattle.std.proofs.lemmas.Cmp.{by_ranked, int_ranked}
use Rattle.std.proofs.lemmas.Int.{ints}
use Rattle.pg_list.specs.GalleyValue.{GalleyValue}
use Rattle.pg_plan.specs.declared.pages.PageMove.{PageMove}
use Rattle.pg_plan.specs.declared.pages.Pagination.{Pagination}
use Rattle.pg_plan.specs.declared.states.Label.{Label}
use Rattle.pg_plan.specs.declared.states.State.{State}
use Rattle.pg_plan.specs.Order.{columns, plan_cmp}
use Rattle.pg_style.specs.Values.{StyleValue}
use Rattle.pg_rules.specs.Best.{Best}
use Rattle.pg_rules.specs.Closed.{Closed, Covers}
use Rattle.pg_rules.specs.Cost.{cost}
use Rattle.pg_rules.specs.Follow.{Follow}
use Rattle.pg_rules.specs.Frontier.{Better, Frontier, IsLabel}
use Rattle.pg_rules.specs.IsState.{IsState}
use Rattle.pg_rules.specs.Legal.{Legal, document}
use Rattle.pg_rules.specs.NoWorse.{is_same_key, is_no_worse}
use Rattle.pg_rules.specs.States.{Prefix, state_at, state_of, is_done}
use Rattle.pg_lemmas.proofs.Bools.{by_bool, not_both}
use Rattle.pg_table.specs.Space.{Lawful}
use Rattle.pg_table.proofs.Runs.{own}
use Rattle.pg_rules.specs.Ranges.{AreInRange}
use Rattle.law_columns.proofs.Beginnings.{empty_beginning}
use Rattle.law_columns.specs.BeginningLaws.{IsPushed}
use Rattle.law_columns.specs.Pages.{plan_of}
use Rattle.law_columns.proofs.BeginningContracts.{facts, pushed, some, tells_apart}
use Rattle.pg_lemmas.proofs.Orders.{then_equal}
use Rattle.law_columns.proofs.Prefixes.{IsPlanOfColumns, columns_plan, done_is_legal, prefix_sound}
use Rattle.law_space.specs.PageSpace.{wide_meaning}
use Rattle.law_space.proofs.Bounds.{pages_lawful}
use Rattle.law_space.proofs.Solve.{prefix_run}
use Rattle.law_check.specs.Gaps.{NoneCheaper, NoneFinished}
use Rattle.law_check.specs.LabelLaws.{FrontierCloses, FrontierBounds, FrontierNone}
use Rattle.law_check.proofs.Order.{plan_order, plans_well}

-- ---- whether some label covers is decided

contains_head : (label : Label) (labels : List Label) → Contains (label ∷ labels) label
contains_head label labels = (0, omega arith, refl)

contains_tail : (x label : Label) (labels : List Label) → Contains labels label → Contains (x ∷ labels) label
contains_tail x label labels (k, within, is) = (suc k, omega arith, is)

abbrev does_cover : Label → State → ℤ → Type 0
does_cover label v c = (is_no_worse label.state v ≡ true) × (label.cost ≤ℤ c)

decide_one : (label : Label) (v : State) (c : ℤ) → does_cover label v c ⊎ (does_cover label v c → ⊥)
decide_one label v c = by_bool (is_no_worse label.state v)
    (λ t. by_ranked (label.cost <ℤ c) (label.cost ≡ c) (c <ℤ label.cost) (int_cmp label.cost c)
    (int_ranked label.cost c (int_cmp label.cost c) refl)
    (λ _ p. inl (t, omega (arith, ints))) (λ _ p. inl (t, omega (arith, ints)))
    (λ _ p. inr (λ k. let h : label.cost ≤ℤ c = k.1 in omega (arith, ints))))
    (λ f. inr (λ k. not_both (is_no_worse label.state v) k.0 f))

pub decide_covers : (labels : List Label) (v : State) (c : ℤ) → Covers labels v c ⊎ (Covers labels v c → ⊥)
decide_covers [] v c = inr (λ k. let h : k.listed.0 < 0 = k.listed.1 in omega arith)
decide_covers (x ∷ labels) v c = by (decide_one x v c) (decide_covers labels v c)
  where
    neither : (does_cover x v c → ⊥) → (Covers labels v c → ⊥) → (label : Label) (i : ℕ) → i < suc (length labels) →
        slice_index_or (x ∷ labels) i label ≡ label → is_no_worse label.state v ≡ true → label.cost ≤ℤ c → ⊥
    neither one rest label zero within is p q =
        one (subst (λ (y : Label). does_cover y v c) (sym is) (p, q))
    neither one rest label (suc i) within is p q =
        rest (record { label = label; listed = (i, omega arith, is); no_worse = p; no_dearer = q })

    by : does_cover x v c ⊎ (does_cover x v c → ⊥) → Covers labels v c ⊎ (Covers labels v c → ⊥) →
        Covers (x ∷ labels) v c ⊎ (Covers (x ∷ labels) v c → ⊥)
    by (inl d) m = inl (record { label = x; listed = contains_head x labels; no_worse = d.0; no_dearer = d.1 })
    by (inr n) (inl k) = inl (record {
      label = k.label;
      listed = contains_tail x k.label labels k.listed;
      no_worse = k.no_worse;
      no_dearer = k.no_dearer;
    })
    by (inr n) (inr m) =
        inr (λ k. neither n m k.label k.listed.0 k.listed.1 k.listed.2 k.no_worse k.no_dearer)

module _ (g : GalleyValue) (s : StyleValue) (range : AreInRange g s) where
  law : Lawful is_same_key (wide_meaning (document g s))
  law = pages_lawful g s range

  prefix_own : (plan : Pagination) → Prefix g s plan → IsState (document g s) (state_of g s plan)
  prefix_own plan p = own is_same_key (wide_meaning (document g s)) law (columns plan) (state_of g s plan)
      (cost g s plan) (prefix_run g s (facts g s range) (some g s range) plan p)

  module _ (labels : List Label) (frontier : Frontier g s labels) where
    abbrev Covered : Pagination → Type 0
    Covered plan = Covers labels (state_of g s plan) (cost g s plan)

    -- what covers the better covers the other
    chain : (a b : Pagination) → Prefix g s a → Prefix g s b → Better g s a b → Covered a → Covered b
    chain a b pa pb better k = record {
      label = k.label;
      listed = k.listed;
      no_worse = law.transitive k.label.state (state_of g s a) (state_of g s b) own_label (prefix_own a pa)
          (prefix_own b pb) k.no_worse better.state;
      no_dearer = cheap (cost g s a) (cost g s b) k.label.cost _ k.no_dearer better.cost;
    }
      where
        own_label : IsState (document g s) k.label.state
        own_label = let l : IsLabel g s k.label = (frontier.complete k.label).0 k.listed in
            subst (IsState (document g s)) l.state (prefix_own l.plan l.prefix)

        cheap : (x y z : ℤ) (b : Type 0) → z ≤ℤ x → (x <ℤ y) ⊎ ((x ≡ y) × b) → z ≤ℤ y
        cheap x y z b h (inl p) = omega (arith, ints)
        cheap x y z b h (inr p) = let e : x ≡ y = p.0 in omega (arith, ints)

    not_after : (k l : ℤ) (o : Ordering) (G : Type 0) → (k <ℤ l) ⊎ ((k ≡ l) × (is_gt o ≡ false)) →
        ordering_then (int_cmp k l) o ≡ Greater → G
    not_after k l o G (inl p) e = by_ranked (k <ℤ l) (k ≡ l) (l <ℤ k) (int_cmp k l)
        (int_ranked k l (int_cmp k l) refl) (λ i _. absurd (not_less (int_cmp k l) o i e))
        (λ _ q. absurd (omega (arith, ints))) (λ _ q. absurd (omega (arith, ints)))
      where
        not_less : (i o : Ordering) → i ≡ Less → ordering_then i o ≡ Greater → ⊥
        not_less Less o p q = absurd cc
        not_less Equal o p q = absurd cc
        not_less Greater o p q = absurd cc
    not_after k l o G (inr p) e = by_ranked (k <ℤ l) (k ≡ l) (l <ℤ k) (int_cmp k l)
        (int_ranked k l (int_cmp k l) refl) (λ i q. absurd (let z : k ≡ l = p.0 in omega (arith, ints)))
        (λ i _. absurd (not_equal (int_cmp k l) o i p.1 e))
        (λ _ q. absurd (let z : k ≡ l = p.0 in omega (arith, ints)))
      where
        not_equal : (i o : Ordering) → i ≡ Equal → is_gt o ≡ false → ordering_then i o ≡ Greater → ⊥
        not_equal Less o p q r = absurd cc
        not_equal Greater o p q r = absurd cc
        not_equal Equal Less p q r = absurd cc
        not_equal Equal Equal p q r = absurd cc
        not_equal Equal Greater p q r = absurd cc

    -- a beginning that no label covers is bettered by no other, where all before it are covered
    only : (plan : Pagination) → Prefix g s plan →
        ((other : Pagination) → Prefix g s other → plan_order g s range other plan ≡ Less → Covered other) →
        (Covered plan → ⊥) → (other : Pagination) → Prefix g s other → Better g s other plan → other ≡ plan
    only plan p before not other q better = by (plan_order g s range other plan) refl
      where
        by : (o : Ordering) → o ≡ plan_order g s range other plan → other ≡ plan
        by Less e = absurd (not (chain other plan q p better (before other q (sym e))))
        by Equal e =
            let t = then_equal (int_cmp (cost g s other) (cost g s plan)) (plan_cmp other plan) (sym e) in
            tells_apart s other plan (prefix_sound g s (facts g s range) (some g s range) other q).filled
            (prefix_sound g s (facts g s range) (some g s range) plan p).filled t.1
        by Greater e = not_after (cost g s other) (cost g s plan) (plan_cmp other plan) (other ≡ plan) better.cost
            (sym e)

    covered_next : (plan : Pagination) → Prefix g s plan →
        ((other : Pagination) → Prefix g s other → plan_order g s range other plan ≡ Less → Covered other) →
        Covered plan
    covered_next plan p before = by (decide_covers labels (state_of g s plan) (cost g s plan))
      where
        own_label : Label
        own_label = record { state = state_of g s plan; cost = cost g s plan }

        by : Covered plan ⊎ (Covered plan → ⊥) → Covered plan
        by (inl k) = k
        by (inr not) = absurd (not (record {
          label = own_label;
          listed = (frontier.complete own_label).1 (record {
            plan = plan;
            prefix = p;
            state = refl;
            cost = refl;
            unbettered = only plan p before not;
          });
          no_worse = law.reflexive (state_of g s plan) (prefix_own plan p);
          no_dearer = self (cost g s plan);
        }))
          where
            self : (x : ℤ) → x ≤ℤ x
            self x = omega (arith, ints)

    -- every beginning is covered
    pub frontier_covers : (plan : Pagination) → Prefix g s plan → Covered plan
    frontier_covers = plans_well g s range Covered (λ plan p before. covered_next plan p before)

    closed_steps : (label : Label) (m : PageMove) (v : State) (c : ℤ) → Contains labels label →
        Follow (document g s) label.state m v c → Covers labels v (label.cost +ℤ c)
    closed_steps label m v c listed follow =
        let l : IsLabel g s label = (frontier.complete label).0 listed in
        let p : IsPushed g s l.plan m v c = pushed g s range l.plan m v c l.prefix
        (subst (λ (u : State). Follow (document g s) u m v c) (sym l.state) follow) in
        subst (λ (z : ℤ). Covers labels v z) (p.cost ∙ ap (λ (z : ℤ). z +ℤ c) l.cost)
        (subst (λ (x : State). Covers labels x (cost g s p.longer)) p.state (frontier_covers p.longer p.prefix))

    start_covered : Covers labels (state_at (document g s) []) (pos 0)
    start_covered =
        let p : IsPlanOfColumns g s (facts g s range) (some g s range) [] =
        columns_plan g s (facts g s range) (some g s range) [] (empty_beginning (document g s) (facts g s range)) in
        subst (λ (z : ℤ). Covers labels (state_at (document g s) []) z) p.price
        (subst (λ (x : State). Covers labels x (cost g s (plan_of s []))) p.state
        (frontier_covers (plan_of s []) p.prefix))

    pub frontier_closed : Closed g s labels
    frontier_closed = record {
      states = λ label listed. (let l : IsLabel g s label = (frontier.complete label).0 listed in
          subst (IsState (document g s)) l.state (prefix_own l.plan l.prefix));
      start = start_covered;
      steps = closed_steps;
    }

    label_legal : (label : Label) → (listed : Contains labels label) → is_done (document g s) label.state ≡ true →
        Legal g s ((frontier.complete label).0 listed).plan
    label_legal label listed done =
        let l : IsLabel g s label = (frontier.complete label).0 listed in
        done_is_legal g s (facts g s range) (some g s range) l.plan l.prefix
        (subst (λ (u : State). is_done (document g s) u ≡ true) (sym l.state) done)

    pub best_cheapest : (plan : Pagination) → Best g s plan → NoneCheaper (document g s) labels (cost g s plan)
    best_cheapest plan best label listed done =
        let l : IsLabel g s label = (frontier.complete label).0 listed in
        subst (λ (z : ℤ). cost g s plan ≤ℤ z) l.cost (best.least l.plan (label_legal label listed done))

    pub none_finished : ((plan : Pagination) → Legal g s plan → ⊥) → NoneFinished (document g s) labels
    none_finished none label listed done =
        none ((frontier.complete label).0 listed).plan (label_legal label listed done)

  pub frontier_closes : FrontierCloses g s
  frontier_closes labels frontier = frontier_closed labels frontier

  pub frontier_bounds : FrontierBounds g s
  frontier_bounds labels plan frontier best = best_cheapest labels frontier plan best

  pub frontier_none : FrontierNone g s
  frontier_none labels frontier none = none_finished labels frontier none
