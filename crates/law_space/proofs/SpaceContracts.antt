-- The laws in the form of their contracts.
use Rattle.std.proofs.Common.{◌≡◌, refl, sym, ap, subst, ◌∙◌, ◌⊎◌, inl, inr, List, ◌∷◌, true, false, arith}
use Rattle.std.specs.Prelude.{Contains, ℤ, ◌+ℤ◌, ◌<ℤ◌, ◌≤ℤ◌}
use Rattle.std.specs.Ordering.{is_gt, ordering_then}
use Rattle.std.specs.Cmp.Lexicographic.{slice_cmp}
use Rattle.std.proofs.lemmas.Cmp.{tied_itself, by_ranked, int_ranked}
use Rattle.std.specs.Ordering.{int_cmp}
use Rattle.std.proofs.lemmas.Int.{ints}
use Rattle.pg_list.specs.GalleyValue.{GalleyValue}
use Rattle.pg_plan.specs.declared.pages.PageMove.{PageMove}
use Rattle.pg_plan.specs.declared.pages.Pagination.{Pagination}
use Rattle.pg_plan.specs.declared.states.Label.{Label}
use Rattle.pg_plan.specs.declared.states.State.{State}
use Rattle.pg_plan.specs.Order.{columns, column_cmp, plan_cmp}
use Rattle.pg_style.specs.Values.{StyleValue}
use Rattle.pg_rules.specs.Cost.{cost}
use Rattle.pg_rules.specs.Follow.{Follow, context_in}
use Rattle.pg_rules.specs.Room.{Document, is_text}
use Rattle.pg_rules.specs.IsState.{IsState}
use Rattle.law_columns.specs.FollowsToo.{FollowsToo}
use Rattle.law_columns.specs.BeginningLaws.{IsPushed}
use Rattle.pg_rules.specs.Ranges.{AreInRange}
use Rattle.law_columns.proofs.ColumnContracts.{no_worse_follow}
use Rattle.law_columns.proofs.BeginningContracts.{facts, pushed, some}
use Rattle.law_columns.proofs.Order.{columns_total}
use Rattle.law_columns.proofs.Prefixes.{plan_is}
use Rattle.law_space.specs.SpaceLaws.{BeginningsAreRuns, BestLabelsAreBest, BetterGoOn, RunsAreBeginnings, SortedLabelsAreFrontier, TellsAll, label_of}
use Rattle.law_space.specs.PageSpace.{FollowBest, page_meaning, wide_meaning}
use Rattle.law_space.proofs.Bounds.{pages_lawful}
use Rattle.law_space.proofs.FrontierLaws.{entry_label, label_entry, labels_rise}
use Rattle.law_space.proofs.Least.{best_narrower, instead_other, instead_text}
use Rattle.law_space.proofs.Solve.{IsPlanOfRun, prefix_run, run_plan, solve_best, solve_none, label_on, on_label, states_apart}
use Rattle.pg_rules.specs.Frontier.{IsLabel}
use Rattle.pg_rules.specs.Legal.{document}
use Rattle.pg_rules.specs.NoWorse.{is_same_key, is_no_worse}
use Rattle.pg_rules.specs.States.{Prefix, state_of}
use Rattle.pg_table.specs.Label.{RunOf, IsTable}
use Rattle.pg_table.specs.Narrower.{BetteredBy, Instead}
use Rattle.pg_table.specs.Space.{Lawful, Reached, IsRun}
use Rattle.pg_table.specs.declared.table.Entry.{Entry}
use Rattle.pg_table.proofs.Lists.{contains_at}
use Rattle.pg_table.proofs.Narrow.{narrow_lawful, bettered}
use Rattle.pg_table.proofs.Runs.{own}
use Rattle.pg_lemmas.proofs.Bools.{by_bool}
use Rattle.std.proofs.lemmas.Option.{same_Some}

-- best picks exist for each column that may follow
pub best_exist : (doc : Document) (u : State) (m : PageMove) (v : State) (c : ℤ) → Follow doc u m v c →
    Instead (wide_meaning doc) (FollowBest doc) u m v c
best_exist doc u m v c f = by_bool (is_text (context_in doc u m)) (λ t. instead_text doc u m v c f t)
    (λ n. instead_other doc u m v c f n)

module _ (g : GalleyValue) (s : StyleValue) (range : AreInRange g s) where
  pub best_lawful : Lawful is_same_key (page_meaning (document g s))
  best_lawful = narrow_lawful is_same_key (wide_meaning (document g s)) (pages_lawful g s range)
      (FollowBest (document g s)) (best_narrower (document g s))

  pub best_betters : (r : Reached State PageMove) → IsRun (wide_meaning (document g s)) r →
      BetteredBy (wide_meaning (document g s)) (FollowBest (document g s)) r
  best_betters r run = bettered is_same_key (wide_meaning (document g s)) (pages_lawful g s range)
      (FollowBest (document g s)) (best_narrower (document g s)) r.moves r.state r.cost run

  pub runs_are_beginnings : RunsAreBeginnings g s
  runs_are_beginnings ms v c run = let p : IsPlanOfRun g s (facts g s range) (some g s range) ms v c =
      run_plan g s (facts g s range) (some g s range) ms v c run in
      record { columns = p.columns_are; prefix = p.prefix; state = p.state; cost = p.price }

  pub beginnings_are_runs : BeginningsAreRuns g s
  beginnings_are_runs plan prefix =
      record {
        run = prefix_run g s (facts g s range) (some g s range) plan prefix;
        plan_is =
            plan_is g s (facts g s range) (some g s range) plan prefix;
      }

  -- ---- the better goes on

  prefix_own : (plan : Pagination) → Prefix g s plan → IsState (document g s) (state_of g s plan)
  prefix_own plan prefix = own is_same_key (wide_meaning (document g s)) (pages_lawful g s range)
      (columns plan) (state_of g s plan) (cost g s plan)
      (prefix_run g s (facts g s range) (some g s range) plan prefix)

  pub better_go_on : BetterGoOn g s
  better_go_on a b m v c pa pb better follow =
      let t : FollowsToo (document g s) (state_of g s a) m v c =
      no_worse_follow g s range (state_of g s a) (state_of g s b) m v c (prefix_own b pb) better.state
      follow in
      let l : IsPushed g s a m t.to t.cost = pushed g s range a m t.to t.cost pa t.follow in
      let r : IsPushed g s b m v c = pushed g s range b m v c pb follow in
      record {
        left = l.longer;
        right = r.longer;
        left_columns = l.columns;
        right_columns = r.columns;
        left_prefix = l.prefix;
        right_prefix = r.prefix;
        better = record {
          state = subst (λ (x : State). is_no_worse x (state_of g s r.longer) ≡ true) (sym l.state)
              (subst (λ (x : State). is_no_worse t.to x ≡ true) (sym r.state) t.no_worse);
          cost = dear (cost g s a) (cost g s b) t.cost c (cost g s l.longer) (cost g s r.longer) l.longer
              r.longer l.columns r.columns l.cost r.cost t.cheap better.cost;
        };
      }
    where
      then_equal_same : (ms ns : List PageMove) →
          slice_cmp column_cmp (m ∷ ms) (m ∷ ns) ≡ slice_cmp column_cmp ms ns
      then_equal_same ms ns = ap (λ o. ordering_then o (slice_cmp column_cmp ms ns))
          (tied_itself columns_total m)

      same_order : (p q : Pagination) → columns p ≡ m ∷ columns a → columns q ≡ m ∷ columns b →
          plan_cmp p q ≡ plan_cmp a b
      same_order p q e f = ap (λ ns. slice_cmp column_cmp ns (columns q)) e
          ∙ (ap (slice_cmp column_cmp (m ∷ columns a)) f ∙ then_equal_same (columns a) (columns b))

      split_le : (k l : ℤ) → k ≤ℤ l → (k <ℤ l) ⊎ (k ≡ l)
      split_le k l h = by_ranked (k <ℤ l) (k ≡ l) (l <ℤ k) (int_cmp k l) (int_ranked k l (int_cmp k l) refl)
          (λ _ p. inl p) (λ _ p. inr p) (λ _ p. absurd (omega (arith, ints)))

      dear : (x y j k d e : ℤ) (p q : Pagination) → columns p ≡ m ∷ columns a → columns q ≡ m ∷ columns b →
          d ≡ x +ℤ j → e ≡ y +ℤ k → j ≤ℤ k → (x <ℤ y) ⊎ ((x ≡ y) × (is_gt (plan_cmp a b) ≡ false)) →
          (d <ℤ e) ⊎ ((d ≡ e) × (is_gt (plan_cmp p q) ≡ false))
      dear x y j k d e p q cp cq h i l (inl u) = inl (omega (arith, ints))
      dear x y j k d e p q cp cq h i l (inr u) = elim (split_le j k l) [
        | inl w ↦ inl (let z : x ≡ y = u.0 in omega (arith, ints))
        | inr w ↦ inr (let z : x ≡ y = u.0 in omega (arith, ints), ap is_gt (same_order p q cp cq) ∙ u.1)
      ]

  -- ---- from a table

  module _ (es : List (Entry State PageMove)) (table : IsTable (page_meaning (document g s)) es) where
    best_labels : BestLabelsAreBest g s es
    best_labels i e ms b at of =
        let same : e ≡ b.entry = same_Some e b.entry (sym at ∙ b.is) in
        let of' : RunOf es b.entry ms = subst (λ (x : Entry State PageMove). RunOf es x ms) same of in
        let r = solve_best g s (facts g s range) (some g s range) (pages_lawful g s range)
        (best_narrower (document g s)) es table i b (contains_at es i b.entry b.is) ms of' in
        (r.0, r.1 ∙ ap (λ (x : Entry State PageMove). x.cost) (sym same))

    frontier : SortedLabelsAreFrontier g s es
    frontier labels p sorted = record {
      rises = labels_rise es labels (states_apart g s (facts g s range) (some g s range)
          (pages_lawful g s range) (best_narrower (document g s)) es table) p sorted;
      complete = λ label. (to label, back label);
    }
      where
        to : (label : Label) → Contains labels label → IsLabel g s label
        to label c = by (label_entry es labels label p c)
          where
            by : (e : Entry State PageMove) × (Contains es e × (label_of e ≡ label)) → IsLabel g s label
            by (e, (among, is)) = subst (IsLabel g s) is
                (label_on g s (facts g s range) (some g s range) (pages_lawful g s range)
                (best_narrower (document g s)) es table e among)

        back : (label : Label) → IsLabel g s label → Contains labels label
        back label l = by (on_label g s (facts g s range) (some g s range) (pages_lawful g s range)
            (best_narrower (document g s)) es table label l)
          where
            by : (e : Entry State PageMove)
                × (Contains es e × (record { state = e.state; cost = e.cost } ≡ label)) →
                Contains labels label
            by (e, (among, is)) = subst (Contains labels) is (entry_label es labels e p among)

    pub tells_all : TellsAll g s es
    tells_all = record {
      best = best_labels;
      none = solve_none g s (facts g s range) (some g s range) (pages_lawful g s range)
          (best_narrower (document g s)) es table;
      frontier = frontier;
    }
