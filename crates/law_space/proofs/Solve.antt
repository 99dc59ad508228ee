-- The best pagination, none, and the frontier, from a table of pages.
use Rattle.std.proofs.Common.{◌≡◌, sym, ap, subst, ◌∙◌, ℕ, ◌≤◌, inl, inr, List, true, false, arith}
use Rattle.std.specs.Prelude.{◌≢◌, ℤ, ◌≤ℤ◌, AllPairs, Contains}
use Rattle.std.specs.Ordering.{is_gt, ordering_reverse}
use Rattle.std.specs.declared.cmp.Ordering.{Ordering}
use Rattle.std.specs.declared.cmp.Ordering.TheVariants.{Less, Equal, Greater}
use Rattle.std.specs.Cmp.Lexicographic.{slice_cmp}
use Rattle.std.proofs.lemmas.Cmp.{lists_total}
use Rattle.std.proofs.lemmas.Int.{ints}
use Rattle.pg_list.specs.GalleyValue.{GalleyValue}
use Rattle.pg_plan.specs.declared.pages.PageMove.{PageMove}
use Rattle.pg_plan.specs.Order.{columns, column_cmp, plan_cmp}
use Rattle.pg_plan.specs.declared.pages.Pagination.{Pagination}
use Rattle.pg_plan.specs.declared.states.State.{State}
use Rattle.pg_plan.specs.declared.states.Label.{Label}
use Rattle.pg_style.specs.Values.{StyleValue}
use Rattle.pg_rules.specs.Best.{Best}
use Rattle.pg_rules.specs.Cost.{cost}
use Rattle.pg_rules.specs.Frontier.{Better, IsLabel}
use Rattle.pg_rules.specs.Legal.{Legal, document}
use Rattle.pg_rules.specs.NoWorse.{is_same_key}
use Rattle.pg_rules.specs.States.{Prefix, state_of, is_done}
use Rattle.pg_table.specs.Space.{Lawful, Reached, Run, IsRun, Undercuts}
use Rattle.pg_table.specs.Space.{Better as BetterRun}
use Rattle.pg_table.specs.Label.{Apart, RunOf, reached, IsTable, IsBestOf, NoneDone}
use Rattle.pg_table.proofs.Lists.{pairs_weaker}
use Rattle.pg_table.proofs.Narrow.{narrow_lawful}
use Rattle.pg_table.proofs.Runs.{better_itself}
use Rattle.pg_table.specs.Label.{IsLabel as IsTableLabel}
use Rattle.pg_table.specs.declared.table.Entry.{Entry}
use Rattle.pg_table.proofs.Labels.{label_run}
use Rattle.pg_table.specs.Narrower.{IsNarrower}
use Rattle.pg_table.proofs.Narrow.{run_inside}
use Rattle.pg_table.proofs.Top.{best_wide, label_unbettered, labels_differ, none_wide, unbettered_label}
use Rattle.law_columns.specs.Pages.{plan_of}
use Rattle.law_columns.proofs.Beginnings.{Facts}
use Rattle.law_columns.proofs.Prefixes.{IsPlanOfColumns, columns_begin, columns_plan, done_is_legal, legal_done, legal_prefix, plan_is}
use Rattle.law_space.specs.PageSpace.{FollowBest, page_meaning, wide_meaning}
use Rattle.law_space.proofs.Runs.{IsRunOf, beginning_of_run, run_of_beginning}

-- ---- paginations and runs

module _ (g : GalleyValue) (s : StyleValue) (facts : Facts (document g s)) (some : 1 ≤ s.columns) where
  abbrev reached_by : Pagination → Reached State PageMove
  reached_by plan = record { moves = columns plan; state = state_of g s plan; cost = cost g s plan }

  pub prefix_run : (plan : Pagination) → Prefix g s plan → IsRun (wide_meaning (document g s)) (reached_by plan)
  unfolding state_of cost
  prefix_run plan p = run_of_beginning (document g s) facts (columns plan) (columns_begin g s facts some plan p)

  -- the pagination of a run
  pub record IsPlanOfRun (ms : List PageMove) (v : State) (c : ℤ) : Type 0 where
    pub columns_are : columns (plan_of s ms) ≡ ms
    pub prefix : Prefix g s (plan_of s ms)
    pub state : state_of g s (plan_of s ms) ≡ v
    pub price : cost g s (plan_of s ms) ≡ c

  pub run_plan : (ms : List PageMove) (v : State) (c : ℤ) → Run (wide_meaning (document g s)) ms v c →
      IsPlanOfRun ms v c
  run_plan ms v c run =
      let b : IsRunOf (document g s) ms v c = beginning_of_run (document g s) facts ms v c run in
      let p : IsPlanOfColumns g s facts some ms = columns_plan g s facts some ms b.beginning in
      record {
        columns_are = p.columns_are;
        prefix = p.prefix;
        state = p.state ∙ sym b.state;
        price =
            p.price ∙ sym b.cost;
      }

  -- a run that ends done is a legal pagination
  pub done_legal : (ms : List PageMove) (v : State) (c : ℤ) → Run (wide_meaning (document g s)) ms v c →
      is_done (document g s) v ≡ true → Legal g s (plan_of s ms)
  done_legal ms v c run done =
      let r : IsPlanOfRun ms v c = run_plan ms v c run in
      done_is_legal g s facts some (plan_of s ms) r.prefix
      (subst (λ (u : State). is_done (document g s) u ≡ true) (sym r.state) done)

  -- ---- from a table

  module _ (law : Lawful is_same_key (wide_meaning (document g s)))
      (narrow : IsNarrower (wide_meaning (document g s)) (FollowBest (document g s)))
      (es : List (Entry State PageMove)) (table : IsTable (page_meaning (document g s)) es) where
    entry_run : (e : Entry State PageMove) (ms : List PageMove) → Contains es e → RunOf es e ms →
        Run (wide_meaning (document g s)) ms e.state e.cost
    entry_run e ms among of = run_inside is_same_key (wide_meaning (document g s)) law
        (FollowBest (document g s)) narrow ms e.state e.cost
        (label_run (page_meaning (document g s)) es e ms (table.labels e among) of)

    not_less : (o p : Ordering) → o ≡ ordering_reverse p → is_gt p ≡ false → o ≢ Less
    not_less o Less e h l = absurd cc
    not_less o Equal e h l = absurd cc
    not_less o Greater e h l = absurd cc

    cheap : (c d : ℤ) (ms ns : List PageMove) → Undercuts column_cmp c ms d ns → c ≤ℤ d
    cheap c d ms ns (inl p) = omega (arith, ints)
    cheap c d ms ns (inr p) = let e : c ≡ d = p.0 in omega (arith, ints)

    early : (c d : ℤ) (ms ns : List PageMove) → Undercuts column_cmp c ms d ns → d ≡ c →
        is_gt (slice_cmp column_cmp ms ns) ≡ false
    early c d ms ns (inl p) e = absurd (omega (arith, ints))
    early c d ms ns (inr p) e = p.1

    -- the best label's pagination is best, at the label's cost
    pub solve_best : (i : ℕ) (b : IsBestOf (page_meaning (document g s)) es es i) → Contains es b.entry →
        (ms : List PageMove) → RunOf es b.entry ms →
        Best g s (plan_of s ms) × (cost g s (plan_of s ms) ≡ b.entry.cost)
    solve_best i b among ms of =
        let run : Run (wide_meaning (document g s)) ms b.entry.state b.entry.cost =
        entry_run b.entry ms among of in
        let r : IsPlanOfRun ms b.entry.state b.entry.cost = run_plan ms b.entry.state b.entry.cost run in
        let under : (other : Pagination) → Legal g s other →
        Undercuts column_cmp b.entry.cost ms (cost g s other) (columns other) =
        (λ (other : Pagination) (l : Legal g s other). best_wide is_same_key (wide_meaning (document g s))
        law (FollowBest (document g s)) narrow es table i b (reached_by other)
        (prefix_run other (legal_prefix g s facts some other l)) (legal_done g s facts some other l) ms
        of) in (
          record {
            legal = done_legal ms b.entry.state b.entry.cost run b.done;
            least = λ other l. (let k : b.entry.cost ≤ℤ cost g s other =
                cheap b.entry.cost (cost g s other) ms (columns other) (under other l) in
                subst (λ (z : ℤ). z ≤ℤ cost g s other) (sym r.price) k);
            first = λ other l e. not_less (plan_cmp other (plan_of s ms)) (plan_cmp (plan_of s ms) other)
                ((lists_total law.order_total).antisymm (columns other) (columns (plan_of s ms)))
                (subst (λ (ns : List PageMove). is_gt (slice_cmp column_cmp ns (columns other)) ≡ false)
                (sym r.columns_are) (early b.entry.cost (cost g s other) ms (columns other)
                (under other l) (e ∙ r.price)));
          },
          r.price,
        )

    -- with no done label no pagination is legal
    pub solve_none : NoneDone (page_meaning (document g s)) es → (plan : Pagination) → Legal g s plan → ⊥
    solve_none n plan l = none_wide is_same_key (wide_meaning (document g s)) law (FollowBest (document g s))
        narrow es table n (reached_by plan) (prefix_run plan (legal_prefix g s facts some plan l))
        (legal_done g s facts some plan l)

    better_run : (a b : Pagination) → Better g s a b →
        BetterRun (wide_meaning (document g s)) (reached_by a) (reached_by b)
    better_run a b p = record { no_worse = p.state; undercuts = p.cost }

    -- the state and cost of a label are on the frontier
    pub label_on : (e : Entry State PageMove) → Contains es e →
        IsLabel g s (record { state = e.state; cost = e.cost })
    label_on e among =
        let l : IsTableLabel (page_meaning (document g s)) es e = table.labels e among in
        let r : IsPlanOfRun l.moves e.state e.cost =
        run_plan l.moves e.state e.cost (entry_run e l.moves among l.run_of) in
        let same : reached_by (plan_of s l.moves) ≡ reached e l.moves =
        same_reached _ _ _ _ _ _ r.columns_are r.state r.price in
        record {
          plan = plan_of s l.moves;
          prefix = r.prefix;
          state = r.state;
          cost = r.price;
          unbettered = λ other p better.
              (let is : reached_by other ≡ reached e l.moves =
              label_unbettered is_same_key (wide_meaning (document g s)) law (FollowBest (document g s))
              narrow es table e l.moves (reached_by other) among l.run_of (prefix_run other p)
              (subst (λ (x : Reached State PageMove). BetterRun (wide_meaning (document g s))
              (reached_by other) x) same (better_run other (plan_of s l.moves) better)) in
              sym (plan_is g s facts some other p) ∙ ap (λ (x : Reached State PageMove). plan_of s x.moves) is);
        }
      where
        same_reached : (ms ns : List PageMove) (u v : State) (c d : ℤ) → ms ≡ ns → u ≡ v → c ≡ d →
            ◌≡◌ {A = Reached State PageMove} (record { moves = ms; state = u; cost = c })
            (record { moves = ns; state = v; cost = d })
        same_reached ms ns u v c d p q r = cc

    -- what is on the frontier is a label's
    pub on_label : (label : Label) → IsLabel g s label →
        (e : Entry State PageMove) × (Contains es e × (record { state = e.state; cost = e.cost } ≡ label))
    on_label label l =
        step (unbettered_label is_same_key (wide_meaning (document g s)) law (FollowBest (document g s))
        narrow es table (reached_by l.plan) (prefix_run l.plan l.prefix)
        (λ q run better.
        (let r : IsPlanOfRun q.moves q.state q.cost = run_plan q.moves q.state q.cost run in
        let same : q ≡ reached_by (plan_of s q.moves) =
        same_reached q.moves (columns (plan_of s q.moves)) q.state (state_of g s (plan_of s q.moves))
        q.cost (cost g s (plan_of s q.moves)) (sym r.columns_are) (sym r.state) (sym r.price) in
        let is : plan_of s q.moves ≡ l.plan =
        l.unbettered (plan_of s q.moves) r.prefix (back q (plan_of s q.moves) l.plan same better) in
        same ∙ ap reached_by is)))
      where
        same_reached : (ms ns : List PageMove) (u v : State) (c d : ℤ) → ms ≡ ns → u ≡ v → c ≡ d →
            ◌≡◌ {A = Reached State PageMove} (record { moves = ms; state = u; cost = c })
            (record { moves = ns; state = v; cost = d })
        same_reached ms ns u v c d p q r = cc

        back : (q : Reached State PageMove) (a b : Pagination) → q ≡ reached_by a →
            BetterRun (wide_meaning (document g s)) q (reached_by b) → Better g s a b
        back q a b e better = let p : BetterRun (wide_meaning (document g s)) (reached_by a) (reached_by b) =
            subst (λ (x : Reached State PageMove). BetterRun (wide_meaning (document g s)) x (reached_by b)) e
            better in record { state = p.no_worse; cost = p.undercuts }

        label_is : (e : Entry State PageMove) (ms : List PageMove) (label : Label) → e.state ≡ label.state →
            e.cost ≡ label.cost → ◌≡◌ {A = Label} (record { state = e.state; cost = e.cost }) label
        label_is e ms label p q = make e.state label.state e.cost label.cost p q
          where
            make : (u v : State) (c d : ℤ) → u ≡ v → c ≡ d →
                ◌≡◌ {A = Label} (record { state = u; cost = c }) (record { state = v; cost = d })
            make u v c d p q = cc

        step : (e : Entry State PageMove)
            × ((ms : List PageMove) × (Contains es e × RunOf es e ms × (reached e ms ≡ reached_by l.plan))) →
            (e : Entry State PageMove) × (Contains es e × (record { state = e.state; cost = e.cost } ≡ label))
        step (e, (ms, (a, of, is))) = (
          e,
          (
            a,
            label_is e ms label (ap (λ (x : Reached State PageMove). x.state) is ∙ l.state)
                (ap (λ (x : Reached State PageMove). x.cost) is ∙ l.cost),
          ),
        )

    -- two labels on the frontier have two states
    pub states_differ : (e f : Entry State PageMove) → Contains es e → Contains es f → e.state ≡ f.state → e ≡ f
    states_differ e f a b same = labels_differ is_same_key (wide_meaning (document g s)) law
        (FollowBest (document g s)) narrow es table e f a b same

    -- no two labels have one state
    pub states_apart : AllPairs (λ a b. a.state ≡ b.state → ⊥) es
    states_apart = pairs_weaker (Apart (page_meaning (document g s)) es) (λ a b. a.state ≡ b.state →
        ⊥) es no_pair table.apart
      where
        no_pair : (a b : Entry State PageMove) → Contains es a → Contains es b →
            Apart (page_meaning (document g s)) es a b → a.state ≡ b.state → ⊥
        no_pair a b ca cb apart same =
            let e : a ≡ b = states_differ a b ca cb same in
            let l : IsTableLabel (page_meaning (document g s)) es a = table.labels a ca in
            apart.left l.moves l.moves l.run_of
            (subst (λ (x : Entry State PageMove). RunOf es x l.moves) e l.run_of)
            (subst (λ (x : Entry State PageMove). BetterRun (page_meaning (document g s)) (reached a l.moves)
            (reached x l.moves)) e (better_itself is_same_key (page_meaning (document g s))
            (narrow_lawful is_same_key (wide_meaning (document g s)) law (FollowBest (document g s))
            narrow) (reached a l.moves) l.run))
