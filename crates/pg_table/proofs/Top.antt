-- What a table of a narrower space says of all runs of the wide one.
use Rattle.std.proofs.Common.{◌≡◌, ℕ, Bool, true, List, subst}
use Rattle.std.specs.Prelude.{ℤ, Contains}
use Rattle.pg_table.specs.Space.{Meaning, Lawful, Reached, IsRun, Better, Undercuts}
use Rattle.pg_table.specs.Label.{RunOf, reached, IsLabel, Covered, Apart, IsTable, IsBestOf, NoneDone}
use Rattle.pg_table.specs.declared.table.Entry.{Entry}
use Rattle.pg_table.proofs.Labels.{label_run}
use Rattle.pg_table.proofs.Lists.{pairs_apart}
use Rattle.pg_table.proofs.Runs.{own, better_chain, better_same, undercuts_chain, undercuts_total}
use Rattle.pg_table.proofs.BestLemmas.{best_of_runs, none_of_runs}
use Rattle.pg_table.specs.Narrower.{narrowed, IsNarrower, BetteredBy}
use Rattle.pg_table.proofs.Narrow.{run_inside, bettered, narrow_lawful}

module _ {S M K : Type 0} (eq : K → K → Bool) (big : Meaning S M K) (law : Lawful eq big) (Narrow : S → M →
    S → ℤ → Type 0) (narrow : IsNarrower big Narrow) (es : List (Entry S M))
    (table : IsTable (narrowed big Narrow) es) where
  -- the best label's run undercuts every run that ends done
  pub best_wide : (i : ℕ) (b : IsBestOf (narrowed big Narrow) es es i) (r : Reached S M) → IsRun big r →
      big.is_done r.state ≡ true → (ms : List M) → RunOf es b.entry ms →
      Undercuts big.order b.entry.cost ms r.cost r.moves
  best_wide i b r run done ms of =
      let k : BetteredBy big Narrow r = bettered eq big law Narrow narrow r.moves r.state r.cost run in
      let rk : IsRun big k.reached =
      run_inside eq big law Narrow narrow k.reached.moves k.reached.state k.reached.cost k.run in
      let done_k : big.is_done k.reached.state ≡ true = law.done k.reached.state r.state
      (own eq big law k.reached.moves k.reached.state k.reached.cost rk)
      (own eq big law r.moves r.state r.cost run) k.better.no_worse done in
      undercuts_chain big.order law.order_total b.entry.cost k.reached.cost r.cost ms k.reached.moves r.moves
      (best_of_runs eq (narrowed big Narrow)
      (narrow_lawful eq big law Narrow narrow) es table i b k.reached k.run done_k ms of) k.better.undercuts

  -- with no done label no run ends done
  pub none_wide : NoneDone (narrowed big Narrow) es → (r : Reached S M) → IsRun big r →
      big.is_done r.state ≡ true → ⊥
  none_wide n r run done =
      let k : BetteredBy big Narrow r = bettered eq big law Narrow narrow r.moves r.state r.cost run in
      let rk : IsRun big k.reached =
      run_inside eq big law Narrow narrow k.reached.moves k.reached.state k.reached.cost k.run in
      let done_k : big.is_done k.reached.state ≡ true = law.done k.reached.state r.state
      (own eq big law k.reached.moves k.reached.state k.reached.cost rk)
      (own eq big law r.moves r.state r.cost run) k.better.no_worse done in
      none_of_runs eq (narrowed big Narrow)
      (narrow_lawful eq big law Narrow narrow) es table n k.reached k.run done_k

  label_wide : (e : Entry S M) (ms : List M) → Contains es e → RunOf es e ms → IsRun (narrowed big Narrow)
      (reached e ms)
  label_wide e ms among of = label_run (narrowed big Narrow) es e ms (table.labels e among) of

  -- no run of the wide space betters a label
  pub label_unbettered : (e : Entry S M) (ms : List M) (r : Reached S M) → Contains es e → RunOf es e ms →
      IsRun big r → Better big r (reached e ms) → r ≡ reached e ms
  label_unbettered e ms r among of run better =
      let k : BetteredBy big Narrow r = bettered eq big law Narrow narrow r.moves r.state r.cost run in
      let rk : IsRun big k.reached =
      run_inside eq big law Narrow narrow k.reached.moves k.reached.state k.reached.cost k.run in
      let re : IsRun big (reached e ms) = run_inside eq big law Narrow narrow ms e.state e.cost
      (label_wide e ms among of) in
      let over : Better big k.reached (reached e ms) = better_chain eq big law k.reached r
      (reached e ms) rk run re k.better better in
      let same : k.reached ≡ reached e ms = table.least e ms k.reached among of k.run
      (record { no_worse = over.no_worse; undercuts = over.undercuts }) in
      better_same eq big law r (reached e ms) run re better (subst (λ (x : Reached S M).
      Better big x r) same k.better)

  -- a run that no other betters is a label's
  pub unbettered_label : (r : Reached S M) → IsRun big r → ((q : Reached S M) → IsRun big q → Better big q r →
      q ≡ r) → (e : Entry S M) × ((ms : List M) × (Contains es e × RunOf es e ms × (reached e ms ≡ r)))
  unbettered_label r run only =
      let k : BetteredBy big Narrow r = bettered eq big law Narrow narrow r.moves r.state r.cost run in
      let rk : IsRun big k.reached =
      run_inside eq big law Narrow narrow k.reached.moves k.reached.state k.reached.cost k.run in
      let t : Covered (narrowed big Narrow) es k.reached = table.covered k.reached k.run in
      let rt : IsRun big (reached t.entry t.moves) =
      run_inside eq big law Narrow narrow t.moves t.entry.state t.entry.cost
      (label_wide t.entry t.moves t.among t.run_of) in
      let over : Better big (reached t.entry t.moves) r = better_chain eq big law
      (reached t.entry t.moves) k.reached r rt rk run (record {
        no_worse = t.better.no_worse;
        undercuts =
            t.better.undercuts;
      }) k.better in
      (t.entry, (t.moves, (t.among, t.run_of, only (reached t.entry t.moves) rt over)))

  -- two labels have two states
  pub labels_differ : (e f : Entry S M) → Contains es e → Contains es f → e.state ≡ f.state → e ≡ f
  labels_differ e f ae af same =
      let le : IsLabel (narrowed big Narrow) es e = table.labels e ae in
      let lf : IsLabel (narrowed big Narrow) es f = table.labels f af in
      let oe : big.Own e.state = own eq big law le.moves e.state e.cost
      (run_inside eq big law Narrow narrow le.moves e.state e.cost le.run) in
      let here : big.no_worse e.state f.state ≡ true = subst (λ (x : S). big.no_worse e.state x ≡ true) same
      (law.reflexive e.state oe) in
      let back : big.no_worse f.state e.state ≡ true = subst (λ (x : S). big.no_worse x e.state ≡ true) same
      (law.reflexive e.state oe) in
      pairs_apart (Apart (narrowed big Narrow) es) es e f table.apart ae af
      (λ p. p.right le.moves lf.moves le.run_of lf.run_of (record {
        no_worse = back;
        undercuts =
            undercuts_total big.order law.order_total e.cost f.cost le.moves lf.moves
            (λ u. p.left le.moves lf.moves le.run_of lf.run_of (record { no_worse = here; undercuts = u }));
      }))
      (λ p. p.right lf.moves le.moves lf.run_of le.run_of (record {
        no_worse = here;
        undercuts =
            undercuts_total big.order law.order_total f.cost e.cost lf.moves le.moves
            (λ u. p.left lf.moves le.moves lf.run_of le.run_of (record { no_worse = back; undercuts = u }));
      }))
