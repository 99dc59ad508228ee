-- A narrower space betters each run of the wide one, and has its laws.
use Rattle.std.proofs.Common.{◌≡◌, ◌⊎◌, inl, inr, Bool, false, List, [], ◌∷◌, refl, sym, subst, arith}
use Rattle.std.specs.Prelude.{ℤ, ◌+ℤ◌, ◌≤ℤ◌, ◌<ℤ◌}
use Rattle.std.specs.Ordering.{is_gt, ordering_then}
use Rattle.std.specs.declared.cmp.Ordering.{Ordering}
use Rattle.std.specs.declared.cmp.Ordering.TheVariants.{Less, Equal, Greater}
use Rattle.std.specs.Cmp.Lexicographic.{slice_cmp}
use Rattle.std.proofs.lemmas.Int.{ints}
use Rattle.pg_table.specs.Space.{Meaning, Lawful, Run, Undercuts, Simulates}
use Rattle.pg_table.proofs.Runs.{own, better_itself, split_le}
use Rattle.pg_table.specs.Narrower.{narrowed, IsNarrower, Instead, BetteredBy}

then_not_gt : (o p : Ordering) → is_gt o ≡ false → is_gt p ≡ false → is_gt (ordering_then o p) ≡ false
then_not_gt Less p h k = refl
then_not_gt Equal p h k = k
then_not_gt Greater p h k = absurd cc

step : {M : Type 0} (order : M → M → Ordering) (d n l k i : ℤ) (m j : M) (rs ms : List M) →
    Undercuts order d rs n ms → l ≤ℤ k → (i <ℤ l) ⊎ ((i ≡ l) × (is_gt (order j m) ≡ false)) → Undercuts order
    (d +ℤ i) (j ∷ rs) (n +ℤ k) (m ∷ ms)
step order d n l k i m j rs ms (inl p) h (inl q) = inl (omega (arith, ints))
step order d n l k i m j rs ms (inl p) h (inr q) = inl (let e : i ≡ l = q.0 in omega (arith, ints))
step order d n l k i m j rs ms (inr p) h (inl q) = inl (let e : d ≡ n = p.0 in omega (arith, ints))
step {M} order d n l k i m j rs ms (inr p) h (inr q) = by (split_le l k h)
  where
    by : (l <ℤ k) ⊎ (l ≡ k) → Undercuts order (d +ℤ i) (j ∷ rs) (n +ℤ k) (m ∷ ms)
    by (inl s) = inl (let e : d ≡ n = p.0 in let f : i ≡ l = q.0 in omega (arith, ints))
    by (inr s) = inr (
      let e : d ≡ n = p.0 in let f : i ≡ l = q.0 in cc,
      then_not_gt (order j m)
          (slice_cmp order rs ms) q.1 p.1,
    )

module _ {S M K : Type 0} (eq : K → K → Bool) (big : Meaning S M K) (law : Lawful eq big) (Narrow : S → M →
    S → ℤ → Type 0) (narrow : IsNarrower big Narrow) where
  pub run_inside : (ms : List M) (v : S) (c : ℤ) → Run (narrowed big Narrow) ms v c → Run big ms v c
  run_inside [] v c r = r
  run_inside (m ∷ ms) v c (u, (n, k, (run, follow, sum))) = (
    u,
    (
      n,
      k,
      (
        run_inside ms u n run,
        narrow.inside u m v k follow,
        sum,
      ),
    ),
  )

  more : (m : M) (ms : List M) (u v : S) (n k : ℤ) → Run big ms u n → big.Follow u m v k →
      BetteredBy big Narrow (record { moves = ms; state = u; cost = n }) → BetteredBy big Narrow
      (record { moves = m ∷ ms; state = v; cost = n +ℤ k })
  more m ms u v n k run follow b =
      let a : S = b.reached.state in
      let oa : big.Own b.reached.state = own eq big law b.reached.moves b.reached.state b.reached.cost
      (run_inside b.reached.moves b.reached.state b.reached.cost b.run) in
      let s : Simulates big b.reached.state m v k = law.simulates b.reached.state u m v k oa
      (own eq big law ms u n run) b.better.no_worse follow in
      let i : Instead big Narrow b.reached.state m s.to s.cost =
      narrow.instead b.reached.state m s.to s.cost oa s.follow in
      record {
        reached = record { moves = i.move ∷ b.reached.moves; state = s.to; cost = b.reached.cost +ℤ i.cost };
        run = (b.reached.state, (b.reached.cost, i.cost, (b.run, i.follow, refl)));
        better = record {
          no_worse = s.no_worse;
          undercuts =
              step big.order b.reached.cost n s.cost k i.cost m i.move b.reached.moves ms b.better.undercuts s.cheap i.undercuts;
        };
      }

  -- each run is bettered by a narrow one
  pub bettered : (ms : List M) (v : S) (c : ℤ) → Run big ms v c → BetteredBy big Narrow (record {
    moves = ms;
    state = v;
    cost = c;
  })
  bettered [] v c (e, z) = record {
    reached = record { moves = []; state = v; cost = c };
    run = (e, z);
    better = better_itself eq big law (record { moves = []; state = v; cost = c }) (e, z);
  }
  bettered (m ∷ ms) v c (u, (n, k, (run, follow, sum))) = subst (λ (x : ℤ). BetteredBy big Narrow
      (record { moves = m ∷ ms; state = v; cost = x })) (sym sum) (more m ms u v n k run follow
      (bettered ms u n run))

  pub narrow_lawful : Lawful eq (narrowed big Narrow)
  narrow_lawful = record {
    own_start = law.own_start;
    own_next = λ u m v c o f. law.own_next u m v c o (narrow.inside u m v c f);
    determined = λ u m v w c d f g. law.determined u m v w c d (narrow.inside u m v c f)
        (narrow.inside u m w d g);
    rises = λ u m v c o f. law.rises u m v c o (narrow.inside u m v c f);
    rank_fits = law.rank_fits;
    reflexive = law.reflexive;
    transitive = law.transitive;
    one_key = law.one_key;
    one_rank = law.one_rank;
    one_block = law.one_block;
    simulates = λ u v m w c ou ov p f.
        (let s : Simulates big u m w c = law.simulates u v m w c ou ov p (narrow.inside v m w c f) in
        record {
          to = s.to;
          cost = s.cost;
          follow = narrow.same u v m w s.to c s.cost ou ov p f s.follow;
          cheap = s.cheap;
          no_worse = s.no_worse;
        });
    done = law.done;
    order_equal = law.order_equal;
    order_total = law.order_total;
    onward = λ u m v c o f. law.onward u m v c o (narrow.inside u m v c f);
    reach_own = law.reach_own;
    reach_next = λ u m v c o f. law.reach_next u m v c o (narrow.inside u m v c f);
    small_move = λ u m v c o f. law.small_move u m v c o (narrow.inside u m v c f);
    small_run = λ ms u c r. law.small_run ms u c (run_inside ms u c r);
    few_moves = λ ms u c r. law.few_moves ms u c (run_inside ms u c r);
  }
