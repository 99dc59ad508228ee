-- The laws of the space of pages, but for those on places.
use Rattle.std.proofs.Common.{◌≡◌, sym, ap, subst, ◌∙◌, ℕ, ◌+◌, ◌*◌, ◌^◌, ◌≤◌, ◌<◌, List, [], ◌∷◌, length, true, arith}
use Rattle.std.specs.Prelude.{ℤ, ◌+ℤ◌, nat_abs}
use Rattle.std.proofs.lemmas.Int.{ints}
use Rattle.pg_plan.specs.declared.pages.PageMove.{PageMove}
use Rattle.pg_plan.specs.declared.states.State.{State}
use Rattle.pg_rules.specs.Follow.{Follow}
use Rattle.pg_plan.specs.declared.states.PageKey.{PageKey}
use Rattle.pg_rules.specs.NoWorse.{key, is_same_key, is_no_worse, are_no_older}
use Rattle.pg_rules.specs.Room.{Document}
use Rattle.pg_rules.specs.States.{state_at, is_done}
use Rattle.pg_table.specs.Space.{Lawful, Run, Small}
use Rattle.pg_rules.specs.IsState.{IsState}
use Rattle.law_columns.specs.FollowsToo.{FollowsToo}
use Rattle.law_columns.proofs.Order.{columns_total}
use Rattle.law_columns.proofs.Simulation.{Tables, key_refl, key_same, no_older_chain, no_older_refl, simulates, with_ages}
use Rattle.law_space.specs.ReachAt.{reach_at}
use Rattle.law_space.specs.PageSpace.{rank, wide_meaning}
use Rattle.pg_lemmas.proofs.Bools.{both_of, both}
use Rattle.pg_plan.proofs.OrderLaws.{column_equal}

-- what is left to show of places and columns
pub record Moves (doc : Document) : Type 0 where
  pub start : IsState doc (state_at doc [])
  pub own : (u : State) (m : PageMove) (v : State) (c : ℤ) → IsState doc u → Follow doc u m v c → IsState doc v
  pub rises : (u : State) (m : PageMove) (v : State) (c : ℤ) → IsState doc u → Follow doc u m v c →
      rank doc u < rank doc v
  pub onward : (u : State) (m : PageMove) (v : State) (c : ℤ) → IsState doc u → Follow doc u m v c →
      u.place.block ≤ v.place.block
  pub reach_own : (u : State) → IsState doc u → u.place.block + 1 ≤ reach_at doc u.place
  pub reach_next : (u : State) (m : PageMove) (v : State) (c : ℤ) → IsState doc u → Follow doc u m v c →
      v.place.block + 1 ≤ reach_at doc u.place
  pub low : (u : State) → IsState doc u → rank doc u < 2 ^ 64
  -- a measure that each move raises, by so much at least for what it costs
  pub weight : State → ℕ
  pub light : (u : State) → IsState doc u → weight u < 2 ^ 30
  pub heavier : (u : State) (m : PageMove) (v : State) (c : ℤ) → IsState doc u → Follow doc u m v c →
      weight u < weight v
  pub cheap : (u : State) (m : PageMove) (v : State) (c : ℤ) → IsState doc u → Follow doc u m v c →
      nat_abs c + 1000000000 * weight u ≤ 1000000000 * weight v

module _ (doc : Document) (tables : Tables doc) (moves : Moves doc) where
  keys_same : (u v : State) → is_no_worse u v ≡ true → key u ≡ key v
  keys_same u v p = key_same (key u) (key v)
      (both_of (is_same_key (key u) (key v)) (are_no_older u.ages v.ages) p).0

  own_run : (ms : List PageMove) (u : State) (c : ℤ) → Run (wide_meaning doc) ms u c → IsState doc u
  own_run [] u c (e, z) = subst (IsState doc) (sym e) moves.start
  own_run (m ∷ ms) v c (u, (n, k, (run, step, sum))) = moves.own u m v k (own_run ms u n run) step

  chain : (u v x : State) → is_no_worse u v ≡ true → is_no_worse v x ≡ true → is_no_worse u x ≡ true
  chain u v x p q =
      let s = both_of (is_same_key (key u) (key v)) (are_no_older u.ages v.ages) p in
      let t = both_of (is_same_key (key v) (key x)) (are_no_older v.ages x.ages) q in
      let e : key u ≡ key x = key_same (key u) (key v) s.0 ∙ key_same (key v) (key x) t.0 in
      both (is_same_key (key u) (key x)) (are_no_older u.ages x.ages)
      (subst (λ (k : PageKey). is_same_key (key u) k ≡ true) e (key_refl (key u)))
      (no_older_chain u.ages v.ages x.ages s.1 t.1)

  rank_key : (u v : State) → key u ≡ key v → rank doc u ≡ rank doc v
  rank_key u v e = ap (λ (k : PageKey). rank doc (with_ages k [])) e

  -- a run costs at most so much for each step of its weight, and has fewer moves than its weight
  bounded : (ms : List PageMove) (u : State) (c : ℤ) → Run (wide_meaning doc) ms u c →
      (nat_abs c ≤ 1000000000 * moves.weight u) × (length ms ≤ moves.weight u)
  bounded [] u c (e, z) = (
    subst (λ (x : ℤ). nat_abs x ≤ 1000000000 * moves.weight u) (sym z) (omega arith),
    omega arith,
  )
  bounded (m ∷ ms) v c (u, (n, k, (run, step, sum))) =
      let r = bounded ms u n run in
      let h : nat_abs n ≤ 1000000000 * moves.weight u = r.0 in
      let i : length ms ≤ moves.weight u = r.1 in
      let j : nat_abs k + 1000000000 * moves.weight u ≤ 1000000000 * moves.weight v =
      moves.cheap u m v k (own_run ms u n run) step in
      let l : moves.weight u < moves.weight v = moves.heavier u m v k (own_run ms u n run) step in (
        subst (λ (x : ℤ). nat_abs x ≤ 1000000000 * moves.weight v) (sym sum)
            (add n k (1000000000 * moves.weight u) (1000000000 * moves.weight v) h j),
        omega arith,
      )
    where
      add : (n k : ℤ) (a b : ℕ) → nat_abs n ≤ a → nat_abs k + a ≤ b → nat_abs (n +ℤ k) ≤ b
      add n k a b h j = omega (arith, ints)

  small_from : (c : ℤ) (r : ℕ) → nat_abs c ≤ 1000000000 * r → r < 2 ^ 30 → Small c
  small_from c r h l = record { above = omega (arith, ints); below = omega (arith, ints) }

  pub lawful : Lawful is_same_key (wide_meaning doc)
  lawful = record {
    own_start = moves.start;
    own_next = moves.own;
    determined = λ u m v x c d f g. (f.leads ∙ sym g.leads, f.pays ∙ sym g.pays);
    rises = moves.rises;
    rank_fits = moves.low;
    reflexive = λ u o. both (is_same_key (key u) (key u)) (are_no_older u.ages u.ages) (key_refl (key u))
        (no_older_refl u.ages);
    transitive = λ u v x ou ov ox p q. chain u v x p q;
    one_key = λ u v ou ov p. (both_of (is_same_key (key u) (key v)) (are_no_older u.ages v.ages) p).0;
    one_rank = λ u v ou ov p. rank_key u v (key_same (key u) (key v) p);
    one_block = λ u v ou ov p. ap (λ (k : PageKey). k.place.block) (key_same (key u) (key v) p);
    simulates = λ u v m x c ou ov p f. (let s : FollowsToo doc u m x c =
        simulates doc tables u v m x c ov p f in
        record { to = s.to; cost = s.cost; follow = s.follow; cheap = s.cheap; no_worse = s.no_worse });
    done = λ u v ou ov p d. subst (λ (k : PageKey). is_done doc (with_ages k []) ≡ true)
        (sym (keys_same u v p)) d;
    order_equal = column_equal;
    order_total = columns_total;
    onward = moves.onward;
    reach_own = moves.reach_own;
    reach_next = moves.reach_next;
    small_move = λ u m v c o f. (let h : nat_abs c + 1000000000 * moves.weight u ≤ 1000000000 * moves.weight
        v = moves.cheap u m v c o f in
        small_from c (moves.weight v) (omega arith) (moves.light v (moves.own u m v c o f)));
    small_run = λ ms u c run. small_from c (moves.weight u) (bounded ms u c run).0
        (moves.light u (own_run ms u c run));
    few_moves = λ ms u c run. (let h : length ms ≤ moves.weight u = (bounded ms u c run).1 in
        let l : moves.weight u < 2 ^ 30 = moves.light u (own_run ms u c run) in omega arith);
  }
