-- The lines of a paragraph keep the laws of a space.
use Rattle.std.proofs.Common.{◌≡◌, refl, sym, ap, subst, ◌∙◌, ℕ, ◌+◌, ◌*◌, ◌^◌, ◌≤◌, ◌<◌, List, [], ◌∷◌, length, true, arith}
use Rattle.std.specs.Prelude.{◌==◌, nat_abs, ℤ, ◌+ℤ◌}
use Rattle.std.specs.Ordering.{nat_cmp}
use Rattle.std.specs.declared.cmp.Ordering.TheVariants.{Equal}
use Rattle.std.proofs.lemmas.Cmp.{nat_cmp_total, by_ranked, ranked}
use Rattle.std.proofs.lemmas.Int.{ints}
use Rattle.pg_table.specs.Space.{Lawful, Run, Simulates, Small}
use Rattle.pg_hlist.specs.declared.item.HItem.{HItem}
use Rattle.pg_hlist.specs.Items.{IsPara}
use Rattle.law_lines.specs.declared.rule.LineRule.{LineRule}
use Rattle.pg_lemmas.proofs.Bools.{both, both_of}
use Rattle.pg_lemmas.proofs.Numbers.{eq_refl}
use Rattle.law_lines.proofs.Tests.{eq_true}
use Rattle.law_lines.proofs.LineFacts.{line_rises, line_within}
use Rattle.law_lines.proofs.Costs.{line_few}
use Rattle.law_lines.specs.declared.state.LineState.{LineState}
use Rattle.law_lines.specs.LineSpace.{IsLineState, NextLine, is_done, is_same_state, line_meaning}
use Rattle.pg_lemmas.proofs.Orders.{nat_equal}

pub same_state : (u v : LineState) → is_same_state u v ≡ true → u ≡ v
same_state u v h =
    let t = both_of (u.index == v.index) (u.lines == v.lines) h in
    let p : u.index ≡ v.index = eq_true u.index v.index t.0 in
    let q : u.lines ≡ v.lines = eq_true u.lines v.lines t.1 in
    make u.index u.lines v.index v.lines p q
  where
    make : (i l i' l' : ℕ) → i ≡ i' → l ≡ l' → ◌≡◌ {A = LineState} (record { index = i; lines = l })
        (record { index = i'; lines = l' })
    make i l i' l' p q = cc

pub same_itself : (u : LineState) → is_same_state u u ≡ true
same_itself u = both (u.index == u.index) (u.lines == u.lines) (eq_refl u.index) (eq_refl u.lines)

module _ (rule : LineRule) (para : List HItem) (low : ℕ → ℕ) (most : ℕ) where
  next_rises : (u : LineState) (k : ℕ) (v : LineState) (c : ℤ) → NextLine rule para low most u k v c → u.index < v.index
  next_rises u k v c f =
      let h : u.index < k = line_rises rule para u.index k f.stands in
      let e : v.index ≡ k = ap (λ (s : LineState). s.index) f.to in omega arith

  next_own : (u : LineState) (k : ℕ) (v : LineState) (c : ℤ) → IsLineState para u → NextLine rule para low most u k v c →
      IsLineState para v
  next_own u k v c o f =
      let h : u.index < k = line_rises rule para u.index k f.stands in
      let w : k ≤ length para = line_within rule para u.index k f.stands in
      let i : v.index ≡ k = ap (λ (s : LineState). s.index) f.to in
      let l : v.lines ≡ u.lines + 1 = ap (λ (s : LineState). s.lines) f.to in
      let g : u.lines ≤ u.index = o.few in
      record { within = omega arith; few = omega arith }

  next_few : (u : LineState) (k : ℕ) (v : LineState) (c : ℤ) → NextLine rule para low most u k v c → nat_abs c ≤ 300000000
  next_few u k v c f = subst (λ (z : ℤ). nat_abs z ≤ 300000000) (sym f.price) (line_few rule para u.index k)

  -- a run has as many moves as its state has lines, and costs at most so much for each
  pub record IsBounded (way : List ℕ) (u : LineState) (c : ℤ) : Type 0 where
    pub own : IsLineState para u
    pub lines : u.lines ≡ length way
    pub cost : nat_abs c ≤ 300000000 * length way

  pub bounded : (way : List ℕ) (u : LineState) (c : ℤ) → Run (line_meaning rule para low most) way u c → IsBounded way u c
  bounded [] u c (e, z) =
      let i : u.index ≡ 0 = ap (λ (s : LineState). s.index) e in
      let l : u.lines ≡ 0 = ap (λ (s : LineState). s.lines) e in
      record {
        own = record { within = omega arith; few = omega arith };
        lines = l;
        cost = subst (λ (x : ℤ). nat_abs x ≤ 300000000 * 0) (sym z) (omega arith);
      }
  bounded (k ∷ way) v c (u, (n, d, (run, step, sum))) = more (bounded way u n run)
    where
      add : (n d : ℤ) (l : ℕ) → nat_abs n ≤ 300000000 * l → nat_abs d ≤ 300000000 →
          nat_abs (n +ℤ d) ≤ 300000000 * (l + 1)
      add n d l h k = omega (arith, ints)

      more : IsBounded way u n → IsBounded (k ∷ way) v c
      more b =
          let l : v.lines ≡ u.lines + 1 = ap (λ (s : LineState). s.lines) step.to in
          let m : u.lines ≡ length way = b.lines in
          record {
            own = next_own u k v d b.own step;
            lines = (let r : v.lines ≡ length way + 1 = omega arith in let s : length way + 1 ≡ length (k ∷ way) =
                omega arith in r ∙ s);
            cost = subst (λ (x : ℤ). nat_abs x ≤ 300000000 * length (k ∷ way)) (sym sum)
                (let s : length way + 1 ≡ length (k ∷ way) = omega arith in
                subst (λ (j : ℕ). nat_abs (n +ℤ d) ≤ 300000000 * j) s
                (add n d (length way) b.cost (next_few u k v d step)));
          }

  small_from : (c : ℤ) (n : ℕ) → nat_abs c ≤ 300000000 * n → n ≤ 2 ^ 11 → Small c
  small_from c n h l = record { above = omega (arith, ints); below = omega (arith, ints) }

  simulates : (u v : LineState) (k : ℕ) (w : LineState) (c : ℤ) → is_same_state u v ≡ true →
      NextLine rule para low most v k w c → Simulates (line_meaning rule para low most) u k w c
  simulates u v k w c h f = record {
    to = w;
    cost = c;
    follow = subst (λ (z : LineState). NextLine rule para low most z k w c) (sym (same_state u v h)) f;
    cheap = omega (arith, ints);
    no_worse = same_itself w;
  }

  pub lines_lawful : IsPara para → Lawful is_same_state (line_meaning rule para low most)
  lines_lawful whole = record {
    own_start = record { within = omega arith; few = omega arith };
    own_next = next_own;
    determined = λ u k v w c d f g. (f.to ∙ sym g.to, f.price ∙ sym g.price);
    rises = λ u k v c o f. next_rises u k v c f;
    rank_fits = λ u o. (let a : u.index ≤ length para = o.within in let b : length para ≤ 2 ^ 11 = whole.few in
        omega arith);
    reflexive = λ u o. same_itself u;
    transitive = λ u v w a b c h k. subst (λ (z : LineState). is_same_state u z ≡ true) (same_state v w k) h;
    one_key = λ u v a b h. h;
    one_rank = λ u v a b h. ap (λ (z : LineState). z.index) (same_state u v h);
    one_block = λ u v a b h. ap (λ (z : LineState). z.index) (same_state u v h);
    simulates = λ u v k w c a b h f. simulates u v k w c h f;
    done = λ u v a b h d. subst (λ (z : LineState). is_done para z ≡ true) (sym (same_state u v h)) d;
    order_equal = nat_equal;
    order_total = nat_cmp_total;
    onward = λ u k v c o f. (let a : u.index < v.index = next_rises u k v c f in omega arith);
    reach_own = λ u o. (let a : u.index ≤ length para = o.within in omega arith);
    reach_next = λ u k v c o f. (let p : IsLineState para v = next_own u k v c o f in
        let a : v.index ≤ length para = p.within in omega arith);
    small_move = λ u k v c o f. small_from c 1 (next_few u k v c f) (omega arith);
    small_run = λ way u c r. (let b : IsBounded way u c = bounded way u c r in
        small_from c (length way) b.cost (short way u c b));
    few_moves = λ way u c r. (let b : IsBounded way u c = bounded way u c r in
        let s : length way ≤ 2 ^ 11 = short way u c b in omega arith);
  }
    where
      short : (way : List ℕ) (u : LineState) (c : ℤ) → IsBounded way u c → length way ≤ 2 ^ 11
      short way u c b =
          let l : u.lines ≡ length way = b.lines in
          let m : u.lines ≤ u.index = b.own.few in
          let w : u.index ≤ length para = b.own.within in
          let f : length para ≤ 2 ^ 11 = whole.few in
          omega arith
