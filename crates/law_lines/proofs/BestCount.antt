-- The space of the best number of lines: its laws, and what its table tells.
use Rattle.std.proofs.Common.{◌≡◌, refl, sym, ap, subst, ◌∙◌, ℕ, suc, ◌+◌, ◌*◌, ◌^◌, ◌≤◌, ◌<◌, ◌⊎◌, inl, inr, List, [], ◌∷◌, length, true, arith}
use Rattle.std.specs.Prelude.{◌&&◌, ◌==◌, nat_abs, nat_lt, ℤ, pos, ◌+ℤ◌, ◌*ℤ◌, ◌<ℤ◌, Contains}
use Rattle.std.specs.Ordering.{int_cmp, nat_cmp}
use Rattle.std.proofs.lemmas.Cmp.{by_ranked, int_ranked, nat_cmp_total}
use Rattle.std.proofs.lemmas.Int.{ints}
use Rattle.pg_table.specs.Space.{Lawful, Reached, Run, Simulates, Small, Undercuts}
use Rattle.pg_table.specs.Label.{IsBestOf, IsTable, RunOf}
use Rattle.pg_table.specs.declared.table.Entry.{Entry}
use Rattle.pg_table.proofs.BestLemmas.{best_of_runs, none_of_runs}
use Rattle.pg_table.proofs.Labels.{label_run}
use Rattle.pg_table.proofs.Lists.{contains_at}
use Rattle.pg_hlist.specs.declared.item.HItem.{HItem}
use Rattle.pg_hlist.specs.Items.{IsPara}
use Rattle.law_lines.specs.declared.rule.LineRule.{LineRule}
use Rattle.law_lines.specs.Lines.{is_line, line_demerits}
use Rattle.law_lines.specs.Ways.{start_of, keeps_lines, is_way, demerits}
use Rattle.pg_lemmas.proofs.Bools.{both, both_of}
use Rattle.pg_lemmas.proofs.Numbers.{eq_refl, less_of, less_true}
use Rattle.law_lines.proofs.Tests.{eq_true}
use Rattle.law_lines.proofs.LineFacts.{line_rises, line_within}
use Rattle.law_lines.proofs.Listed.{lines_few}
use Rattle.law_lines.proofs.Costs.{line_few}
use Rattle.law_lines.specs.BestSpace.{IsBestCount, NextBreak, TellsBestCount, best_meaning, is_same_break, unit}
use Rattle.pg_lemmas.proofs.Orders.{nat_equal}

module _ (rule : LineRule) (para : List HItem) where
  -- the price of a run of lines
  abbrev priced : List ℕ → ℤ
  priced way = (unit *ℤ demerits rule para way) +ℤ pos (length way)

  record AreBreaks (way : List ℕ) (v : ℕ) (c : ℤ) : Type 0 where
    keeps : keeps_lines rule para way ≡ true
    at : v ≡ start_of way
    cost : c ≡ priced way

  spread : (n d x y : ℤ) (l : ℕ) → n ≡ (unit *ℤ x) +ℤ pos l → d ≡ (unit *ℤ y) +ℤ pos 1 →
      n +ℤ d ≡ (unit *ℤ (x +ℤ y)) +ℤ pos (l + 1)
  spread n d x y l p q = omega (arith, ints)

  breaks_of_run : (way : List ℕ) (v : ℕ) (c : ℤ) → Run (best_meaning rule para) way v c → AreBreaks way v c
  breaks_of_run [] v c (e, z) = record { keeps = refl; at = e; cost = z }
  breaks_of_run (k ∷ way) v c (u, (n, d, (run, step, sum))) = more (breaks_of_run way u n run)
    where
      more : AreBreaks way u n → AreBreaks (k ∷ way) v c
      more a =
          let i : u ≡ start_of way = a.at in
          let m : length way + 1 ≡ length (k ∷ way) = omega arith in
          record {
            keeps = both (keeps_lines rule para way) (is_line rule para (start_of way) k) a.keeps
                (subst (λ (j : ℕ). is_line rule para j k ≡ true) i step.stands);
            at = step.to;
            cost = sum ∙ (spread n d (demerits rule para way) (line_demerits rule para (start_of way) k) (length way)
                a.cost (step.price ∙ ap (λ (j : ℕ). (unit *ℤ line_demerits rule para j k) +ℤ pos 1) i)
                ∙ ap (λ (j : ℕ). (unit *ℤ demerits rule para (k ∷ way)) +ℤ pos j) m);
          }

  run_of_breaks : (way : List ℕ) → keeps_lines rule para way ≡ true →
      Run (best_meaning rule para) way (start_of way) (priced way)
  run_of_breaks [] h = (refl, refl)
  run_of_breaks (k ∷ way) h =
      let t = both_of (keeps_lines rule para way) (is_line rule para (start_of way) k) h in
      let m : length way + 1 ≡ length (k ∷ way) = omega arith in (
        start_of way,
        (
          priced way,
          (unit *ℤ line_demerits rule para (start_of way) k) +ℤ pos 1,
          (
            run_of_breaks way t.0,
            record { stands = t.1; to = refl; price = refl },
            sym (spread (priced way) ((unit *ℤ line_demerits rule para (start_of way) k) +ℤ pos 1)
                (demerits rule para way) (line_demerits rule para (start_of way) k) (length way) refl refl
                ∙ ap (λ (j : ℕ). (unit *ℤ demerits rule para (k ∷ way)) +ℤ pos j) m),
          ),
        ),
      )

  -- ---- bounds

  demerits_few : (way : List ℕ) → nat_abs (demerits rule para way) ≤ 300000000 * length way
  demerits_few [] = omega arith
  demerits_few (k ∷ way) = add (demerits rule para way) (line_demerits rule para (start_of way) k) (length way)
      (demerits_few way) (line_few rule para (start_of way) k)
    where
      add : (n d : ℤ) (l : ℕ) → nat_abs n ≤ 300000000 * l → nat_abs d ≤ 300000000 →
          nat_abs (n +ℤ d) ≤ 300000000 * suc l
      add n d l h k = omega (arith, ints)

  small_price : (d : ℤ) (l n : ℕ) → nat_abs d ≤ 300000000 * n → n ≤ 2 ^ 11 → l ≤ 2 ^ 11 →
      Small ((unit *ℤ d) +ℤ pos l)
  small_price d l n h k m = record { above = omega (arith, ints); below = omega (arith, ints) }

  short : IsPara para → (way : List ℕ) → keeps_lines rule para way ≡ true → start_of way ≤ length para →
      length way ≤ 2 ^ 11
  short whole way h w =
      let l : length way ≤ start_of way = lines_few rule para way h in
      let f : length para ≤ 2 ^ 11 = whole.few in omega arith

  start_within : (way : List ℕ) → keeps_lines rule para way ≡ true → start_of way ≤ length para
  start_within [] h = omega arith
  start_within (k ∷ way) h = line_within rule para (start_of way) k
      (both_of (keeps_lines rule para way) (is_line rule para (start_of way) k) h).1

  same : (u v : ℕ) → (u == v) ≡ true → u ≡ v
  same u v h = eq_true u v h

  simulates : (u v k w : ℕ) (c : ℤ) → (u == v) ≡ true → NextBreak rule para v k w c →
      Simulates (best_meaning rule para) u k w c
  simulates u v k w c h f = record {
    to = w;
    cost = c;
    follow = subst (λ (z : ℕ). NextBreak rule para z k w c) (sym (same u v h)) f;
    cheap = omega (arith, ints);
    no_worse = eq_refl w;
  }

  pub best_lawful : IsPara para → Lawful is_same_break (best_meaning rule para)
  best_lawful whole = record {
    own_start = omega arith;
    own_next = λ u k v c o f. own u k v c f;
    determined = λ u k v w c d f g. (f.to ∙ sym g.to, f.price ∙ sym g.price);
    rises = rises;
    rank_fits = λ u o. (let b : length para ≤ 2 ^ 11 = whole.few in omega arith);
    reflexive = λ u o. eq_refl u;
    transitive = λ u v w a b c h k. subst (λ (z : ℕ). (u == z) ≡ true) (same v w k) h;
    one_key = λ u v a b h. h;
    one_rank = λ u v a b h. same u v h;
    one_block = λ u v a b h. same u v h;
    simulates = λ u v k w c a b h f. simulates u v k w c h f;
    done = λ u v a b h d. subst (λ (z : ℕ). (nat_lt 0 z && (z == length para)) ≡ true) (sym (same u v h)) d;
    order_equal = nat_equal;
    order_total = nat_cmp_total;
    onward = λ u k v c o f. (let a : u < v = rises u k v c o f in omega arith);
    reach_own = λ u o. omega arith;
    reach_next = λ u k v c o f. (let a : v ≤ length para = own u k v c f in omega arith);
    small_move = λ u k v c o f. subst Small (sym f.price) (small_price (line_demerits rule para u k) 1 1
        (let l : nat_abs (line_demerits rule para u k) ≤ 300000000 = line_few rule para u k in omega arith)
        (omega arith) (omega arith));
    small_run = λ way u c r. (let a : AreBreaks way u c = breaks_of_run way u c r in
        let s : length way ≤ 2 ^ 11 = short whole way a.keeps (start_within way a.keeps) in
        subst Small (sym a.cost) (small_price (demerits rule para way) (length way) (length way) (demerits_few way) s s));
    few_moves = λ way u c r. (let a : AreBreaks way u c = breaks_of_run way u c r in
        let s : length way ≤ 2 ^ 11 = short whole way a.keeps (start_within way a.keeps) in omega arith);
  }
    where
      own : (u k v : ℕ) (c : ℤ) → NextBreak rule para u k v c → v ≤ length para
      own u k v c f = let w : k ≤ length para = line_within rule para u k f.stands in
          let e : v ≡ k = f.to in omega arith

      rises : (u k v : ℕ) (c : ℤ) → u ≤ length para → NextBreak rule para u k v c → u < v
      rises u k v c o f = let w : u < k = line_rises rule para u k f.stands in let e : v ≡ k = f.to in omega arith

  -- ---- legal ways

  record IsWhole (way : List ℕ) : Type 0 where
    keeps : keeps_lines rule para way ≡ true
    ends : start_of way ≡ length para
    done : (nat_lt 0 (start_of way) && (start_of way == length para)) ≡ true

  whole_way : (way : List ℕ) → is_way rule para way ≡ true → IsWhole way
  whole_way [] h = absurd cc
  whole_way (k ∷ way) h =
      let t = both_of (keeps_lines rule para (k ∷ way)) (k == length para) h in
      let r : start_of way < k = line_rises rule para (start_of way) k
      (both_of (keeps_lines rule para way) (is_line rule para (start_of way) k) t.0).1 in
      record {
        keeps = t.0;
        ends = eq_true k (length para) t.1;
        done = both (nat_lt 0 k) (k == length para) (less_of 0 k (omega arith)) t.1;
      }

  done_way : (way : List ℕ) → keeps_lines rule para way ≡ true →
      (nat_lt 0 (start_of way) && (start_of way == length para)) ≡ true → is_way rule para way ≡ true
  done_way [] h d = absurd (let l : 0 < 0 = less_true 0 0 (both_of (nat_lt 0 0) (0 == length para) d).0 in omega arith)
  done_way (k ∷ way) h d =
      both (keeps_lines rule para (k ∷ way)) (k == length para) h (both_of (nat_lt 0 k) (k == length para) d).1

  decide : (c d x y : ℤ) (l m : ℕ) → c ≡ (unit *ℤ x) +ℤ pos l → d ≡ (unit *ℤ y) +ℤ pos m → l ≤ 2 ^ 11 →
      m ≤ 2 ^ 11 → (c <ℤ d) ⊎ (c ≡ d) → (x <ℤ y) ⊎ ((x ≡ y) × (l ≤ m))
  decide c d x y l m p q h k o =
      by_ranked (x <ℤ y) (x ≡ y) (y <ℤ x) (int_cmp x y) (int_ranked x y (int_cmp x y) refl) (λ _ r. inl r)
      (λ _ r. inr (
        r,
        elim o [
          | inl s ↦ omega (arith, ints)
          | inr s ↦ omega (arith, ints)
        ],
      ))
      (λ _ r. absurd (elim o [
        | inl s ↦ omega (arith, ints)
        | inr s ↦ omega (arith, ints)
      ]))

  module _ (whole : IsPara para) (es : List (Entry ℕ ℕ)) (table : IsTable (best_meaning rule para) es) where
    reached_by : List ℕ → Reached ℕ ℕ
    reached_by way = record { moves = way; state = start_of way; cost = priced way }

    tells : (i : ℕ) (b : IsBestOf (best_meaning rule para) es es i) → Contains es b.entry → (way : List ℕ) →
        RunOf es b.entry way → IsBestCount rule para way
    tells i b among way of =
        let run = label_run (best_meaning rule para) es b.entry way (table.labels b.entry among) of in
        let a : AreBreaks way b.entry.state b.entry.cost = breaks_of_run way b.entry.state b.entry.cost run in
        record {
          legal = done_way way a.keeps (subst (λ (z : ℕ). (nat_lt 0 z && (z == length para)) ≡ true) a.at b.done);
          best = λ other h. (let w : IsWhole other = whole_way other h in
              decide b.entry.cost (priced other) (demerits rule para way) (demerits rule para other) (length way)
              (length other) a.cost refl (short whole way a.keeps (start_within way a.keeps))
              (short whole other w.keeps (start_within other w.keeps))
              (cheap b.entry.cost (priced other) way other (best_of_runs is_same_break (best_meaning rule para)
              (best_lawful whole) es table i b
              (record { moves = other; state = start_of other; cost = priced other }) (run_of_breaks other w.keeps)
              w.done way of)));
        }
      where
        cheap : (c d : ℤ) (ms ns : List ℕ) → Undercuts nat_cmp c ms d ns → (c <ℤ d) ⊎ (c ≡ d)
        cheap c d ms ns (inl p) = inl p
        cheap c d ms ns (inr p) = inr p.0

    pub tells_best_count : TellsBestCount rule para es
    tells_best_count = record {
      best = λ i b way of. tells i b (contains_at es i b.entry b.is) way of;
      none = λ n other h. (let w : IsWhole other = whole_way other h in
          none_of_runs is_same_break (best_meaning rule para) (best_lawful whole) es table n
          (record { moves = other; state = start_of other; cost = priced other }) (run_of_breaks other w.keeps) w.done);
    }
