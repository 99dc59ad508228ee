-- The laws of the space of numbers.
use Rattle.std.proofs.Common.{inr, ap, ◌≡◌, ℕ, ◌+◌, ◌≤◌, ◌<◌, ◌^◌, nat_eq, true, List, [], ◌∷◌, length, refl, sym, ◌∙◌, subst, arith, eq-eqb}
use Rattle.std.proofs.lemmas.Bool.{eqb-true}
use Rattle.std.specs.Prelude.{ℤ, pos, ◌==◌}
use Rattle.std.specs.Ordering.{nat_cmp, is_gt}
use Rattle.std.specs.declared.cmp.Ordering.TheVariants.{Equal}
use Rattle.std.proofs.lemmas.Cmp.{nat_cmp_total, by_ranked, ranked, tied_itself}
use Rattle.std.proofs.lemmas.Int.{ints}
use Rattle.pg_table.specs.Space.{Lawful, Run, Simulates}
use Rattle.pg_table.specs.Narrower.{IsNarrower}
use Rattle.test_table.specs.Numbers.{Adds, numbers}

same : (u v : ℕ) → (u == v) ≡ true → u ≡ v
same u v h = eqb-true u v h

itself : (u : ℕ) → (u == u) ≡ true
itself u = eq-eqb u u refl

order_equal : (m n : ℕ) → nat_cmp m n ≡ Equal → m ≡ n
order_equal m n h = by_ranked (m < n) (m ≡ n) (n < m) (nat_cmp m n) (ranked m n (nat_cmp m n) refl)
    (λ e _. cc (e, h)) (λ _ e. e) (λ e _. cc (e, h))

-- a run costs its length, which is at most its end
record Counts (last : ℕ) (ms : List ℕ) (u : ℕ) (c : ℤ) : Type 0 where
  cost : c ≡ pos (length ms)
  short : length ms ≤ u
  within : u ≤ last

counts : (last : ℕ) (ms : List ℕ) (u : ℕ) (c : ℤ) → Run (numbers last) ms u c → Counts last ms u c
counts last [] u c (e, z) = record { cost = z; short = omega arith; within = omega arith }
counts last (m ∷ ms) v c (u, (n, k, (run, step, sum))) = more (counts last ms u n run)
  where
    more : Counts last ms u n → Counts last (m ∷ ms) v c
    more r = record {
      cost = let a : n ≡ pos (length ms) = r.cost in let b : k ≡ pos 1 = step.cost in omega (arith, ints);
      short = let a : length ms ≤ u = r.short in let b : v ≡ u + m = step.sum in let d : 0 < m = step.some in
          omega arith;
      within = step.within;
    }

simulates : (last u v m w : ℕ) (c : ℤ) → (u == v) ≡ true → Adds last v m w c →
    Simulates (numbers last) u m w c
simulates last u v m w c h a = record {
  to = w;
  cost = c;
  follow = subst (λ z. Adds last z m w c)
      (sym (same u v h)) a;
  cheap = omega (arith, ints);
  no_worse = itself w;
}

pub numbers_lawful : (last : ℕ) → last ≤ 2 ^ 30 → Lawful nat_eq (numbers last)
numbers_lawful last limit = record {
  own_start = omega arith;
  own_next = λ u m v c o f. f.within;
  determined = λ u m v w c d f g. (f.sum ∙ sym g.sum, f.cost ∙ sym g.cost);
  rises = λ u m v c o f. let a : v ≡ u + m = f.sum in let b : 0 < m = f.some in omega arith;
  rank_fits = λ u o. omega arith;
  reflexive = λ u o. itself u;
  transitive = λ u v w a b c h k. let p : u ≡ v = same u v h in let q : v ≡ w = same v w k in
      eq-eqb u w (p ∙ q);
  one_key = λ u v a b h. h;
  one_rank = λ u v a b h. same u v h;
  one_block = λ u v a b h. same u v h;
  simulates = λ u v m w c a b h f. simulates last u v m w c h f;
  done = λ u v a b h d. subst (λ z. (z == last) ≡ true) (sym (same u v h)) d;
  order_equal = order_equal;
  order_total = nat_cmp_total;
  onward = λ u m v c o f. let a : v ≡ u + m = f.sum in omega arith;
  reach_own = λ u o. omega arith;
  reach_next = λ u m v c o f. let a : v ≡ u + m = f.sum in let b : m ≤ 2 = f.few in omega arith;
  small_move = λ u m v c o f. let a : c ≡ pos 1 = f.cost in record {
    above = omega (arith, ints);
    below = omega (arith, ints);
  };
  small_run = λ ms u c r. let k : Counts last ms u c = counts last ms u c r in let a : c ≡ pos (length ms) =
      k.cost in let b : length ms ≤ 2 ^ 30 = omega (arith, k.short, k.within) in
      record { above = omega (arith, ints); below = omega (arith, ints) };
  few_moves = λ ms u c r. let k : Counts last ms u c = counts last ms u c r in omega (
    arith,
    k.short,
    k.within,
  );
}

-- all moves are some of them that suffice
pub numbers_narrower : (last : ℕ) → IsNarrower (numbers last) (Adds last)
numbers_narrower last = record {
  inside = λ u m v c a. a;
  instead = λ u m v c o a. record {
    move = m;
    cost = c;
    follow = a;
    undercuts = inr (refl, ap is_gt (tied_itself nat_cmp_total m));
  };
  same = λ u v m x y c d ou ov p f g. g;
}
