-- The best of several ends are in order, of each place and fitness there is one, and none of the others is better.
use Rattle.std.proofs.Common.{◌≡◌, refl, sym, ap, ◌∙◌, subst, ℕ, zero, suc, ◌<◌, ◌⊎◌, inl, inr, List, [], ◌∷◌, ◌++◌, length, arith, Bool, true, false, ℤ, ◌<ℤ◌, ◌≤ℤ◌}
use Rattle.std.specs.Prelude.{◌||◌, ◌&&◌, not, int_le, int_lt, reverse, AllPairs, Contains, get_or}
use Rattle.std.specs.Cmp.{IsTotalOrder}
use Rattle.std.specs.Ordering.{is_gt, nat_cmp, ordering_then, ordering_reverse}
use Rattle.std.specs.declared.cmp.Ordering.{Ordering}
use Rattle.std.specs.declared.cmp.Ordering.TheVariants.{Less, Equal, Greater}
use Rattle.std.proofs.lemmas.Cmp.{lists_total, nat_cmp_total, on_total, then_total, tied_itself}
use Rattle.std.proofs.lemmas.Int.{ints}
use Rattle.pg_list.specs.declared.galley.Place.{Place}
use Rattle.pg_plan.specs.Order.{picks_cmp, place_cmp}
use Rattle.pg_plan.proofs.OrderLaws.{place_total, place_equal}
use Rattle.pg_lemmas.proofs.Bools.{by_bool, if_true, if_false, not_true}
use Rattle.law_places.proofs.Tests.{less_int, le_int, not_less_int, not_le_int}
use Rattle.pg_table.proofs.Runs.{undercuts_chain}
use Rattle.pg_column.specs.declared.end.End.{End}
use Rattle.pg_column.specs.Ends.{IsBefore}
use Rattle.law_walk.specs.Best.{AreBest, Ascend, IsAmong, IsCheaper, IsFirst, IsUnder, best_of, better_of, end_cmp, end_cost, insert_end, is_better, placed_by}
use Rattle.pg_lemmas.proofs.Orders.{nat_equal, nat_less, not_gt_back, then_equal}

-- ---- the order

pub end_total : IsTotalOrder end_cmp
end_total = then_total (on_total (λ (a : End). a.to) place_total)
    (on_total (λ (a : End). a.cost.fitness) nat_cmp_total)

pub cheaper_chain : (c d e : ℤ) (ms ns ks : List ℕ) → IsCheaper c ms d ns → IsCheaper d ns e ks →
    IsCheaper c ms e ks
cheaper_chain c d e ms ns ks p q =
    undercuts_chain nat_cmp nat_cmp_total c d e (reverse ms) (reverse ns) (reverse ks) p q

pub under_chain : (a b c : End) → IsUnder a b → IsUnder b c → IsUnder a c
under_chain a b c p q =
    cheaper_chain (end_cost a) (end_cost b) (end_cost c) a.picks b.picks c.picks p q

pub under_itself : (a : End) → IsUnder a a
under_itself a = inr (refl, ap is_gt (tied_itself (lists_total nat_cmp_total) (reverse a.picks)))

tested : (k l : ℤ) (gt : Bool) (less le : Bool) → (less ≡ true → k <ℤ l) → (le ≡ true → k ≤ℤ l) →
    (less ≡ false → l ≤ℤ k) → (less || (le && not gt)) ≡ true → (k <ℤ l) ⊎ ((k ≡ l) × (gt ≡ false))
tested k l gt true le a b c e = inl (a refl)
tested k l gt false true a b c e = inr (let p = b refl in let q = c refl in omega (arith, ints, p, q), not_true gt e)
tested k l gt false false a b c e = absurd cc

yes_better : (a b : End) → is_better a b ≡ true → IsUnder a b
yes_better a b e = tested (end_cost a) (end_cost b) (is_gt (picks_cmp a.picks b.picks))
    (int_lt (end_cost a) (end_cost b)) (int_le (end_cost a) (end_cost b)) (less_int _ _) (le_int _ _)
    (not_less_int _ _) e

untested : (k l : ℤ) (gt back : Bool) (less le : Bool) → (less ≡ false → l ≤ℤ k) → (le ≡ false → l <ℤ k) →
    (gt ≡ true → back ≡ false) → (less || (le && not gt)) ≡ false → (l <ℤ k) ⊎ ((l ≡ k) × (back ≡ false))
untested k l gt back true le a b c e = absurd cc
untested k l gt back false false a b c e = inl (b refl)
untested k l true back false true a b c e = by_cases (a refl)
  where
    by_cases : l ≤ℤ k → (l <ℤ k) ⊎ ((l ≡ k) × (back ≡ false))
    by_cases h = by_bool (int_lt l k) (λ t. inl (less_int l k t))
        (λ f. inr (let g = not_less_int l k f in omega (arith, ints, g, h), c refl))
untested k l false back false true a b c e = absurd cc

not_better : (a b : End) → is_better a b ≡ false → IsUnder b a
not_better a b e = untested (end_cost a) (end_cost b) (is_gt (picks_cmp a.picks b.picks))
    (is_gt (picks_cmp b.picks a.picks)) (int_lt (end_cost a) (end_cost b)) (int_le (end_cost a) (end_cost b))
    (not_less_int _ _) (not_le_int _ _)
    (λ g. not_gt_back _ _ ((lists_total nat_cmp_total).antisymm (reverse b.picks) (reverse a.picks)) g) e

-- the better of two is one of them, and under both
pub record IsBetterOf (a b : End) : Type 0 where
  pub one : (better_of a b ≡ a) ⊎ (better_of a b ≡ b)
  pub first : IsUnder (better_of a b) a
  pub second : IsUnder (better_of a b) b

pub better_is : (a b : End) → IsBetterOf a b
better_is a b = by_bool (is_better a b)
    (λ t. let e : better_of a b ≡ a = if_true (is_better a b) a b t in record {
      one = inl e;
      first = subst (λ (x : End). IsUnder x a) (sym e) (under_itself a);
      second = subst (λ (x : End). IsUnder x b) (sym e) (yes_better a b t);
    })
    (λ f. let e : better_of a b ≡ b = if_false (is_better a b) a b f in record {
      one = inr e;
      first = subst (λ (x : End). IsUnder x a) (sym e) (not_better a b f);
      second = subst (λ (x : End). IsUnder x b) (sym e) (under_itself b);
    })

-- ---- one place and fitness

tie_turned : (a b : End) → end_cmp a b ≡ Equal → end_cmp b a ≡ Equal
tie_turned a b e = end_total.antisymm b a ∙ ap ordering_reverse e

tie_chain : (a b c : End) → end_cmp a b ≡ Equal → end_cmp b c ≡ Equal → end_cmp a c ≡ Equal
tie_chain a b c p q = end_total.congr a b c p ∙ q

tie_itself : (a : End) → end_cmp a a ≡ Equal
tie_itself a = tied_itself end_total a

tie_less : (a b c : End) → end_cmp a b ≡ Equal → end_cmp b c ≡ Less → end_cmp a c ≡ Less
tie_less a b c p q = end_total.congr a b c p ∙ q

pub not_both : {P : Type 0} (o : Ordering) → o ≡ Less → o ≡ Equal → P
not_both Less p q = absurd cc
not_both Equal p q = absurd cc
not_both Greater p q = absurd cc

first_of : (e : End) (fs : List End) (x : End) → IsFirst e fs → IsAmong x fs → end_cmp e x ≡ Less
first_of e [] x h a = absurd a
first_of e (f ∷ fs) x h (inl p) = subst (λ (y : End). end_cmp e y ≡ Less) p h.0
first_of e (f ∷ fs) x h (inr a) = first_of e fs x h.1 a

first_tied : (e f : End) (fs : List End) → end_cmp e f ≡ Equal → IsFirst f fs → IsFirst e fs
first_tied e f [] t h = tt
first_tied e f (g ∷ fs) t h = (tie_less e f g t h.0, first_tied e f fs t h.1)

first_before : (e f : End) (fs : List End) → end_cmp e f ≡ Less → IsFirst f fs → IsFirst e fs
first_before e f [] t h = tt
first_before e f (g ∷ fs) t h = (end_total.trans e f g t h.0, first_before e f fs t h.1)

-- ---- one more end

pub record IsInserted (e : End) (fs gs : List End) : Type 0 where
  pub ascend : Ascend gs
  pub among : (x : End) → IsAmong x gs → (x ≡ e) ⊎ IsAmong x fs
  pub under : (x y : End) → IsAmong x gs → (y ≡ e) ⊎ IsAmong y fs → end_cmp x y ≡ Equal → IsUnder x y
  pub there : (y : End) → (y ≡ e) ⊎ IsAmong y fs → (x : End) × (IsAmong x gs × (end_cmp x y ≡ Equal))

inserted : (e : End) (fs : List End) → Ascend fs → IsInserted e fs (insert_end e fs)
inserted e [] h = record {
  ascend = (tt, tt);
  among = λ x a. elim a [ inl p ↦ inl (sym p) | inr n ↦ absurd n ];
  under = λ x y a b t. elim a [
    | inl p ↦ elim b [
      | inl q ↦ subst (λ (z : End). IsUnder z y) p (subst (IsUnder e) (sym q) (under_itself e))
      | inr n ↦ absurd n
    ]
    | inr n ↦ absurd n
  ];
  there = λ y b. elim b
      [ inl q ↦ (e, (inl refl, subst (λ (z : End). end_cmp e z ≡ Equal) (sym q) (tie_itself e))) | inr n ↦ absurd n ];
}
inserted e (f ∷ fs) h = by (end_cmp e f) refl (inserted e fs h.1)
  where
    alone : (z : End) (zs : List End) → Ascend (z ∷ zs) → (x y : End) → IsAmong x (z ∷ zs) → IsAmong y (z ∷ zs) →
        end_cmp x y ≡ Equal → IsUnder x y
    alone z zs a x y (inl p) (inl q) t = subst (IsUnder x) (sym p ∙ q) (under_itself x)
    alone z zs a x y (inl p) (inr q) t =
        not_both (end_cmp z y) (first_of z zs y a.0 q) (subst (λ (w : End). end_cmp w y ≡ Equal) (sym p) t)
    alone z zs a x y (inr p) (inl q) t =
        not_both (end_cmp z x) (first_of z zs x a.0 p)
        (tie_turned x z (subst (λ (w : End). end_cmp x w ≡ Equal) (sym q) t))
    alone z [] a x y (inr p) (inr q) t = absurd p
    alone z (w ∷ zs) a x y (inr p) (inr q) t = alone w zs a.1 x y p q t

    swap_in : (y : End) → (y ≡ e) ⊎ IsAmong y (f ∷ fs) → IsAmong y (e ∷ f ∷ fs)
    swap_in y (inl q) = inl (sym q)
    swap_in y (inr q) = inr q

    by : (o : Ordering) → end_cmp e f ≡ o → IsInserted e fs (insert_end e fs) →
        IsInserted e (f ∷ fs) (placed_by o e f fs (insert_end e fs))
    by Less t r =
        let asc : Ascend (e ∷ f ∷ fs) = ((t, first_before e f fs t h.0), h) in
        record {
          ascend = asc;
          among = λ x a. elim a [ inl p ↦ inl (sym p) | inr p ↦ inr p ];
          under = λ x y a b k. alone e (f ∷ fs) asc x y a (swap_in y b) k;
          there = λ y b. (y, (swap_in y b, tie_itself y));
        }
    by Equal t r =
        let k : IsBetterOf e f = better_is e f in
        let tied : end_cmp (better_of e f) f ≡ Equal = elim k.one [
          | inl p ↦ subst (λ (z : End). end_cmp z f ≡ Equal) (sym p) t
          | inr p ↦ subst (λ (z : End). end_cmp z f ≡ Equal) (sym p) (tie_itself f)
        ] in
        let firsts : IsFirst (better_of e f) fs = first_tied (better_of e f) f fs tied h.0 in
        record {
          ascend = (firsts, h.1);
          among = λ x a. among_equal k x a;
          under = λ x y a b m. under_equal k tied firsts x y a b m;
          there = λ y b. there_equal k tied y b;
        }
      where
        among_equal : IsBetterOf e f → (x : End) → IsAmong x (better_of e f ∷ fs) → (x ≡ e) ⊎ IsAmong x (f ∷ fs)
        among_equal k x (inl p) = elim k.one [ inl q ↦ inl (sym p ∙ q) | inr q ↦ inr (inl (sym q ∙ p)) ]
        among_equal k x (inr p) = inr (inr p)

        under_equal : IsBetterOf e f → end_cmp (better_of e f) f ≡ Equal → IsFirst (better_of e f) fs → (x y : End) →
            IsAmong x (better_of e f ∷ fs) → (y ≡ e) ⊎ IsAmong y (f ∷ fs) → end_cmp x y ≡ Equal → IsUnder x y
        under_equal k tied firsts x y (inl p) (inl q) m =
            subst (λ (z : End). IsUnder z y) p (subst (IsUnder (better_of e f)) (sym q) k.first)
        under_equal k tied firsts x y (inl p) (inr (inl q)) m =
            subst (λ (z : End). IsUnder z y) p (subst (IsUnder (better_of e f)) q k.second)
        under_equal k tied firsts x y (inl p) (inr (inr q)) m =
            not_both (end_cmp (better_of e f) y) (first_of (better_of e f) fs y firsts q)
            (subst (λ (w : End). end_cmp w y ≡ Equal) (sym p) m)
        under_equal k tied firsts x y (inr p) (inl q) m =
            not_both (end_cmp e x) (first_of e fs x (first_tied e f fs t h.0) p)
            (tie_turned x e (subst (λ (w : End). end_cmp x w ≡ Equal) q m))
        under_equal k tied firsts x y (inr p) (inr q) m = alone f fs h x y (inr p) q m

        there_equal : IsBetterOf e f → end_cmp (better_of e f) f ≡ Equal → (y : End) →
            (y ≡ e) ⊎ IsAmong y (f ∷ fs) → (x : End) × (IsAmong x (better_of e f ∷ fs) × (end_cmp x y ≡ Equal))
        there_equal k tied y (inl q) = (
          better_of e f,
          (
            inl refl,
            tie_chain (better_of e f) f y tied
                (subst (λ (w : End). end_cmp f w ≡ Equal) (sym q) (tie_turned e f t)),
          ),
        )
        there_equal k tied y (inr (inl q)) =
            (better_of e f, (inl refl, subst (λ (w : End). end_cmp (better_of e f) w ≡ Equal) q tied))
        there_equal k tied y (inr (inr q)) = (y, (inr q, tie_itself y))
    by Greater t r =
        record {
          ascend = (first_all (insert_end e fs) r.among, r.ascend);
          among = λ x a. among_more r x a;
          under = λ x y a b m. under_more r x y a b m;
          there = λ y b. there_more r y b;
        }
      where
        before : end_cmp f e ≡ Less
        before = end_total.antisymm f e ∙ ap ordering_reverse t

        first_one : (x : End) → (x ≡ e) ⊎ IsAmong x fs → end_cmp f x ≡ Less
        first_one x (inl p) = subst (λ (w : End). end_cmp f w ≡ Less) (sym p) before
        first_one x (inr p) = first_of f fs x h.0 p

        first_all : (gs : List End) → ((x : End) → IsAmong x gs → (x ≡ e) ⊎ IsAmong x fs) → IsFirst f gs
        first_all [] m = tt
        first_all (g ∷ gs) m = (first_one g (m g (inl refl)), first_all gs (λ x a. m x (inr a)))

        among_more : IsInserted e fs (insert_end e fs) → (x : End) → IsAmong x (f ∷ insert_end e fs) →
            (x ≡ e) ⊎ IsAmong x (f ∷ fs)
        among_more r x (inl p) = inr (inl p)
        among_more r x (inr p) = elim (r.among x p) [ inl q ↦ inl q | inr q ↦ inr (inr q) ]

        under_more : IsInserted e fs (insert_end e fs) → (x y : End) → IsAmong x (f ∷ insert_end e fs) →
            (y ≡ e) ⊎ IsAmong y (f ∷ fs) → end_cmp x y ≡ Equal → IsUnder x y
        under_more r x y (inl p) (inl q) m =
            not_both (end_cmp f y) (first_one y (inl q)) (subst (λ (w : End). end_cmp w y ≡ Equal) (sym p) m)
        under_more r x y (inl p) (inr (inl q)) m = subst (IsUnder x) (sym p ∙ q) (under_itself x)
        under_more r x y (inl p) (inr (inr q)) m =
            not_both (end_cmp f y) (first_one y (inr q)) (subst (λ (w : End). end_cmp w y ≡ Equal) (sym p) m)
        under_more r x y (inr p) (inl q) m = r.under x y p (inl q) m
        under_more r x y (inr p) (inr (inl q)) m =
            not_both (end_cmp f x) (first_one x (r.among x p))
            (tie_turned x f (subst (λ (w : End). end_cmp x w ≡ Equal) (sym q) m))
        under_more r x y (inr p) (inr (inr q)) m = r.under x y p (inr q) m

        there_more : IsInserted e fs (insert_end e fs) → (y : End) → (y ≡ e) ⊎ IsAmong y (f ∷ fs) →
            (x : End) × (IsAmong x (f ∷ insert_end e fs) × (end_cmp x y ≡ Equal))
        there_more r y (inl q) = let w = r.there y (inl q) in (w.0, (inr w.1.0, w.1.1))
        there_more r y (inr (inl q)) = (f, (inl refl, subst (λ (w : End). end_cmp f w ≡ Equal) q (tie_itself f)))
        there_more r y (inr (inr q)) = let w = r.there y (inr q) in (w.0, (inr w.1.0, w.1.1))

-- ---- all

-- with one more end in front
pub best_more : (e : End) (es bs : List End) → AreBest es bs → AreBest (e ∷ es) (insert_end e bs)
best_more e es bs r = record {
  ascend = i.ascend;
  among = λ x a. elim (i.among x a) [ inl p ↦ inl (sym p) | inr p ↦ inr (r.among x p) ];
  under = λ x y a b t. elim b [
    | inl p ↦ i.under x y a (inl (sym p)) t
    | inr p ↦
        let w = r.there y p in
        let s : end_cmp x w.0 ≡ Equal = tie_chain x y w.0 t (tie_turned w.0 y w.1.1) in
        under_chain x w.0 y (i.under x w.0 a (inr w.1.0) s) (r.under w.0 y w.1.0 p w.1.1)
  ];
  there = λ y b. elim b [
    | inl p ↦ i.there y (inl (sym p))
    | inr p ↦
        let w = r.there y p in
        let v = i.there w.0 (inr w.1.0) in
        (v.0, (v.1.0, tie_chain v.0 w.0 y v.1.1 w.1.1))
  ];
}
  where
    i : IsInserted e bs (insert_end e bs)
    i = inserted e bs r.ascend

pub none_best : AreBest [] []
none_best = record {
  ascend = tt;
  among = λ x a. a;
  under = λ x y a b t. absurd a;
  there = λ y a. absurd a;
}

pub best_are : (es : List End) → AreBest es (best_of es)
best_are [] = none_best
best_are (e ∷ es) = best_more e es (best_of es) (best_are es)

among_last : (es : List End) (e x : End) → IsAmong x (e ∷ es) → IsAmong x (es ++ e ∷ [])
among_last [] e x a = a
among_last (f ∷ es) e x (inl p) = inr (among_last es e x (inl p))
among_last (f ∷ es) e x (inr (inl p)) = inl p
among_last (f ∷ es) e x (inr (inr p)) = inr (among_last es e x (inr p))

among_first : (es : List End) (e x : End) → IsAmong x (es ++ e ∷ []) → IsAmong x (e ∷ es)
among_first [] e x a = a
among_first (f ∷ es) e x (inl p) = inr (inl p)
among_first (f ∷ es) e x (inr p) = elim (among_first es e x p) [ inl q ↦ inl q | inr q ↦ inr (inr q) ]

-- with one more end behind the others
pub best_push : (e : End) (es bs : List End) → AreBest es bs → AreBest (es ++ e ∷ []) (insert_end e bs)
best_push e es bs r = record {
  ascend = m.ascend;
  among = λ x a. among_last es e x (m.among x a);
  under = λ x y a b t. m.under x y a (among_first es e y b) t;
  there = λ y b. m.there y (among_first es e y b);
}
  where
    m : AreBest (e ∷ es) (insert_end e bs)
    m = best_more e es bs r

-- ---- by index

pub among_contains : {X : Type 0} (xs : List X) (x : X) → IsAmong x xs → Contains xs x
among_contains [] x a = absurd a
among_contains (y ∷ ys) x (inl p) = (0, omega arith, p)
among_contains (y ∷ ys) x (inr a) = let r = among_contains ys x a in (suc r.0, omega (arith, r.1), r.2)

pub contains_among : {X : Type 0} (xs : List X) (x : X) → Contains xs x → IsAmong x xs
contains_among {X} xs x (k, h, e) = at xs k h e
  where
    at : (xs : List X) (k : ℕ) → k < length xs → get_or xs k x ≡ x → IsAmong x xs
    at [] k h e = absurd (omega (arith, h))
    at (y ∷ ys) zero h e = inl e
    at (y ∷ ys) (suc k) h e = inr (at ys k (omega (arith, h)) e)

pub tied_ends : (a b : End) → end_cmp a b ≡ Equal → (a.to ≡ b.to) × (a.cost.fitness ≡ b.cost.fitness)
tied_ends a b e =
    let t = then_equal (place_cmp a.to b.to) (nat_cmp a.cost.fitness b.cost.fitness) e in
    (place_equal a.to b.to t.0, nat_equal a.cost.fitness b.cost.fitness t.1)

pub ends_tied : (a b : End) → a.to ≡ b.to → a.cost.fitness ≡ b.cost.fitness → end_cmp a b ≡ Equal
ends_tied a b p q =
    ap (λ (z : Place). ordering_then (place_cmp z b.to) (nat_cmp a.cost.fitness b.cost.fitness)) p
    ∙ (ap (λ (z : ℕ). ordering_then (place_cmp b.to b.to) (nat_cmp z b.cost.fitness)) q
    ∙ (ap (λ (o : Ordering). ordering_then o (nat_cmp b.cost.fitness b.cost.fitness)) (tied_itself place_total b.to)
    ∙ tied_itself nat_cmp_total b.cost.fitness))

then_less : (o p : Ordering) → ordering_then o p ≡ Less → (o ≡ Less) ⊎ ((o ≡ Equal) × (p ≡ Less))
then_less Less p e = inl refl
then_less Equal p e = inr (refl, e)
then_less Greater p e = absurd cc

pub before : (a b : End) → end_cmp a b ≡ Less → IsBefore a b
before a b e = elim (then_less (place_cmp a.to b.to) (nat_cmp a.cost.fitness b.cost.fitness) e) [
  | inl p ↦ inl p
  | inr p ↦ inr (place_equal a.to b.to p.0, nat_less a.cost.fitness b.cost.fitness p.1)
]

pub in_order : (fs : List End) → Ascend fs → AllPairs IsBefore fs
in_order fs h = λ i j d less within. at fs h i j d less within
  where
    first_at : (e : End) (fs : List End) → IsFirst e fs → (j : ℕ) (d : End) → j < length fs →
        IsBefore e (get_or fs j d)
    first_at e [] h j d w = absurd (omega (arith, w))
    first_at e (f ∷ fs) h zero d w = before e f h.0
    first_at e (f ∷ fs) h (suc j) d w = first_at e fs h.1 j d (omega (arith, w))

    at : (fs : List End) → Ascend fs → (i j : ℕ) (d : End) → i < j → j < length fs →
        IsBefore (get_or fs i d) (get_or fs j d)
    at [] h i j d less w = absurd (omega (arith, w))
    at (f ∷ fs) h zero zero d less w = absurd (omega (arith, less))
    at (f ∷ fs) h zero (suc j) d less w = first_at f fs h.0 j d (omega (arith, w))
    at (f ∷ fs) h (suc i) zero d less w = absurd (omega (arith, less))
    at (f ∷ fs) h (suc i) (suc j) d less w = at fs h.1 i j d (omega (arith, less)) (omega (arith, w))
