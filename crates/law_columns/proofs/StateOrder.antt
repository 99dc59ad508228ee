-- The order of states is total, and equal only for equal states.
use Rattle.std.proofs.Common.{◌≡◌, refl, ap, ℕ, List, Option, Some, None}
use Rattle.std.specs.Prelude.{ℤ, ◌<ℤ◌}
use Rattle.std.specs.Ordering.{nat_cmp, int_cmp, ordering_reverse}
use Rattle.std.specs.declared.cmp.Ordering.{Ordering}
use Rattle.std.specs.declared.cmp.Ordering.TheVariants.{Less, Equal}
use Rattle.std.specs.Cmp.{IsTotalOrder}
use Rattle.std.proofs.lemmas.Cmp.{then_total, nat_cmp_total, int_cmp_total, nat_list_cmp_total, on_total, by_ranked, int_ranked}
use Rattle.pg_list.specs.declared.galley.Place.{Place}
use Rattle.pg_plan.specs.Order.{place_cmp, counts_cmp}
use Rattle.pg_plan.specs.declared.states.Side.{Side}
use Rattle.pg_plan.specs.declared.states.Side.TheVariants.{L, R, S}
use Rattle.pg_plan.specs.declared.states.State.{State}
use Rattle.pg_rules.specs.Frontier.{side_rank, option_cmp, state_cmp}
use Rattle.law_columns.proofs.Order.{place_total}
use Rattle.pg_lemmas.proofs.Orders.{then_equal, nat_equal}
use Rattle.pg_plan.proofs.OrderLaws.{list_equal, place_equal}

module _ {X : Type 0} (cmp : X → X → Ordering) (total : IsTotalOrder cmp) where
  option_back : (a b : Option X) → option_cmp cmp a b ≡ ordering_reverse (option_cmp cmp b a)
  option_back None None = refl
  option_back None (Some y) = refl
  option_back (Some x) None = refl
  option_back (Some x) (Some y) = total.antisymm x y

  option_trans : (a b c : Option X) → option_cmp cmp a b ≡ Less → option_cmp cmp b c ≡ Less →
      option_cmp cmp a c ≡ Less
  option_trans None None c p q = q
  option_trans None (Some y) None p q = absurd cc
  option_trans None (Some y) (Some z) p q = refl
  option_trans (Some x) None c p q = absurd cc
  option_trans (Some x) (Some y) None p q = absurd cc
  option_trans (Some x) (Some y) (Some z) p q = total.trans x y z p q

  option_congr : (a b c : Option X) → option_cmp cmp a b ≡ Equal → option_cmp cmp a c ≡ option_cmp cmp b c
  option_congr None None c p = refl
  option_congr None (Some y) c p = absurd cc
  option_congr (Some x) None c p = absurd cc
  option_congr (Some x) (Some y) None p = refl
  option_congr (Some x) (Some y) (Some z) p = total.congr x y z p

  option_total : IsTotalOrder (option_cmp cmp)
  option_total = record { antisymm = option_back; trans = option_trans; congr = option_congr }

  option_equal : ((x y : X) → cmp x y ≡ Equal → x ≡ y) → (a b : Option X) → option_cmp cmp a b ≡ Equal → a ≡ b
  option_equal h None None e = refl
  option_equal h None (Some y) e = absurd cc
  option_equal h (Some x) None e = absurd cc
  option_equal h (Some x) (Some y) e = ap (λ (z : X). Some z) (h x y e)

pub int_equal : (a b : ℤ) → int_cmp a b ≡ Equal → a ≡ b
int_equal a b e = by_ranked (a <ℤ b) (a ≡ b) (b <ℤ a) (int_cmp a b) (int_ranked a b (int_cmp a b) refl)
    (λ o _. absurd cc) (λ _ p. p) (λ o _. absurd cc)

side_equal : (a b : Side) → nat_cmp (side_rank a) (side_rank b) ≡ Equal → a ≡ b
side_equal L L e = refl
side_equal R R e = refl
side_equal S S e = refl
side_equal L R e = absurd cc
side_equal L S e = absurd cc
side_equal R L e = absurd cc
side_equal R S e = absurd cc
side_equal S L e = absurd cc
side_equal S R e = absurd cc

pub states_total : IsTotalOrder state_cmp
states_total =
    then_total (on_total (λ (a : State). a.place) place_total)
    (then_total (on_total (λ (a : State). a.column) nat_cmp_total)
    (then_total (on_total (λ (a : State). side_rank a.side) nat_cmp_total)
    (then_total (on_total (λ (a : State). a.run) (option_total nat_cmp nat_cmp_total))
    (then_total (on_total (λ (a : State). a.wide) (option_total int_cmp int_cmp_total))
    (then_total (on_total (λ (a : State). a.fitness) (option_total nat_cmp nat_cmp_total))
    (then_total (on_total (λ (a : State). a.placed) nat_list_cmp_total)
    (on_total (λ (a : State). a.ages) nat_list_cmp_total)))))))

same_state : (p p' : Place) (c c' : ℕ) (s s' : Side) (r r' : Option ℕ) (w w' : Option ℤ) (f f' : Option ℕ)
    (d d' a a' : List ℕ) → p ≡ p' → c ≡ c' → s ≡ s' → r ≡ r' → w ≡ w' → f ≡ f' → d ≡ d' → a ≡ a' →
    ◌≡◌ {A = State} (record {
      place = p;
      column = c;
      side = s;
      run = r;
      wide = w;
      fitness = f;
      placed = d;
      ages =
          a;
    }) (record {
      place = p';
      column = c';
      side = s';
      run = r';
      wide = w';
      fitness = f';
      placed = d';
      ages =
          a';
    })
same_state p p' c c' s s' r r' w w' f f' d d' a a' h1 h2 h3 h4 h5 h6 h7 h8 = cc

pub state_equal : (a b : State) → state_cmp a b ≡ Equal → a ≡ b
state_equal a b e =
    let t1 = then_equal (place_cmp a.place b.place) _ e in
    let t2 = then_equal (nat_cmp a.column b.column) _ t1.1 in
    let t3 = then_equal (nat_cmp (side_rank a.side) (side_rank b.side)) _ t2.1 in
    let t4 = then_equal (option_cmp nat_cmp a.run b.run) _ t3.1 in
    let t5 = then_equal (option_cmp int_cmp a.wide b.wide) _ t4.1 in
    let t6 = then_equal (option_cmp nat_cmp a.fitness b.fitness) _ t5.1 in
    let t7 = then_equal (counts_cmp a.placed b.placed) (counts_cmp a.ages b.ages) t6.1 in
    same_state a.place b.place a.column b.column a.side b.side a.run b.run a.wide b.wide a.fitness b.fitness a.placed
    b.placed a.ages b.ages
    (place_equal _ _ t1.0) (nat_equal _ _ t2.0) (side_equal _ _ t3.0)
    (option_equal nat_cmp nat_cmp_total nat_equal _ _ t4.0)
    (option_equal int_cmp int_cmp_total int_equal _ _ t5.0)
    (option_equal nat_cmp nat_cmp_total nat_equal _ _ t6.0) (list_equal _ _ t7.0) (list_equal _ _ t7.1)
