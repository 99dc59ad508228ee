-- The order of ways.
use Rattle.std.proofs.Common.{◌≡◌, refl, sym, ap, ◌∙◌, ℕ, ◌⊎◌, inl, inr, List, Bool, true, false, arith}
use Rattle.std.specs.Prelude.{◌&&◌, ◌||◌, ℤ, ◌<ℤ◌, int_lt, T}
use Rattle.std.specs.Ordering.{is_gt, is_lt, int_eq, int_cmp, nat_cmp, ordering_reverse}
use Rattle.std.specs.declared.cmp.Ordering.{Ordering}
use Rattle.std.specs.declared.cmp.Ordering.TheVariants.{Less, Equal, Greater}
use Rattle.std.specs.Cmp.Lexicographic.{slice_cmp}
use Rattle.std.specs.Cmp.{IsTotalOrder}
use Rattle.std.proofs.lemmas.Cmp.{by_ranked, int_ranked, lists_total, nat_cmp_total, tied_itself, upto}
use Rattle.std.proofs.lemmas.Bool.Decides.{Decides-int_eq}
use Rattle.std.proofs.lemmas.Int.{ints}
use Rattle.pg_hlist.specs.declared.item.HItem.{HItem}
use Rattle.law_lines.specs.declared.rule.LineRule.{LineRule}
use Rattle.law_lines.specs.Ways.{demerits, IsNoLater}
use Rattle.law_lines.specs.Listing.{is_before}
use Rattle.pg_lemmas.proofs.Bools.{both_of, not_both, true_of, or_left}
use Rattle.law_places.proofs.Tests.{less_int, int_less}

lists : IsTotalOrder (slice_cmp nat_cmp)
lists = lists_total nat_cmp_total

pub no_later_itself : (c : ℤ) (way : List ℕ) → IsNoLater c way c way
no_later_itself c way = inr (refl, ap is_gt (tied_itself lists way))

pub no_later_chain : (c d e : ℤ) (ms ns ks : List ℕ) → IsNoLater c ms d ns → IsNoLater d ns e ks →
    IsNoLater c ms e ks
no_later_chain c d e ms ns ks (inl p) (inl q) = inl (omega (arith, ints))
no_later_chain c d e ms ns ks (inl p) (inr q) = inl (let s : d ≡ e = q.0 in omega (arith, ints))
no_later_chain c d e ms ns ks (inr p) (inl q) = inl (let s : c ≡ d = p.0 in omega (arith, ints))
no_later_chain c d e ms ns ks (inr p) (inr q) = inr (p.0 ∙ q.0, upto lists ms ns ks p.1 q.1)

less_not_gt : (o : Ordering) → is_lt o ≡ true → is_gt o ≡ false
less_not_gt Less e = refl
less_not_gt Equal e = refl
less_not_gt Greater e = absurd cc

not_less_back : (o p : Ordering) → o ≡ ordering_reverse p → is_lt p ≡ false → is_gt o ≡ false
not_less_back o Less e h = absurd cc
not_less_back o Equal e h = ap is_gt e
not_less_back o Greater e h = ap is_gt e

-- the test, by what it compares
abbrev tests : ℤ → ℤ → Ordering → Bool
tests c d o = int_lt c d || (int_eq c d && is_lt o)

or_right : (a b : Bool) → (a || b) ≡ false → b ≡ false
or_right true b e = absurd cc
or_right false b e = e

and_right : (a b : Bool) → a ≡ true → (a && b) ≡ false → b ≡ false
and_right true b e f = f
and_right false b e f = absurd cc

or_cases : {P : Type 0} (a b : Bool) → (a || b) ≡ true → (a ≡ true → P) → (b ≡ true → P) → P
or_cases true b e f g = f refl
or_cases false b e f g = g e

tests_true : (c d : ℤ) (ms ns : List ℕ) → tests c d (slice_cmp nat_cmp ms ns) ≡ true → IsNoLater c ms d ns
tests_true c d ms ns e = or_cases (int_lt c d) (int_eq c d && is_lt (slice_cmp nat_cmp ms ns)) e
    (λ l. inl (less_int c d l))
    (λ r. (let t = both_of (int_eq c d) (is_lt (slice_cmp nat_cmp ms ns)) r in
    inr ((Decides-int_eq c d).0 t.0, less_not_gt (slice_cmp nat_cmp ms ns) t.1)))

tests_false : (c d : ℤ) (ms ns : List ℕ) → tests c d (slice_cmp nat_cmp ms ns) ≡ false → IsNoLater d ns c ms
tests_false c d ms ns e =
    by_ranked (c <ℤ d) (c ≡ d) (d <ℤ c) (int_cmp c d) (int_ranked c d (int_cmp c d) refl)
    (λ _ p. absurd (not_both (tests c d (slice_cmp nat_cmp ms ns))
    (or_left (int_lt c d) (int_eq c d && is_lt (slice_cmp nat_cmp ms ns)) (int_less c d p)) e))
    (λ _ p. inr (
      sym p,
      not_less_back (slice_cmp nat_cmp ns ms) (slice_cmp nat_cmp ms ns) (lists.antisymm ns ms)
          (and_right (int_eq c d) (is_lt (slice_cmp nat_cmp ms ns)) ((Decides-int_eq c d).1 p)
          (or_right (int_lt c d) (int_eq c d && is_lt (slice_cmp nat_cmp ms ns)) e)),
    ))
    (λ _ p. inl p)

module _ (rule : LineRule) (para : List HItem) where
  abbrev pub NoLater : List ℕ → List ℕ → Type 0
  NoLater way other = IsNoLater (demerits rule para way) way (demerits rule para other) other

  pub before_no_later : (way other : List ℕ) → is_before rule para way other ≡ true → NoLater way other
  before_no_later way other e = tests_true (demerits rule para way) (demerits rule para other) way other e

  pub not_before_no_later : (way other : List ℕ) → is_before rule para other way ≡ false → NoLater way other
  not_before_no_later way other e = tests_false (demerits rule para other) (demerits rule para way) other way e

pub not_less_int : (a b : ℤ) → int_lt a b ≡ false → (b <ℤ a) ⊎ (b ≡ a)
not_less_int a b e = by_ranked (a <ℤ b) (a ≡ b) (b <ℤ a) (int_cmp a b) (int_ranked a b (int_cmp a b) refl)
    (λ _ p. absurd (not_both (int_lt a b) (int_less a b p) e)) (λ _ p. inr (sym p)) (λ _ p. inl p)
