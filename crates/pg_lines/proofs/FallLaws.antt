-- Falls: how they are listed, how large they are, and what they are below.
use Rattle.std.proofs.Common.{◌≡◌, refl, sym, ap, ◌∙◌, subst, ℕ, zero, suc, ◌+◌, ◌-◌, ◌*◌, ◌^◌, ◌≤◌, ◌<◌, List, [], ◌∷◌, ◌++◌, length, length-append, take, arith, Bool, true, false}
use Rattle.std.specs.Prelude.{if◌then◌else◌, drop, get_or, nat_abs, ℤ, pos, ◌+ℤ◌, ◌-ℤ◌, ◌≤ℤ◌, int_lt}
use Rattle.std.specs.List.{AllByRecursion}
use Rattle.std.proofs.lemmas.Int.{ints}
use Rattle.std.proofs.lemmas.List.{get_or_append_left}
use Rattle.std.proofs.Math.Seq.{get_or-append_seam}
use Rattle.pg_list.specs.Totals.{shrink_of}
use Rattle.pg_list.specs.Whole.{whole_sum_by}
use Rattle.pg_hlist.specs.declared.item.HItem.{HItem}
use Rattle.pg_hlist.specs.Items.{IsInRange, IsPara, as_item, width_of}
use Rattle.pg_lemmas.proofs.Lists.{all_drop}
use Rattle.pg_lines.specs.declared.ahead.Fall.{Fall}
use Rattle.pg_lines.specs.Ahead.{IsBounded, at_most_zero, fall_before, fall_of, falls_of, least_front, tight_width}
use Rattle.pg_lines.proofs.SumsLaws.{shrink_small, width_small}
use Rattle.law_places.proofs.Tests.{less_int, not_less_int}

-- ---- the list

pub falls_long : (items : List HItem) → length (falls_of items) ≡ length items + 1
falls_long [] = refl
falls_long (x ∷ items) =
    let l = length-append (falls_of items) (fall_of (x ∷ items) ∷ []) in omega (arith, l, falls_long items)

pub fall_found : (items : List HItem) (k : ℕ) (d : Fall) → k ≤ length items →
    get_or (falls_of items) (length items - k) d ≡ fall_of (drop k items)
fall_found [] zero d h = refl
fall_found [] (suc k) d h = absurd (omega (arith, h))
fall_found (x ∷ items) zero d h =
    let n : length (falls_of items) ≡ length (x ∷ items) - 0 = omega (arith, falls_long items) in
    subst (λ (m : ℕ). get_or (falls_of items ++ fall_of (x ∷ items) ∷ []) m d ≡ fall_of (x ∷ items)) n
    (get_or-append_seam (falls_of items) (fall_of (x ∷ items)) [] d)
fall_found (x ∷ items) (suc k) d h =
    ap (λ (m : ℕ). get_or (falls_of items ++ fall_of (x ∷ items) ∷ []) m d) (omega arith)
    ∙ get_or_append_left (falls_of items) (fall_of (x ∷ items) ∷ []) d (length items - k)
    (omega (arith, falls_long items, h)) ∙ fall_found items k d (omega (arith, h))

pub falls_back : (seen more : List HItem) (last : HItem) → more ≡ last ∷ seen → (old new : List Fall)
    (fall next : Fall) → old ≡ falls_of seen → fall ≡ fall_of seen → next ≡ fall_before last fall →
    new ≡ old ++ next ∷ [] → (new ≡ falls_of more) × (next ≡ fall_of more)
falls_back seen more last is old new fall next list same step push =
    let next_is : next ≡ fall_of (last ∷ seen) = step ∙ ap (fall_before last) same in (
      push ∙ ap (λ (fs : List Fall). fs ++ next ∷ []) list ∙ ap (λ (f : Fall). falls_of seen ++ f ∷ []) next_is
          ∙ ap falls_of (sym is),
      next_is ∙ ap fall_of (sym is),
    )

-- ---- sizes

less_small : (a b : ℤ) (n : ℕ) → nat_abs a < 2 ^ 31 → nat_abs b ≤ 2 ^ 31 * n →
    nat_abs (at_most_zero (a +ℤ b)) ≤ 2 ^ 31 * suc n
less_small a b n h k = by (int_lt (a +ℤ b) (pos 0))
  where
    by : (t : Bool) → nat_abs (if t then a +ℤ b else pos 0) ≤ 2 ^ 31 * suc n
    by true = omega (arith, ints, h, k)
    by false = omega arith

least_small : (f : HItem → ℤ) → ((x : HItem) → IsInRange x → nat_abs (f x) < 2 ^ 31) → (items : List HItem) →
    AllByRecursion IsInRange items → nat_abs (least_front f items) ≤ 2 ^ 31 * length items
least_small f small [] all = omega arith
least_small f small (x ∷ items) all =
    less_small (f x) (least_front f items) (length items) (small x all.0) (least_small f small items all.1)

pub tight_small : (x : HItem) → IsInRange x → nat_abs (tight_width x) < 2 ^ 31
tight_small x h = by (width_of x) (shrink_of (as_item x)) (width_small x h) (shrink_small x h)
  where
    by : (a b : ℤ) → nat_abs a < 2 ^ 30 → nat_abs b < 2 ^ 30 → nat_abs (a -ℤ b) < 2 ^ 31
    by a b h k = omega (arith, ints, h, k)

fall_small : (items : List HItem) → AllByRecursion IsInRange items → length items ≤ 2 ^ 11 →
    IsBounded (fall_of items) (2 ^ 11)
fall_small items all few = record {
  total = below (least_front width_of items)
      (least_small width_of (λ x h. let w = width_small x h in omega (arith, w)) items all);
  tight = below (least_front tight_width items) (least_small tight_width tight_small items all);
}
  where
    below : (z : ℤ) → nat_abs z ≤ 2 ^ 31 * length items → nat_abs z ≤ 2 ^ 31 * 2 ^ 11
    below z h = omega (arith, h, few)

drop_few : (items : List HItem) (k n : ℕ) → length items ≤ n → length (drop k items) ≤ n
drop_few items zero n h = h
drop_few [] (suc k) n h = omega arith
drop_few (x ∷ items) (suc k) n h = drop_few items k n (omega (arith, h))

pub fall_bounded : (items : List HItem) (k : ℕ) → IsPara items → IsBounded (fall_of (drop k items)) (2 ^ 11)
fall_bounded items k para =
    fall_small (drop k items) (all_drop IsInRange k items para.ranges) (drop_few items k (2 ^ 11) para.few)

-- ---- what a fall is below

zero_above : (s : ℤ) → at_most_zero s ≤ℤ pos 0
zero_above s = by (int_lt s (pos 0)) refl
  where
    by : (t : Bool) → int_lt s (pos 0) ≡ t → (if t then s else pos 0) ≤ℤ pos 0
    by true e = let l = less_int s (pos 0) e in omega (arith, ints, l)
    by false e = omega (arith, ints)

sum_above : (s : ℤ) → at_most_zero s ≤ℤ s
sum_above s = by (int_lt s (pos 0)) refl
  where
    by : (t : Bool) → int_lt s (pos 0) ≡ t → (if t then s else pos 0) ≤ℤ s
    by true e = omega (arith, ints)
    by false e = not_less_int s (pos 0) e

pub least_below : (f : HItem → ℤ) (items : List HItem) (j : ℕ) → least_front f items ≤ℤ whole_sum_by f (take j items)
least_below f [] zero = omega (arith, ints)
least_below f [] (suc j) = omega (arith, ints)
least_below f (x ∷ items) zero = zero_above (f x +ℤ least_front f items)
least_below f (x ∷ items) (suc j) = up (f x) (least_front f items) (whole_sum_by f (take j items))
    (at_most_zero (f x +ℤ least_front f items)) (sum_above (f x +ℤ least_front f items)) (least_below f items j)
  where
    up : (a b c d : ℤ) → d ≤ℤ (a +ℤ b) → b ≤ℤ c → d ≤ℤ (a +ℤ c)
    up a b c d h k = omega (arith, ints, h, k)
