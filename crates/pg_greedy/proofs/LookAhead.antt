-- One look ahead finds the break that the relation asks for.
use Rattle.std.proofs.Common.{◌≡◌, ◌∙◌, refl, sym, subst, arith, ℕ, zero, suc, ◌+◌, ◌<◌, ◌≤◌, Bool, true, false, true≢false, List, length, Option, Some, None, inl, inr}
use Rattle.std.specs.Prelude.{◌⊎◌, if◌then◌else◌, ℤ, ◌≤ℤ◌, ◌<ℤ◌, int_le, unwrap_or, T}
use lib.Signed.{le_z_yes}
use Rattle.std.proofs.Math.Nat.{eq-or-lt_of_le}
use Rattle.std.specs.Int.Signed.{≤ℤ_refl}
use Rattle.std.proofs.lemmas.Bool.{cases_lt}
use borrow.Author.Differences.{ints}
use Rattle.pg_list.specs.declared.item.Item.{Item}
use Rattle.pg_style.specs.Values.{StyleValue}
use Rattle.pg_greedy.specs.Breaks.{break_cost, is_seen, stops_at}
use Rattle.pg_greedy.specs.FirstFit.{IsBestBreak, IsLookedAt, Takes}
use Rattle.pg_greedy.specs.Ahead.{better, look, taken}
use Rattle.law_places.proofs.Tests.{int_le_trans, not_le_int, le_int, both_same}

less_most : (a b : ℤ) → a <ℤ b → a ≤ℤ b
less_most a b h = omega (arith, ints, h)

less_not : (a b : ℤ) → a <ℤ b → b ≡ a → ⊥
less_not a b h e = absurd (omega (arith, ints, h, e))

module _ (style : StyleValue) (items : List Item) where
  abbrev at : ℕ → ℤ
  at k = break_cost style items k

  -- no break before this one ends the looking
  abbrev Goes : ℕ → Type 0
  Goes k = (j : ℕ) → j < k → is_seen items j ≡ true → stops_at style items j ≡ false

  -- of the breaks before k, this one is the last with the least cost
  record IsBestBelow (k best : ℕ) : Type 0 where
    pub below : best < k
    pub seen : is_seen items best ≡ true
    pub least : (j : ℕ) → j < k → is_seen items j ≡ true → at best ≤ℤ at j
    pub last : (j : ℕ) → j < k → is_seen items j ≡ true → at j ≡ at best → j ≤ best

  abbrev IsBestSoFar : ℕ → Option ℕ → Type 0
  IsBestSoFar k None = (j : ℕ) → j < k → is_seen items j ≡ false
  IsBestSoFar k (Some best) = IsBestBelow k best

  below_or_at : (P : ℕ → Type 0) (j k : ℕ) → j < k + 1 → (j < k → P j) → P k → P j
  below_or_at P j k l under here = by (eq-or-lt_of_le (let m : j ≤ k = omega (arith, l) in m))
    where
      by : (j ≡ k) ⊎ (j < k) → P j
      by (inl e) = subst P (sym e) here
      by (inr m) = under m

  -- one more break
  with_break : (k : ℕ) (best : Option ℕ) → is_seen items k ≡ true → IsBestSoFar k best →
      IsBestBelow (k + 1) (better style items best k)
  with_break k None seen so_far = record {
    below = omega arith;
    seen = seen;
    least = λ j l s. below_or_at (λ i. is_seen items i ≡ true → at k ≤ℤ at i) j k l
        (λ m t. absurd (true≢false (sym t ∙ so_far j m))) (λ t. ≤ℤ_refl (at k)) s;
    last = λ j l s e. omega (arith, l);
  }
  with_break k (Some best) seen so_far = by (int_le (at k) (at best)) refl
    where
      by : (b : Bool) → int_le (at k) (at best) ≡ b → IsBestBelow (k + 1) (if b then k else best)
      by true e = record {
        below = omega arith;
        seen = seen;
        least = λ j l s. below_or_at (λ i. is_seen items i ≡ true → at k ≤ℤ at i) j k l
            (λ m t. int_le_trans (at k) (at best) (at j) (le_int (at k) (at best) e) (so_far.least j m t))
            (λ t. ≤ℤ_refl (at k)) s;
        last = λ j l s f. omega (arith, l);
      }
      by false e = record {
        below = omega (arith, so_far.below);
        seen = so_far.seen;
        least = λ j l s. below_or_at (λ i. is_seen items i ≡ true → at best ≤ℤ at i) j k l
            (λ m t. so_far.least j m t) (λ t. less_most (at best) (at k) (not_le_int (at k) (at best) e)) s;
        last = λ j l s f. below_or_at (λ i. is_seen items i ≡ true → at i ≡ at best → i ≤ best) j k l
            (λ m t g. so_far.last j m t g) (λ t g. absurd (less_not (at best) (at k) (not_le_int (at k) (at best) e) g)) s f;
      }

  -- a place that is no break behind a box
  with_none : (k : ℕ) (best : Option ℕ) → is_seen items k ≡ false → IsBestSoFar k best → IsBestSoFar (k + 1) best
  with_none k None unseen so_far = λ j l. below_or_at (λ i. is_seen items i ≡ false) j k l (λ m. so_far j m) unseen
  with_none k (Some best) unseen so_far = record {
    below = omega (arith, so_far.below);
    seen = so_far.seen;
    least = λ j l s. below_or_at (λ i. is_seen items i ≡ true → at best ≤ℤ at i) j k l
        (λ m t. so_far.least j m t) (λ t. absurd (true≢false (sym t ∙ unseen))) s;
    last = λ j l s f. below_or_at (λ i. is_seen items i ≡ true → at i ≡ at best → i ≤ best) j k l
        (λ m t g. so_far.last j m t g) (λ t g. absurd (true≢false (sym t ∙ unseen))) s f;
  }

  goes_more : (k : ℕ) → Goes k → (is_seen items k ≡ true → stops_at style items k ≡ false) → Goes (k + 1)
  goes_more k goes here = λ j l s. below_or_at (λ i. is_seen items i ≡ true → stops_at style items i ≡ false) j k l
      (λ m t. goes j m t) here s

  -- where every looked-at break is below k, the best below k is the best
  finish : (k best : ℕ) → k ≤ length items + 1 → IsBestBelow k best →
      ((j : ℕ) → j < best → is_seen items j ≡ true → stops_at style items j ≡ false) →
      ((j : ℕ) → IsLookedAt style items j → j < k) → IsBestBreak style items best
  finish k best within so_far goes all = record {
    looked = record { within = omega (arith, within, so_far.below); seen = so_far.seen; goes_on = goes };
    least = λ j looked. so_far.least j (all j looked) looked.seen;
    last = λ j looked e. so_far.last j (all j looked) looked.seen e;
  }

  abbrev Found : Option ℕ → Type 0
  Found None = (k : ℕ) → k ≤ length items → is_seen items k ≡ false
  Found (Some best) = IsBestBreak style items best

  found_end : (k : ℕ) (best : Option ℕ) → k ≡ length items + 1 → Goes k → IsBestSoFar k best → Found best
  found_end k None is goes so_far = λ j l. so_far j (omega (arith, is, l))
  found_end k (Some best) is goes so_far = finish k best (omega (arith, is)) so_far
      (λ j l s. goes j (omega (arith, l, so_far.below)) s) (λ j looked. omega (arith, looked.within, is))

  found_stop : (k best : ℕ) → k ≤ length items → is_seen items k ≡ true → stops_at style items k ≡ true → Goes k →
      IsBestBelow (k + 1) best →
      IsBestBreak style items best
  found_stop k best within seen stops goes so_far = finish (k + 1) best (omega (arith, within)) so_far
      (λ j l s. goes j (omega (arith, l, so_far.below)) s)
      (λ j looked. not_behind j looked)
    where
      not_behind : (j : ℕ) → IsLookedAt style items j → j < k + 1
      not_behind j looked = by (cases_lt k j)
        where
          by : (k < j) ⊎ (j ≤ k) → j < k + 1
          by (inl l) = absurd (true≢false (sym stops ∙ looked.goes_on k l seen))
          by (inr l) = omega (arith, l)

  found : (k n : ℕ) (best : Option ℕ) → k + n ≡ length items + 1 → Goes k → IsBestSoFar k best →
      Found (look style items k n best)
  found k zero best is goes so_far = found_end k best (omega (arith, is)) goes so_far
  found k (suc n) best is goes so_far = by (is_seen items k) refl (stops_at style items k) refl
      (λ seen stops. found (k + 1) n (Some (better style items best k)) (omega (arith, is))
      (goes_more k goes (λ t. stops)) (with_break k best seen so_far))
      (λ unseen. found (k + 1) n best (omega (arith, is))
      (goes_more k goes (λ t. absurd (true≢false (sym t ∙ unseen)))) (with_none k best unseen so_far))
    where
      by : (seen : Bool) → is_seen items k ≡ seen → (stops : Bool) → stops_at style items k ≡ stops →
          (is_seen items k ≡ true → stops_at style items k ≡ false →
          Found (look style items (k + 1) n (Some (better style items best k)))) →
          (is_seen items k ≡ false → Found (look style items (k + 1) n best)) →
          Found (if seen then
          (if stops then Some (better style items best k) else look style items (k + 1) n
          (Some (better style items best k)))
          else look style items (k + 1) n best)
      by true e true f on off =
          found_stop k (better style items best k) (omega (arith, is)) e f goes (with_break k best e so_far)
      by true e false f on off = on e f
      by false e stops f on off = off e

  taken_takes : (best : Option ℕ) → Found best → Takes style items (unwrap_or best (length items))
  taken_takes None h = inr (record { none = h; end = refl })
  taken_takes (Some best) h = inl h

  pub takes : Takes style items (taken style items)
  takes = taken_takes (look style items 0 (length items + 1) None)
      (found 0 (length items + 1) None (omega arith) (λ j l s. absurd (omega (arith, l)))
      (λ j l. absurd (omega (arith, l))))

  -- there is one such break
  pub takes_one : (n m : ℕ) → Takes style items n → Takes style items m → n ≡ m
  takes_one n m (inl a) (inl b) =
      let same : at n ≡ at m = both_same (at n) (at m) (a.least m b.looked) (b.least n a.looked) in
      let up : n ≤ m = b.last n a.looked same in
      let down : m ≤ n = a.last m b.looked (sym same) in
      omega (arith, up, down)
  takes_one n m (inl a) (inr b) = absurd (true≢false (sym a.looked.seen ∙ b.none n a.looked.within))
  takes_one n m (inr a) (inl b) = absurd (true≢false (sym b.looked.seen ∙ a.none m b.looked.within))
  takes_one n m (inr a) (inr b) = a.end ∙ sym b.end
