-- The last of labels, one more at a time.
use Rattle.std.proofs.Common.{◌≡◌, refl, sym, ap, subst, ◌∙◌, ◌⊎◌, inl, inr, ℕ, ◌+◌, ◌<◌, List, length, true, false, Bool, arith}
use Rattle.std.specs.Prelude.{Some, slice_get}
use Rattle.std.specs.Ordering.{is_lt}
use Rattle.std.specs.declared.cmp.Ordering.{Ordering}
use Rattle.std.specs.declared.cmp.Ordering.TheVariants.{Less, Equal, Greater}
use Rattle.std.proofs.lemmas.Cmp.{tied_itself}
use Rattle.std.proofs.lemmas.Option.{same_Some}
use Rattle.pg_lemmas.proofs.Lists.{some_at}
use Rattle.pg_lemmas.proofs.Orders.{lt_less}
use Rattle.pg_list.specs.declared.galley.Place.{Place}
use Rattle.pg_plan.specs.Order.{place_cmp}
use Rattle.pg_plan.specs.declared.pages.PageMove.{PageMove}
use Rattle.pg_plan.specs.declared.states.State.{State}
use Rattle.pg_table.specs.declared.table.Entry.{Entry}
use Rattle.law_columns.proofs.Order.{place_total}
use Rattle.pg_alone.proofs.Finding.{split}
use Rattle.pg_furthest.specs.Furthest.{IsLastAmong, is_before}

behind : (a b c : Place) → is_lt (place_cmp a b) ≡ true → is_lt (place_cmp a c) ≡ false →
    is_lt (place_cmp b c) ≡ false
behind a b c less not = by (place_cmp b c) refl
  where
    by : (o : Ordering) → place_cmp b c ≡ o → is_lt (place_cmp b c) ≡ false
    by Less e = absurd (lies (place_total.trans a b c (lt_less (place_cmp a b) less) e))
      where
        lies : place_cmp a c ≡ Less → ⊥
        lies h = cc
    by Equal e = ap is_lt e
    by Greater e = ap is_lt e

itself : (a : Place) → is_lt (place_cmp a a) ≡ false
itself a = ap is_lt (tied_itself place_total a)

-- the label at the front, of one
pub first_last : (labels : List (Entry State PageMove)) → IsLastAmong labels 1 0
first_last labels a b i first at within =
    let e : i ≡ 0 = omega arith in
    subst (λ (x : Entry State PageMove). is_before a x ≡ false)
    (same_Some a b (sym first ∙ subst (λ (k : ℕ). slice_get labels k ≡ Some b) e at)) (itself a.state.place)

-- what a code said of two labels
abbrev Said : List (Entry State PageMove) → ℕ → ℕ → Bool → Type 0
Said labels one other answer = (a b : Entry State PageMove) → slice_get labels one ≡ Some a →
    slice_get labels other ≡ Some b → answer ≡ is_before a b

-- the last of some labels stays it where the next does not stand behind it
pub stays_last : (labels : List (Entry State PageMove)) (count best : ℕ) (answer : Bool) →
    IsLastAmong labels count best → Said labels best count answer → answer ≡ false →
    IsLastAmong labels (count + 1) best
stays_last labels count best answer last said lies a b i at_best at within = by (split i count within)
  where
    by : (i < count) ⊎ (i ≡ count) → is_before a b ≡ false
    by (inl less) = last a b i at_best at less
    by (inr is) = sym (said a b at_best (subst (λ (k : ℕ). slice_get labels k ≡ Some b) is at)) ∙ lies

-- else the next is the last of one more
pub next_last : (labels : List (Entry State PageMove)) (count best : ℕ) (answer : Bool) → best < length labels →
    IsLastAmong labels count best → Said labels best count answer → answer ≡ true →
    IsLastAmong labels (count + 1) count
next_last labels count best answer inside last said holds a b i at_count at within = by (split i count within)
  where
    old : (x : Entry State PageMove) × (slice_get labels best ≡ Some x)
    old = some_at labels best inside

    by : (i < count) ⊎ (i ≡ count) → is_before a b ≡ false
    by (inl less) = behind old.0.state.place a.state.place b.state.place
        (sym (said old.0 a old.1 at_count) ∙ holds) (last old.0 b i old.1 at less)
    by (inr is) = subst (λ (x : Entry State PageMove). is_before a x ≡ false)
        (same_Some a b (sym at_count ∙ subst (λ (k : ℕ). slice_get labels k ≡ Some b) is at)) (itself a.state.place)
