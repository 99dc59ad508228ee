-- Classes of which one has another kind, made one after another.
use Rattle.std.proofs.Common.{◌≡◌, refl, sym, ap, subst, ◌∙◌, ℕ, zero, suc, ◌+◌, ◌<◌, ◌≤◌, List, [], ◌∷◌, length, take, Bool, true, false, Some, None, arith}
use Rattle.std.specs.Prelude.{◌==◌, nat_lt, slice_get}
use Rattle.std.specs.List.{AllByRecursion}
use Rattle.std.proofs.Math.Dec.{eqb-suc-suc}
use Rattle.std.proofs.lemmas.List.{length-take}
use Rattle.std.proofs.lemmas.Option.{same_Some}
use Rattle.pg_lemmas.proofs.Bools.{if_false, if_true}
use Rattle.pg_lemmas.proofs.Numbers.{eq_no, less_of, suc_not}
use Rattle.pg_style.specs.Classes.{class_in, inserted}
use Rattle.pg_style.specs.Ranges.{AreClasses, AreInOrder, AreRigidClasses, IsClass, IsKind, IsRigidKind}
use Rattle.pg_style.specs.declared.style.Class.{Class}
use Rattle.pg_style.specs.declared.style.Kind.{Kind}
use Rattle.pg_changes.specs.Numbers.{kinded_at, kinded_class}

pub long : (cs : List Class) (index : ℕ) (kind : Kind) → length (kinded_at cs index kind) ≡ length cs
long [] index kind = refl
long (c ∷ cs) zero kind = refl
long (c ∷ cs) (suc index) kind = ap suc (long cs index kind)

both_next : (m n : ℕ) → (suc m == suc n) ≡ (m == n)
both_next m n = eqb-suc-suc m n

-- what stands at a place
pub stands : (cs : List Class) (index at : ℕ) (kind : Kind) (c : Class) → slice_get cs at ≡ Some c →
    slice_get (kinded_at cs index kind) at ≡ Some (kinded_class (at == index) c kind)
stands [] index at kind c is = absurd cc
stands (x ∷ cs) zero zero kind c is = ap (λ (y : Class). Some (kinded_class true y kind)) (same_Some x c is)
stands (x ∷ cs) zero (suc at) kind c is = is ∙ ap (λ (b : Bool). Some (kinded_class b c kind)) (sym (suc_not at))
stands (x ∷ cs) (suc index) zero kind c is =
    is ∙ ap (λ (b : Bool). Some (kinded_class b c kind)) (sym (eq_no 0 (suc index) (omega arith)))
stands (x ∷ cs) (suc index) (suc at) kind c is =
    stands cs index at kind c is ∙ ap (λ (b : Bool). Some (kinded_class b c kind)) (sym (both_next at index))

-- none of 8 classes is the one at 8
pub past : (cs : List Class) (index : ℕ) (kind : Kind) → length cs ≤ index → kinded_at cs index kind ≡ cs
past [] index kind h = refl
past (c ∷ cs) zero kind h = absurd (omega (arith, h))
past (c ∷ cs) (suc index) kind h = ap (λ (xs : List Class). c ∷ xs) (past cs index kind (omega (arith, h)))

all_above : (k : ℕ) (cs : List Class) (index : ℕ) (kind : Kind) →
    AllByRecursion (λ (later : Class). k < later.number) cs →
    AllByRecursion (λ (later : Class). k < later.number) (kinded_at cs index kind)
all_above k [] index kind all = tt
all_above k (c ∷ cs) zero kind all = (all.0, all.1)
all_above k (c ∷ cs) (suc index) kind all = (all.0, all_above k cs index kind all.1)

pub in_order : (cs : List Class) (index : ℕ) (kind : Kind) → AreInOrder cs → AreInOrder (kinded_at cs index kind)
in_order [] index kind order = tt
in_order (c ∷ cs) zero kind order = (order.0, order.1)
in_order (c ∷ cs) (suc index) kind order =
    (all_above c.number cs index kind order.0, in_order cs index kind order.1)

-- skips that give nothing
pub all_rigid : (cs : List Class) (index : ℕ) (kind : Kind) → IsRigidKind kind → AreRigidClasses cs →
    AreRigidClasses (kinded_at cs index kind)
all_rigid [] index kind stiff all = tt
all_rigid (c ∷ cs) zero kind stiff all = (stiff, all.1)
all_rigid (c ∷ cs) (suc index) kind stiff all = (all.0, all_rigid cs index kind stiff all.1)

-- ---- one class

pub class_is : (b : Bool) (c : Class) (kind : Kind) → IsClass c → IsKind kind → IsClass (kinded_class b c kind)
class_is true c kind is new = record { number_in = is.number_in; kind_in = new }
class_is false c kind is new = is

pub each_at : (cs : List Class) (at : ℕ) (c : Class) → AllByRecursion IsClass cs → slice_get cs at ≡ Some c → IsClass c
each_at [] at c all is = absurd cc
each_at (x ∷ cs) zero c all is = subst IsClass (same_Some x c is) all.0
each_at (x ∷ cs) (suc at) c all is = each_at cs at c all.1 is

-- ---- one class more

later_at : (k : ℕ) (cs : List Class) (at : ℕ) (c : Class) → AllByRecursion (λ (later : Class). k < later.number) cs →
    slice_get cs at ≡ Some c → k < c.number
later_at k [] at c all is = absurd cc
later_at k (x ∷ cs) zero c all is = subst (λ (y : Class). k < y.number) (same_Some x c is) all.0
later_at k (x ∷ cs) (suc at) c all is = later_at k cs at c all.1 is

-- none before has its number
pub absent : (cs : List Class) (at : ℕ) (c : Class) → AreInOrder cs → slice_get cs at ≡ Some c →
    class_in (take at cs) c.number ≡ None
absent [] at c order is = absurd cc
absent (x ∷ cs) zero c order is = refl
absent (x ∷ cs) (suc at) c order is =
    if_false (x.number == c.number) (Some x) (class_in (take at cs) c.number)
    (eq_no x.number c.number (later_at x.number cs at c order.0 is))
    ∙ absent cs at c order.1 is

-- it goes to the end
pub last : (cs : List Class) (at : ℕ) (c : Class) → AreInOrder cs → slice_get cs at ≡ Some c →
    inserted c (take at cs) ≡ take (suc at) cs
last [] at c order is = absurd cc
last (x ∷ cs) zero c order is = ap (λ (y : Class). y ∷ []) (sym (same_Some x c is))
last (x ∷ cs) (suc at) c order is =
    if_true (nat_lt x.number c.number) (x ∷ inserted c (take at cs)) (c ∷ x ∷ take at cs)
    (less_of x.number c.number (later_at x.number cs at c order.0 is))
    ∙ ap (λ (xs : List Class). x ∷ xs) (last cs at c order.1 is)

-- ---- step by step

module _ (all : List Class) (index at : ℕ) (kind : Kind) (x c : Class) (before : List Class) (order : AreInOrder all)
    (is : slice_get all at ≡ Some x) (made : c ≡ kinded_class (at == index) x kind)
    (so_far : before ≡ take at (kinded_at all index kind)) where
  standing : slice_get (kinded_at all index kind) at ≡ Some c
  standing = stands all index at kind x is ∙ ap Some (sym made)

  pub none_before : class_in before c.number ≡ None
  none_before = ap (λ (cs : List Class). class_in cs c.number) so_far
      ∙ absent (kinded_at all index kind) at c (in_order all index kind order) standing

  pub one_more : (after : List Class) → after ≡ inserted c before → after ≡ take (at + 1) (kinded_at all index kind)
  one_more after is_it =
      let next : suc at ≡ at + 1 = omega arith in
      is_it ∙ (ap (inserted c) so_far ∙ (last (kinded_at all index kind) at c (in_order all index kind order) standing
      ∙ ap (λ (n : ℕ). take n (kinded_at all index kind)) next))

found : (cs : List Class) (at : ℕ) → at < length cs → (x : Class) × (slice_get cs at ≡ Some x)
found [] at h = absurd (omega (arith, h))
found (x ∷ cs) zero h = (x, refl)
found (x ∷ cs) (suc at) h = found cs at (omega (arith, h))

-- the same by what is told of each class at the place
module _ (all : List Class) (index at : ℕ) (kind : Kind) (c : Class) (before : List Class) (are : AreClasses all)
    (is_kind : IsKind kind) (within : at < length all)
    (made : (x : Class) → slice_get all at ≡ Some x → c ≡ kinded_class (at == index) x kind)
    (so_far : before ≡ take at (kinded_at all index kind)) where
  there : (x : Class) × (slice_get all at ≡ Some x)
  there = found all at within

  pub put_class : IsClass c
  put_class = subst IsClass (sym (made there.0 there.1))
      (class_is (at == index) there.0 kind (each_at all at there.0 are.each there.1) is_kind)

  pub put_number : class_in before c.number ≡ None
  put_number = none_before all index at kind there.0 c before are.in_order there.1 (made there.0 there.1) so_far

  pub put_last : (after : List Class) → after ≡ inserted c before → after ≡ take (at + 1) (kinded_at all index kind)
  put_last = one_more all index at kind there.0 c before are.in_order there.1 (made there.0 there.1) so_far

pub few_before : (all : List Class) (index at : ℕ) (kind : Kind) (before : List Class) → at < length all →
    length all ≤ 8 → before ≡ take at (kinded_at all index kind) → length before < 8
few_before all index at kind before within few so_far =
    let same_long : length before ≡ length (take at (kinded_at all index kind)) = ap length so_far in
    let cut = length-take at (kinded_at all index kind) in
    let same = long all index kind in
    omega (arith, same_long, cut, same, within, few)

pub whole : (all : List Class) (index at : ℕ) (kind : Kind) (made : List Class) → length all ≤ at →
    made ≡ take at (kinded_at all index kind) → made ≡ kinded_at all index kind
whole all index at kind made past_all so_far =
    let same = long all index kind in
    so_far ∙ take_all at (kinded_at all index kind) (omega (arith, same, past_all))
  where
    take_all : (n : ℕ) (cs : List Class) → length cs ≤ n → take n cs ≡ cs
    take_all zero [] h = refl
    take_all zero (c ∷ cs) h = absurd (omega (arith, h))
    take_all (suc n) [] h = refl
    take_all (suc n) (c ∷ cs) h = ap (λ (xs : List Class). c ∷ xs) (take_all n cs (omega (arith, h)))
