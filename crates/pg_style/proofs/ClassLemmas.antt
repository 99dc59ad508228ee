-- One more class among those in order.
use Rattle.std.proofs.Common.{◌≡◌, ◌∙◌, refl, sym, ap, subst, arith, ℕ, ◌+◌, ◌<◌, ◌≤◌, List, [], ◌∷◌, length, take, Bool, true, false, Option, Some, None, suc}
use Rattle.std.specs.Prelude.{◌==◌, nat_lt, if◌then◌else◌, slice_set}
use Rattle.std.specs.List.{AllByRecursion, copy_within, insert, prefix_len}
use Rattle.std.proofs.lemmas.Bool.Decides.{nat_tests}
use Rattle.std.proofs.lemmas.List.{length-take}
use Rattle.pg_style.specs.declared.style.Class.{Class}
use Rattle.pg_style.specs.Classes.{class_in, inserted}
use Rattle.pg_lemmas.proofs.InPlace.{one_in}
use Rattle.pg_style.specs.Ranges.{AreInOrder, AreClasses, IsClass}

insert_step : (b : Bool) (first class : Class) (classes : List Class) (n : ℕ) → insert classes n class ≡ inserted class classes
    → insert (first ∷ classes) (if b then 1 + n else 0) class ≡ (if b then first ∷ inserted class classes else class ∷ first ∷ classes)
insert_step true first class classes n e = let next : 1 + n ≡ suc n = omega arith in rw next (ap (λ (cs : List Class). first ∷ cs) e)
insert_step false first class classes n e = refl

pub insert_place : (class : Class) (classes : List Class) → insert classes (prefix_len (λ (other : Class). nat_lt other.number class.number) classes) class ≡ inserted class classes
insert_place class [] = refl
insert_place class (first ∷ classes) =
    insert_step (nat_lt first.number class.number) first class classes (prefix_len (λ (other : Class). nat_lt other.number class.number) classes) (insert_place class classes)

pub inserted_is : (old given new : List Class) (class : Class) (index : ℕ) → new ≡ insert old index class → given ≡ old
    → index ≡ prefix_len (λ (other : Class). nat_lt other.number class.number) given → new ≡ inserted class old
inserted_is old given new class index put same is =
    let there : index ≡ prefix_len (λ (other : Class). nat_lt other.number class.number) old = subst (λ (cs : List Class). index ≡ prefix_len (λ (other : Class). nat_lt other.number class.number) cs) same is in
    put ∙ ap (λ (i : ℕ). insert old i class) there ∙ insert_place class old

all_step : (P : Class → Type 0) (b : Bool) (first class : Class) (classes : List Class) → AllByRecursion P (first ∷ classes) → AllByRecursion P (inserted class classes) → P class
    → AllByRecursion P (if b then first ∷ inserted class classes else class ∷ first ∷ classes)
all_step P true first class classes all more one = (all.0, more)
all_step P false first class classes all more one = (one, all)

pub all_inserted : (P : Class → Type 0) (class : Class) (classes : List Class) → AllByRecursion P classes → P class → AllByRecursion P (inserted class classes)
all_inserted P class [] all one = (one, tt)
all_inserted P class (first ∷ classes) all one = all_step P (nat_lt first.number class.number) first class classes all (all_inserted P class classes all.1 one) one

none_after : (b : Bool) (first : Class) (found : Option Class) → (if b then Some first else found) ≡ None → (b ≡ false) × (found ≡ None)
none_after true first found e = absurd (cc)
none_after false first found e = (refl, e)

all_above : (n m : ℕ) (classes : List Class) → n < m → AllByRecursion (λ (later : Class). m < later.number) classes → AllByRecursion (λ (later : Class). n < later.number) classes
all_above n m [] h all = tt
all_above n m (class ∷ classes) h all = (omega (arith, all.0), all_above n m classes h all.1)

order_step : (b : Bool) (first class : Class) (classes : List Class) → b ≡ nat_lt first.number class.number → (first.number == class.number) ≡ false → AreInOrder (first ∷ classes)
    → AreInOrder (inserted class classes) → AreInOrder (if b then first ∷ inserted class classes else class ∷ first ∷ classes)
order_step true first class classes e differ order more =
    let below : first.number < class.number = grind (arith, nat_tests) in
    (all_inserted (λ (later : Class). first.number < later.number) class classes order.0 below, more)
order_step false first class classes e differ order more =
    let above : class.number < first.number = grind (arith, nat_tests) in
    ((above, all_above class.number first.number classes above order.0), order)

in_order : (class : Class) (classes : List Class) → AreInOrder classes → class_in classes class.number ≡ None → AreInOrder (inserted class classes)
in_order class [] order none = (tt, tt)
in_order class (first ∷ classes) order none =
    let parts = none_after (first.number == class.number) first (class_in classes class.number) none in
    order_step (nat_lt first.number class.number) first class classes refl parts.0 order (in_order class classes order.1 parts.1)

pub length_step : (b : Bool) (first class : Class) (classes : List Class) → length (inserted class classes) ≡ length classes + 1
    → length (if b then first ∷ inserted class classes else class ∷ first ∷ classes) ≡ length (first ∷ classes) + 1
length_step true first class classes e = omega (arith, e)
length_step false first class classes e = omega arith

pub length_inserted : (class : Class) (classes : List Class) → length (inserted class classes) ≡ length classes + 1
length_inserted class [] = refl
length_inserted class (first ∷ classes) = length_step (nat_lt first.number class.number) first class classes (length_inserted class classes)

pub one_more : (class : Class) (classes : List Class) → AreClasses classes → length classes < 8 → IsClass class → class_in classes class.number ≡ None → AreClasses (inserted class classes)
one_more class classes are few is none = record {
  few = omega (arith, length_inserted class classes);
  in_order = in_order class classes are.in_order none;
  each = all_inserted IsClass class classes are.each is;
}

-- the class among the first of the places
pub put_in : (places moved old : List Class) (n index : ℕ) (class : Class) → take n places ≡ old → length places ≡ 8 → n ≤ 8
    → length old < 8 → moved ≡ copy_within places index n (index + 1)
    → index ≡ prefix_len (λ (other : Class). nat_lt other.number class.number) (take n places) → index ≤ length (take n places)
    → take (n + 1) (slice_set moved index class) ≡ inserted class old
put_in places moved old n index class view all count few move below within =
    let least : index ≤ n = omega (arith, length-take n places, within) in
    let room : n < length places = omega (arith, length-take n places, all, count, subst (λ (cs : List Class). length cs < 8) (sym view) few) in
    inserted_is old (take n places) (take (n + 1) (slice_set moved index class)) class index
    (ap (λ (cs : List Class). take (n + 1) (slice_set cs index class)) move ∙ one_in places n index class least room
    ∙ ap (λ (cs : List Class). insert cs index class) view) view below

-- the places keep what classes keep
pub keeps_on : (places old new : List Class) (n : ℕ) (class : Class) → new ≡ inserted class old → take n places ≡ old
    → length places ≡ 8 → n ≤ 8 → length old < 8 → AreClasses (take n places) → IsClass class → class_in old class.number ≡ None
    → AreClasses new × (n + 1 ≤ 8)
keeps_on places old new n class put view all count few are is none =
    let same = subst (λ (cs : List Class). length cs < 8) (sym view) few in
    (subst AreClasses (sym put) (one_more class old (subst AreClasses view are) few is none), omega (arith, length-take n places, all, count, same))
