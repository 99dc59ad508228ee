-- Tables by slot, ages that are late, and queues that stay young.
use Rattle.std.proofs.Common.{◌≡◌, ◌≢◌, refl, sym, ap, ◌∙◌, subst, ℕ, zero, suc, ◌+◌, ◌-◌, ◌<◌, ◌≤◌, List, [], ◌∷◌}
use Rattle.std.proofs.Common.{◌++◌, length, map, take, drop, get_or, set, add-one, arith, Bool, true, false, Option}
use Rattle.std.proofs.Common.{Some, None, length-drop}
use Rattle.std.specs.Prelude.{◌==◌, if◌then◌else◌, nat_le, slice_get, sum, replicate, IsNone}
use Rattle.std.specs.Option.{option_map_or, option_or}
use Rattle.std.specs.List.{AllByRecursion, filter, insert, remove}
use Rattle.std.proofs.lemmas.Bool.Decides.{nat_tests}
use Rattle.std.proofs.lemmas.List.{take-append-drop}
use Rattle.std.proofs.lemmas.List.Sums.{sum_by-cons}
use Rattle.pg_style.specs.Classes.{class_in, is_float_class, is_float_kind, float_numbers_of}
use Rattle.pg_style.specs.Ranges.{AreClasses, AreInOrder, IsClass, IsKind}
use Rattle.pg_style.specs.Values.{StyleValue}
use Rattle.pg_style.specs.declared.style.Area.{Area}
use Rattle.pg_style.specs.declared.style.Class.{Class}
use Rattle.pg_style.specs.declared.style.Kind.{Kind}
use Rattle.pg_style.specs.declared.style.Kind.TheVariants.{Note, Float}
use Rattle.pg_rules.specs.Floats.{float_kind, float_numbers}
use Rattle.pg_rules.specs.Floats.{distance_table}
use Rattle.pg_floats.specs.declared.queue.Late.{Late}
use Rattle.pg_floats.specs.QueueValue.{AreYoung, IsOf, IsQueue, QueueValue, none, late_in, late_by, late_of}
use Rattle.pg_floats.specs.QueueValue.{next_table, table_in, float_count_in, with_callout, with_placed}
use Rattle.pg_floats.proofs.Numbers.{above_number, numbers_are}
use Rattle.pg_lemmas.proofs.Lists.{zeros_long}

-- ---- tables

abbrev table_of_number : List Class → ℕ → List ℕ
table_of_number classes number =
    option_map_or (λ (kind : Area × List ℕ). kind.1)
    (option_map_or (λ (class : Class). float_kind class.kind) (class_in classes number) None) []

own_table : (class : Class) (classes : List Class) →
    table_of_number (class ∷ classes) class.number
    ≡ option_map_or (λ (kind : Area × List ℕ). kind.1) (float_kind class.kind) []
own_table class classes = by (class.number == class.number) (same class.number)
  where
    same : (a : ℕ) → (a == a) ≡ true
    same a = grind (arith, nat_tests)

    by : (t : Bool) → t ≡ true →
        option_map_or (λ (kind : Area × List ℕ). kind.1)
        (option_map_or (λ (class : Class). float_kind class.kind)
        (if t then Some class else class_in classes class.number) None) []
        ≡ option_map_or (λ (kind : Area × List ℕ). kind.1) (float_kind class.kind) []
    by true e = refl
    by false e = absurd (cc)

other_table : (class : Class) (classes : List Class) (n : ℕ) → class.number ≢ n →
    table_of_number (class ∷ classes) n ≡ table_of_number classes n
other_table class classes n e = by (class.number == n) (differ class.number n e)
  where
    differ : (a b : ℕ) → a ≢ b → (a == b) ≡ false
    differ a b e = grind (arith, nat_tests)

    by : (t : Bool) → t ≡ false →
        option_map_or (λ (kind : Area × List ℕ). kind.1)
        (option_map_or (λ (class : Class). float_kind class.kind)
        (if t then Some class else class_in classes n) None) [] ≡ table_of_number classes n
    by true e = absurd (cc)
    by false e = refl

tables_from : (classes : List Class) (slot : ℕ) → AreInOrder classes →
    table_in classes slot ≡ option_map_or (table_of_number classes) (slice_get (float_numbers_of classes) slot) []
tables_from [] slot order = refl
tables_from (class ∷ classes) slot order = by class.kind slot refl (λ s. tables_from classes s order.1)
  where
    skip : (slot : ℕ) (o : Option ℕ) → slice_get (float_numbers_of classes) slot ≡ o →
        option_map_or (table_of_number classes) o [] ≡ option_map_or (table_of_number (class ∷ classes)) o []
    skip slot None e = refl
    skip slot (Some n) e =
        sym (other_table class classes n
        (λ f. omega (arith, above_number class.number classes slot n order.0 e, f)))

    by : (kind : Kind) (slot : ℕ) → class.kind ≡ kind →
        ((s : ℕ) → table_in classes s
        ≡ option_map_or (table_of_number classes) (slice_get (float_numbers_of classes) s) []) →
        next_table kind slot (table_in classes slot) (table_in classes (slot - 1))
        ≡ option_map_or (table_of_number (class ∷ classes))
        (slice_get (map (λ (class : Class). class.number)
        (if is_float_kind kind then class ∷ filter is_float_class classes else filter is_float_class classes))
        slot) []
    by (Note s l) slot e ih = ih slot ∙ skip slot (slice_get (float_numbers_of classes) slot) refl
    by (Float a d) zero e ih =
        sym (own_table class classes
        ∙ ap (λ (kind : Kind). option_map_or (λ (kind : Area × List ℕ). kind.1) (float_kind kind) []) e)
    by (Float a d) (suc slot) e ih =
        let t : (suc slot == 0) ≡ false = grind (arith, nat_tests) in
        let m : suc slot - 1 ≡ slot = omega arith in
        ap (λ b. if b then d else table_in classes (suc slot - 1)) t
        ∙ (ap (table_in classes) m ∙ (ih slot ∙ skip slot (slice_get (float_numbers_of classes) slot) refl))

pub tables_are : (style : StyleValue) (slot : ℕ) → AreClasses style.classes →
    table_in style.classes slot ≡ distance_table style slot
tables_are style slot are =
    tables_from style.classes slot are.in_order
    ∙ ap (λ (numbers : List ℕ). option_map_or (table_of_number style.classes) (slice_get numbers slot) [])
    (sym (numbers_are style are))

pub the_count_is : (style : StyleValue) → AreClasses style.classes →
    float_count_in style.classes ≡ length (float_numbers style)
the_count_is style are = counted style.classes ∙ ap length (sym (numbers_are style are))
  where
    counted : (classes : List Class) → float_count_in classes ≡ length (float_numbers_of classes)
    counted [] = refl
    counted (class ∷ classes) = by (is_float_class class) (counted classes)
      where
        by : (t : Bool) → float_count_in classes
            ≡ length (map (λ (class : Class). class.number) (filter is_float_class classes)) →
            (if t then 1 else 0) + float_count_in classes
            ≡ length (map (λ (class : Class). class.number)
            (if t then class ∷ filter is_float_class classes else filter is_float_class classes))
        by true e = omega (arith, e)
        by false e = omega (arith, e)

-- ---- late ages

late_same : (f g : ℕ → ℕ) → ((n : ℕ) → f n ≡ g n) → (slot : ℕ) (waiting ages : List ℕ) →
    late_by f slot waiting ages ≡ late_by g slot waiting ages
late_same f g same slot [] ages = refl
late_same f g same slot (count ∷ waiting) ages =
    ap (λ n. option_or (late_in n slot (take count ages)) (late_by f (slot + 1) waiting (drop count ages)))
    (same slot)
    ∙ ap (option_or (late_in (g slot) slot (take count ages)))
    (late_same f g same (slot + 1) waiting (drop count ages))

pub late_is : (style : StyleValue) (queue : QueueValue) → AreClasses style.classes →
    late_by (λ slot. length (table_in style.classes slot)) 0 queue.waiting queue.ages ≡ late_of style queue
late_is style queue are =
    late_same (λ slot. length (table_in style.classes slot)) (λ slot. length (distance_table style slot))
    (λ n. ap length (tables_are style n are)) 0 queue.waiting queue.ages

-- every age is more than one below its limit
abbrev Below : (ℕ → ℕ) → ℕ → List ℕ → List ℕ → Type 0
Below f slot [] ages = Unit {0}
Below f slot (count ∷ waiting) ages =
    AllByRecursion (λ (age : ℕ). age + 1 < f slot) (take count ages) × Below f (slot + 1) waiting (drop count ages)

none_in : (limit slot : ℕ) (ages : List ℕ) → late_in limit slot ages ≡ None →
    AllByRecursion (λ (age : ℕ). age + 1 < limit) ages
none_in limit slot [] e = tt
none_in limit slot (age ∷ ages) e =
    let two = by (nat_le limit (age + 1)) (late_in limit slot ages) e in
    (less limit (age + 1) two.0, none_in limit slot ages two.1)
  where
    less : (m n : ℕ) → nat_le m n ≡ false → n < m
    less m n e = grind (arith, nat_tests)

    by : (t : Bool) (o : Option Late) → (if t then Some (record { slot = slot; age = limit }) else o) ≡ None →
        (t ≡ false) × (o ≡ None)
    by true o e = absurd (cc)
    by false o e = (refl, e)

none_by : (f : ℕ → ℕ) (slot : ℕ) (waiting ages : List ℕ) → late_by f slot waiting ages ≡ None →
    Below f slot waiting ages
none_by f slot [] ages e = tt
none_by f slot (count ∷ waiting) ages e =
    let two = by (late_in (f slot) slot (take count ages)) (late_by f (slot + 1) waiting (drop count ages)) e in
    (none_in (f slot) slot (take count ages) two.0, none_by f (slot + 1) waiting (drop count ages) two.1)
  where
    by : (o p : Option Late) → option_or o p ≡ None → (o ≡ None) × (p ≡ None)
    by None p e = (refl, e)
    by (Some l) p e = absurd (cc)

all_less : (f n : ℕ) (ages : List ℕ) → f ≤ 9 → AllByRecursion (λ (age : ℕ). age + 1 < f) ages →
    AllByRecursion (λ (age : ℕ). age < 255) ages
all_less f n [] h all = tt
all_less f n (age ∷ ages) h all = let a = all.0 in (omega (arith, a, h), all_less f n ages h all.1)

all_both : (P : ℕ → Type 0) (xs ys : List ℕ) → AllByRecursion P xs → AllByRecursion P ys →
    AllByRecursion P (xs ++ ys)
all_both P [] ys a b = b
all_both P (x ∷ xs) ys a b = (a.0, all_both P xs ys a.1 b)

small_by : (f : ℕ → ℕ) → ((n : ℕ) → f n ≤ 9) → (slot : ℕ) (waiting ages : List ℕ) → sum waiting ≡ length ages →
    Below f slot waiting ages → AllByRecursion (λ (age : ℕ). age < 255) ages
small_by f few slot [] [] e b = tt
small_by f few slot [] (age ∷ ages) e b = absurd (omega (arith, e))
small_by f few slot (count ∷ waiting) ages e b =
    let s = sum_by-cons (λ (n : ℕ). n) count waiting in
    let d = length-drop count ages in
    let rest : sum waiting ≡ length (drop count ages) = omega (arith, e, s, d) in
    subst (AllByRecursion (λ (age : ℕ). age < 255)) (take-append-drop count ages)
    (all_both (λ (age : ℕ). age < 255) (take count ages) (drop count ages)
    (all_less (f slot) slot (take count ages) (few slot) b.0)
    (small_by f few (slot + 1) waiting (drop count ages) rest b.1))

table_few : (style : StyleValue) (classes : List Class) (slot : ℕ) → AllByRecursion IsClass classes →
    length (table_in classes slot) ≤ 9
table_few style [] slot all = omega arith
table_few style (class ∷ classes) slot all =
    by class.kind all.0.kind_in (table_few style classes slot all.1) (table_few style classes (slot - 1) all.1)
  where
    by : (kind : Kind) → IsKind kind → length (table_in classes slot) ≤ 9 →
        length (table_in classes (slot - 1)) ≤ 9 →
        length (next_table kind slot (table_in classes slot) (table_in classes (slot - 1))) ≤ 9
    by (Note s l) range a b = a
    by (Float area d) range a b = pick (slot == 0)
      where
        pick : (t : Bool) → length (if t then d else table_in classes (slot - 1)) ≤ 9
        pick true = range.few
        pick false = b

limits_few : (style : StyleValue) → AreClasses style.classes → (slot : ℕ) → length (distance_table style slot) ≤ 9
limits_few style are slot =
    let e = ap length (tables_are style slot are) in
    let h = table_few style style.classes slot are.each in
    omega (arith, e, h)

pub small : (style : StyleValue) (queue : QueueValue) → AreClasses style.classes →
    sum queue.waiting ≡ length queue.ages → late_of style queue ≡ None →
    AllByRecursion (λ (age : ℕ). age < 255) queue.ages
small style queue are waits e =
    small_by (λ slot. length (distance_table style slot)) (limits_few style are) 0 queue.waiting queue.ages waits
    (none_by (λ slot. length (distance_table style slot)) 0 queue.waiting queue.ages e)

map_take : (n : ℕ) (xs : List ℕ) → take n (map (λ (age : ℕ). age + 1) xs) ≡ map (λ (age : ℕ). age + 1) (take n xs)
map_take zero xs = refl
map_take (suc n) [] = refl
map_take (suc n) (x ∷ xs) = ap (λ ys. (x + 1) ∷ ys) (map_take n xs)

map_drop : (n : ℕ) (xs : List ℕ) → drop n (map (λ (age : ℕ). age + 1) xs) ≡ map (λ (age : ℕ). age + 1) (drop n xs)
map_drop zero xs = refl
map_drop (suc n) [] = refl
map_drop (suc n) (x ∷ xs) = map_drop n xs

young_turned : (style : StyleValue) (slot : ℕ) (waiting ages : List ℕ) →
    Below (λ slot. length (distance_table style slot)) slot waiting ages →
    AreYoung style slot waiting (map (λ (age : ℕ). age + 1) ages)
young_turned style slot [] ages b = tt
young_turned style slot (count ∷ waiting) ages b = (
  subst (AllByRecursion (λ (age : ℕ). age < length (distance_table style slot))) (sym (map_take count ages))
      (older (take count ages) b.0),
  subst (AreYoung style (slot + 1) waiting) (sym (map_drop count ages))
      (young_turned style (slot + 1) waiting (drop count ages) b.1),
)
  where
    older : (xs : List ℕ) → AllByRecursion (λ (age : ℕ). age + 1 < length (distance_table style slot)) xs →
        AllByRecursion (λ (age : ℕ). age < length (distance_table style slot)) (map (λ (age : ℕ). age + 1) xs)
    older [] all = tt
    older (x ∷ xs) all = (all.0, older xs all.1)

pub of_turned : (style : StyleValue) (queue : QueueValue) → length queue.waiting ≡ length (float_numbers style) →
    late_of style queue ≡ None →
    IsOf style (record {
      placed = queue.placed;
      waiting = queue.waiting;
      ages =
          map (λ (age : ℕ). age + 1) queue.ages;
    })
of_turned style queue slots e = record {
  slots = slots;
  young = young_turned style 0 queue.waiting queue.ages
      (none_by (λ slot. length (distance_table style slot)) 0 queue.waiting queue.ages e);
}

-- ---- a queue without floats

young_none : (style : StyleValue) (slot n : ℕ) → AreYoung style slot (replicate n 0) []
young_none style slot zero = tt
young_none style slot (suc n) = (tt, young_none style (slot + 1) n)

pub of_none : (style : StyleValue) → IsOf style (none style)
of_none style = record {
  slots = zeros_long (length (float_numbers style));
  young =
      young_none style 0 (length (float_numbers style));
}

-- ---- the first float of a class

pub young_first : (style : StyleValue) (s slot : ℕ) (waiting ages : List ℕ) → slot < length waiting →
    0 < get_or waiting slot 0 → sum waiting ≡ length ages → AreYoung style s waiting ages →
    get_or ages (sum (take slot waiting)) 0 < length (distance_table style (s + slot))
young_first style s slot [] ages h some e young = absurd (omega (arith, h))
young_first style s zero (count ∷ waiting) ages h some e young =
    let c = sum_by-cons (λ (n : ℕ). n) count waiting in
    let first = front count ages some (omega (arith, e, c)) young.0 in
    let z : s ≡ s + 0 = omega arith in
    subst (λ n. get_or ages 0 0 < length (distance_table style n)) z first
  where
    front : (count : ℕ) (ages : List ℕ) → 0 < count → count ≤ length ages →
        AllByRecursion (λ (age : ℕ). age < length (distance_table style s)) (take count ages) →
        get_or ages 0 0 < length (distance_table style s)
    front zero ages h l all = absurd (omega arith)
    front (suc n) [] h l all = absurd (omega arith)
    front (suc n) (age ∷ ages) h l all = all.0
young_first style s (suc slot) (count ∷ waiting) ages h some e young =
    let c = sum_by-cons (λ (n : ℕ). n) count waiting in
    let t = sum_by-cons (λ (n : ℕ). n) count (take slot waiting) in
    let d = length-drop count ages in
    let rest : sum waiting ≡ length (drop count ages) = omega (arith, e, c, d) in
    let r = young_first style (s + 1) slot waiting (drop count ages) (omega arith) some rest young.1 in
    let z : s + 1 + slot ≡ s + suc slot = omega arith in
    let at : get_or (drop count ages) (sum (take slot waiting)) 0
    ≡ get_or ages (sum (count ∷ take slot waiting)) 0 =
    dropped count ages (sum (take slot waiting)) ∙ ap (λ n. get_or ages n 0) (sym t) in
    subst (λ n. get_or ages (sum (count ∷ take slot waiting)) 0 < length (distance_table style n)) z
    (subst (λ n. n < length (distance_table style (s + 1 + slot))) at r)
  where
    dropped : (n : ℕ) (xs : List ℕ) (k : ℕ) → get_or (drop n xs) k 0 ≡ get_or xs (n + k) 0
    dropped zero xs k = let e : k ≡ 0 + k = omega arith in ap (λ m. get_or xs m 0) e
    dropped (suc n) [] k = refl
    dropped (suc n) (x ∷ xs) k = let e : suc (n + k) ≡ suc n + k = omega arith in
        dropped n xs k ∙ ap (λ m. get_or (x ∷ xs) m 0) e

pub none_is : {X : Type 0} (o : Option X) → IsNone o → o ≡ None
none_is None h = refl
none_is (Some x) h = absurd (cc)

pub positive : (n : ℕ) → (n ≡ 0 → ⊥) → 0 < n
positive zero h = absurd (h refl)
positive (suc n) h = omega arith

-- ---- a queue stays young

table_some : (classes : List Class) (slot : ℕ) → AllByRecursion IsClass classes → slot < float_count_in classes →
    0 < length (table_in classes slot)
table_some [] slot all h = absurd (omega arith)
table_some (class ∷ classes) slot all h = by class.kind slot all.0.kind_in h (λ s l. table_some classes s all.1 l)
  where
    by : (kind : Kind) (slot : ℕ) → IsKind kind →
        slot < (if is_float_kind kind then 1 else 0) + float_count_in classes →
        ((s : ℕ) → s < float_count_in classes → 0 < length (table_in classes s)) →
        0 < length (next_table kind slot (table_in classes slot) (table_in classes (slot - 1)))
    by (Note s l) slot range h ih = ih slot (omega (arith, h))
    by (Float area d) zero range h ih = omega (arith, range.some)
    by (Float area d) (suc slot) range h ih =
        let t : (suc slot == 0) ≡ false = grind (arith, nat_tests) in
        let l : suc slot - 1 < float_count_in classes = omega (arith, h) in
        subst (λ b. 0 < length (if b then d else table_in classes (suc slot - 1))) (sym t) (ih (suc slot - 1) l)

limit_some : (style : StyleValue) (slot : ℕ) → AreClasses style.classes → slot < length (float_numbers style) →
    0 < length (distance_table style slot)
limit_some style slot are h =
    let n = the_count_is style are in
    let t = table_some style.classes slot are.each (omega (arith, h, n)) in
    subst (λ (xs : List ℕ). 0 < length xs) (tables_are style slot are) t

pub near_take : (n : ℕ) (xs : List ℕ) → n ≤ length xs → take (suc n) (take n xs ++ 0 ∷ drop n xs) ≡ take n xs ++ 0 ∷ []
near_take zero xs h = refl
near_take (suc n) [] h = absurd (omega arith)
near_take (suc n) (x ∷ xs) h = ap (λ ys. x ∷ ys) (near_take n xs (omega arith))

pub near_drop : (n : ℕ) (xs : List ℕ) → n ≤ length xs → drop (suc n) (take n xs ++ 0 ∷ drop n xs) ≡ drop n xs
near_drop zero xs h = refl
near_drop (suc n) [] h = absurd (omega arith)
near_drop (suc n) (x ∷ xs) h = near_drop n xs (omega arith)

pub far_take : (n j m : ℕ) (xs : List ℕ) (ys : List ℕ) → m ≡ n + j → n ≤ length xs →
    take n (take m xs ++ ys) ≡ take n xs
far_take zero j m xs ys e h = refl
far_take (suc n) j zero xs ys e h = absurd (omega (arith, e))
far_take (suc n) j (suc m) [] ys e h = absurd (omega arith)
far_take (suc n) j (suc m) (x ∷ xs) ys e h =
    ap (λ zs. x ∷ zs) (far_take n j m xs ys (omega (arith, e)) (omega arith))

pub far_drop : (n j m : ℕ) (xs : List ℕ) (ys : List ℕ) → m ≡ n + j → n ≤ length xs →
    drop n (take m xs ++ ys) ≡ take j (drop n xs) ++ ys
far_drop zero j m xs ys e h = let same : m ≡ j = omega (arith, e) in ap (λ k. take k xs ++ ys) same
far_drop (suc n) j zero xs ys e h = absurd (omega (arith, e))
far_drop (suc n) j (suc m) [] ys e h = absurd (omega arith)
far_drop (suc n) j (suc m) (x ∷ xs) ys e h = far_drop n j m xs ys (omega (arith, e)) (omega arith)

pub drop_more : (n j m : ℕ) (xs : List ℕ) → m ≡ n + j → drop m xs ≡ drop j (drop n xs)
drop_more zero j m xs e = let same : m ≡ j = omega (arith, e) in ap (λ k. drop k xs) same
drop_more (suc n) j zero xs e = absurd (omega (arith, e))
drop_more (suc n) j (suc m) [] e = sym (none-left j)
  where
    none-left : (j : ℕ) → ◌≡◌ {A = List ℕ} (drop j []) []
    none-left zero = refl
    none-left (suc j) = refl
drop_more (suc n) j (suc m) (x ∷ xs) e = drop_more n j m xs (omega (arith, e))

pub sum_one : (n : ℕ) → sum (n ∷ []) ≡ n
sum_one n = omega (arith, sum_by-cons (λ (m : ℕ). m) n [])

young_insert : (style : StyleValue) (s slot : ℕ) (waiting ages : List ℕ) → slot < length waiting →
    sum waiting ≡ length ages → 0 < length (distance_table style (s + slot)) → AreYoung style s waiting ages →
    AreYoung style s (set waiting slot (get_or waiting slot 0 + 1)) (insert ages (sum (take (slot + 1) waiting)) 0)
young_insert style s slot [] ages h e some young = absurd (omega (arith, h))
young_insert style s zero (count ∷ waiting) ages h e some young =
    let c = sum_by-cons (λ (n : ℕ). n) count waiting in
    let few : count ≤ length ages = omega (arith, e, c) in
    let z : s + 0 ≡ s = omega arith in
    let own = subst (λ n. 0 < length (distance_table style n)) z some in
    let P : ℕ → Type 0 = λ n. AllByRecursion (λ (age : ℕ). age < length (distance_table style s))
    (take n (insert ages count 0)) × AreYoung style (s + 1) waiting (drop n (insert ages count 0)) in
    let Q : ℕ → Type 0 = λ n. AllByRecursion (λ (age : ℕ). age < length (distance_table style s))
    (take (count + 1) (insert ages n 0))
    × AreYoung style (s + 1) waiting (drop (count + 1) (insert ages n 0)) in
    subst Q (sym (sum_one count)) (subst P (sym (add-one count)) (
      subst (AllByRecursion (λ (age : ℕ). age < length (distance_table style s))) (sym (near_take count ages few))
          (all_both (λ (age : ℕ). age < length (distance_table style s)) (take count ages) (0 ∷ []) young.0
          (own, tt)),
      subst (AreYoung style (s + 1) waiting) (sym (near_drop count ages few)) young.1,
    ))
young_insert style s (suc slot) (count ∷ waiting) ages h e some young =
    let c = sum_by-cons (λ (n : ℕ). n) count waiting in
    let few : count ≤ length ages = omega (arith, e, c) in
    let d = length-drop count ages in
    let rest : sum waiting ≡ length (drop count ages) = omega (arith, e, c, d) in
    let z : s + suc slot ≡ s + 1 + slot = omega arith in
    let own = subst (λ n. 0 < length (distance_table style n)) z some in
    let j : ℕ = sum (take (slot + 1) waiting) in
    let next : suc slot + 1 ≡ suc (slot + 1) = omega arith in
    let m : sum (take (suc slot + 1) (count ∷ waiting)) ≡ count + j =
    ap (λ n. sum (take n (count ∷ waiting))) next ∙ sum_by-cons (λ (n : ℕ). n) count (take (slot + 1) waiting) in
    let i : ℕ = sum (take (suc slot + 1) (count ∷ waiting)) in
    let ih = young_insert style (s + 1) slot waiting (drop count ages) (omega arith) rest own young.1 in (
      subst (AllByRecursion (λ (age : ℕ). age < length (distance_table style s)))
          (sym (far_take count j i ages (0 ∷ drop i ages) m few)) young.0,
      subst (AreYoung style (s + 1) (set waiting slot (get_or waiting slot 0 + 1)))
          (sym (far_drop count j i ages (0 ∷ drop i ages) m few
          ∙ ap (λ (xs : List ℕ). take j (drop count ages) ++ 0 ∷ xs) (drop_more count j i ages m))) ih,
    )

young_remove : (style : StyleValue) (s slot : ℕ) (waiting ages : List ℕ) → slot < length waiting →
    0 < get_or waiting slot 0 → sum waiting ≡ length ages → AreYoung style s waiting ages →
    AreYoung style s (set waiting slot (get_or waiting slot 0 - 1)) (remove ages (sum (take slot waiting)))
young_remove style s slot [] ages h some e young = absurd (omega (arith, h))
young_remove style s zero (zero ∷ waiting) ages h some e young = absurd (omega (arith, some))
young_remove style s zero (suc n ∷ waiting) [] h some e young =
    absurd (omega (arith, e, sum_by-cons (λ (n : ℕ). n) (suc n) waiting))
young_remove style s zero (suc n ∷ waiting) (age ∷ ages) h some e young =
    let P : ℕ → Type 0 = λ m. AllByRecursion (λ (age : ℕ). age < length (distance_table style s)) (take m ages)
    × AreYoung style (s + 1) waiting (drop m ages) in
    let same : n ≡ suc n - 1 = omega arith in
    subst P same (young.0.1, young.1)
young_remove style s (suc slot) (count ∷ waiting) ages h some e young =
    let c = sum_by-cons (λ (n : ℕ). n) count waiting in
    let few : count ≤ length ages = omega (arith, e, c) in
    let d = length-drop count ages in
    let rest : sum waiting ≡ length (drop count ages) = omega (arith, e, c, d) in
    let j : ℕ = sum (take slot waiting) in
    let i : ℕ = sum (take (suc slot) (count ∷ waiting)) in
    let m : i ≡ count + j = sum_by-cons (λ (n : ℕ). n) count (take slot waiting) in
    let more : suc i ≡ count + suc j = omega (arith, m) in
    let ih = young_remove style (s + 1) slot waiting (drop count ages) (omega arith) some rest young.1 in (
      subst (AllByRecursion (λ (age : ℕ). age < length (distance_table style s)))
          (sym (far_take count j i ages (drop (suc i) ages) m few)) young.0,
      subst (AreYoung style (s + 1) (set waiting slot (get_or waiting slot 0 - 1)))
          (sym (far_drop count j i ages (drop (suc i) ages) m few
          ∙ ap (λ (xs : List ℕ). take j (drop count ages) ++ xs) (drop_more count (suc j) (suc i) ages more))) ih,
    )

pub set_long : (xs : List ℕ) (i v : ℕ) → length (set xs i v) ≡ length xs
set_long [] i v = refl
set_long (x ∷ xs) zero v = refl
set_long (x ∷ xs) (suc i) v = ap suc (set_long xs i v)

pub of_callout : (style : StyleValue) (queue : QueueValue) (slot : ℕ) → AreClasses style.classes → IsQueue queue →
    IsOf style queue → slot < length queue.waiting → IsOf style (with_callout queue slot)
of_callout style queue slot are is of h = record {
  slots = set_long queue.waiting slot (get_or queue.waiting slot 0 + 1) ∙ of.slots;
  young = young_insert style 0 slot queue.waiting queue.ages h is.each_waits
      (limit_some style (0 + slot) are (omega (arith, h, of.slots))) of.young;
}

pub of_placed : (style : StyleValue) (queue : QueueValue) (slot : ℕ) → IsQueue queue → IsOf style queue →
    slot < length queue.waiting → 0 < get_or queue.waiting slot 0 → IsOf style (with_placed queue slot)
of_placed style queue slot is of h some = record {
  slots = set_long queue.waiting slot (get_or queue.waiting slot 0 - 1) ∙ of.slots;
  young = young_remove style 0 slot queue.waiting queue.ages h some is.each_waits of.young;
}
