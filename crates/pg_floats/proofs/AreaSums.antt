-- The floats that counts deal out, counted and added, and those of the definition.
use Rattle.std.proofs.Common.{◌≡◌, refl, sym, ap, ◌∙◌, ℕ, zero, suc, ◌+◌, ◌*◌, ◌-◌, ◌^◌, ◌<◌, ◌≤◌, List, [], ◌∷◌}
use Rattle.std.proofs.Common.{◌++◌, length, length-append, map, take, drop, arith, true, false, Some, None, ℤ, pos}
use Rattle.std.proofs.Common.{◌+ℤ◌, ◌*ℤ◌, ◌≤ℤ◌}
use Rattle.std.specs.Prelude.{◌==◌, ◌&&◌, ◌||◌, nat_le, if◌then◌else◌, unsigned_abs}
use Rattle.std.specs.List.{AllByRecursion}
use Rattle.std.proofs.lemmas.Int.{ints}
use Rattle.std.proofs.lemmas.Bool.Decides.{nat_tests}
use Rattle.std.proofs.lemmas.List.{map-append, length-map}
use Rattle.std.proofs.lemmas.List.Sums.{sum_by-cons, sum_by-append}
use Rattle.pg_list.specs.declared.blocks.Block.{Block}
use Rattle.pg_list.specs.declared.item.Item.{Item}
use Rattle.pg_list.specs.Shapes.{IsBlock}
use Rattle.pg_list.specs.Flat.{flat}
use Rattle.pg_list.specs.Whole.{whole_sum_by}
use Rattle.pg_style.specs.Ranges.{IsAreaRule}
use Rattle.pg_style.specs.Values.{AreaRuleValue, StyleValue}
use Rattle.pg_rules.specs.Floats.{entry, dealt_from, dealt, has_all_from, has_all, area_height, sizes_of}
use Rattle.pg_rules.specs.Floats.{float_numbers, floats}
use Rattle.pg_floats.specs.declared.area.Dealt.{Dealt}
use Rattle.pg_floats.specs.declared.callouts.Callout.{Callout}
use Rattle.pg_floats.specs.AreFloats.{AreFloats, count_of, height_of}
use Rattle.pg_floats.specs.Areas.{sizes_together, next_of, has_next, has_dealt, dealt_count, dealt_sizes, area_size}
use Rattle.pg_floats.specs.Areas.{IsDealt}
use Rattle.pg_floats.specs.Callouts.{callouts_from, class_floats, no_barrier}
use Rattle.pg_floats.specs.FloatsValue.{ClassFloatsValue, IsInRange, total_of}
use Rattle.pg_floats.proofs.Lists.{size_of, sizes_from, flat_first}
use Rattle.pg_lemmas.proofs.Numbers.{length_is}

pub sum_few : (callouts : List Callout) → AllByRecursion IsInRange callouts →
    sizes_together callouts ≤ 2 ^ 30 * length callouts
sum_few [] all = omega arith
sum_few (c ∷ callouts) all =
    let e = sum_by-cons (λ (callout : Callout). callout.size) c callouts in
    let r = sum_few callouts all.1 in
    let h = all.0 in
    omega (arith, e, r, h)

next_few : (callouts : List Callout) (from count : ℕ) → length (next_of callouts from count) ≤ length callouts
next_few callouts from count =
    let a = drop-few from callouts in
    let b = take_few count (drop from callouts) in
    omega (arith, a, b)
  where
    drop-few : (n : ℕ) (xs : List Callout) → length (drop n xs) ≤ length xs
    drop-few zero xs = omega arith
    drop-few (suc n) [] = omega arith
    drop-few (suc n) (x ∷ xs) = let r = drop-few n xs in omega (arith, r)

    take_few : (n : ℕ) (xs : List Callout) → length (take n xs) ≤ length xs
    take_few zero xs = omega arith
    take_few (suc n) [] = omega arith
    take_few (suc n) (x ∷ xs) = let r = take_few n xs in omega (arith, r)

pub count_few : (slot : ℕ) (list : List ClassFloatsValue) (before counts : List ℕ) →
    dealt_count slot list before counts ≤ total_of list
count_few slot [] before counts = omega arith
count_few slot (kept ∷ list) before counts =
    let e = sum_by-cons (λ (floats : ClassFloatsValue). length floats.callouts) kept list in
    let one = next_few kept.callouts (entry before slot) (entry counts slot) in
    let rest = count_few (slot + 1) list before counts in
    omega (arith, e, one, rest)

-- ---- the list of the sizes

sizes_of_all : List ClassFloatsValue → List (List ℤ)
sizes_of_all list = map (λ (kept : ClassFloatsValue). map size_of kept.callouts) list

map_take : {X Y : Type 0} (f : X → Y) (n : ℕ) (xs : List X) → take n (map f xs) ≡ map f (take n xs)
map_take f zero xs = refl
map_take f (suc n) [] = refl
map_take f (suc n) (x ∷ xs) = ap (λ ys. f x ∷ ys) (map_take f n xs)

map_drop : {X Y : Type 0} (f : X → Y) (n : ℕ) (xs : List X) → drop n (map f xs) ≡ map f (drop n xs)
map_drop f zero xs = refl
map_drop f (suc n) [] = refl
map_drop f (suc n) (x ∷ xs) = map_drop f n xs

-- the callouts that are dealt out
dealt_callouts : ℕ → List ClassFloatsValue → List ℕ → List ℕ → List Callout
dealt_callouts slot [] before counts = []
dealt_callouts slot (kept ∷ list) before counts =
    next_of kept.callouts (entry before slot) (entry counts slot) ++ dealt_callouts (slot + 1) list before counts

dealt_is : (slot : ℕ) (list : List ClassFloatsValue) (before counts : List ℕ) →
    dealt_from slot (sizes_of_all list) before counts ≡ map size_of (dealt_callouts slot list before counts)
unfolding sizes_of_all dealt_callouts
dealt_is slot [] before counts = refl
dealt_is slot (kept ∷ list) before counts =
    ap (λ (xs : List ℤ). xs ++ dealt_from (slot + 1) (sizes_of_all list) before counts)
    (ap (take (entry counts slot)) (map_drop size_of (entry before slot) kept.callouts)
    ∙ map_take size_of (entry counts slot) (drop (entry before slot) kept.callouts))
    ∙ (ap (λ (xs : List ℤ). map size_of (next_of kept.callouts (entry before slot) (entry counts slot)) ++ xs)
    (dealt_is (slot + 1) list before counts)
    ∙ sym (map-append size_of (next_of kept.callouts (entry before slot) (entry counts slot))
    (dealt_callouts (slot + 1) list before counts)))

the_count_is : (slot : ℕ) (list : List ClassFloatsValue) (before counts : List ℕ) →
    dealt_count slot list before counts ≡ length (dealt_callouts slot list before counts)
unfolding dealt_callouts
the_count_is slot [] before counts = refl
the_count_is slot (kept ∷ list) before counts =
    ap (λ n. length (next_of kept.callouts (entry before slot) (entry counts slot)) + n)
    (the_count_is (slot + 1) list before counts)
    ∙ sym (length-append (next_of kept.callouts (entry before slot) (entry counts slot))
    (dealt_callouts (slot + 1) list before counts))

sizes_are : (slot : ℕ) (list : List ClassFloatsValue) (before counts : List ℕ) →
    dealt_sizes slot list before counts ≡ sizes_together (dealt_callouts slot list before counts)
unfolding dealt_callouts
sizes_are slot [] before counts = refl
sizes_are slot (kept ∷ list) before counts =
    ap (λ n. sizes_together (next_of kept.callouts (entry before slot) (entry counts slot)) + n)
    (sizes_are (slot + 1) list before counts)
    ∙ sym (sum_by-append (λ (callout : Callout). callout.size)
    (next_of kept.callouts (entry before slot) (entry counts slot))
    (dealt_callouts (slot + 1) list before counts))

all_is : (slot : ℕ) (list : List ClassFloatsValue) (before counts : List ℕ) →
    has_dealt slot list before counts ≡ has_all_from slot (sizes_of_all list) before counts
unfolding sizes_of_all
all_is slot [] before counts = refl
all_is slot (kept ∷ list) before counts =
    ap (λ b. has_next kept.callouts (entry before slot) (entry counts slot) && b)
    (all_is (slot + 1) list before counts)
    ∙ ap (λ n. ((entry counts slot == 0) || nat_le (entry before slot + entry counts slot) n)
    && has_all_from (slot + 1) (sizes_of_all list) before counts) (sym (length-map kept.callouts size_of))

the_floats_are : (blocks : List Block) (numbers : List ℕ) → AllByRecursion IsBlock blocks →
    map (λ number. sizes_of number (flat blocks [])) numbers
    ≡ sizes_of_all (map (class_floats blocks) numbers)
unfolding sizes_of_all
the_floats_are blocks [] all = refl
the_floats_are blocks (number ∷ numbers) all =
    ap (λ (xs : List ℤ). xs ∷ map (λ number. sizes_of number (flat blocks [])) numbers)
    (ap (λ (xs : List Item). sizes_of number xs) (flat_first blocks) ∙ sym (sizes_from number no_barrier 0 blocks all))
    ∙ ap (λ (xs : List (List ℤ)). map size_of (callouts_from number no_barrier 0 blocks) ∷ xs) (the_floats_are blocks numbers all)

-- ---- the height

sum_is : (callouts : List Callout) →
    whole_sum_by (λ (z : ℤ). z) (map size_of callouts) ≡ pos (sizes_together callouts)
sum_is [] = refl
sum_is (c ∷ callouts) =
    let e = sum_by-cons (λ (callout : Callout). callout.size) c callouts in
    let r = sum_is callouts in
    omega (arith, ints, e, r)

times_is : (a b : ℕ) → pos a *ℤ pos b ≡ pos (a * b)
times_is a b = omega (arith, ints)

height_sum : (size sep gap : ℤ) (n m : ℕ) → size ≡ pos m → pos 0 ≤ℤ sep → pos 0 ≤ℤ gap →
    (size +ℤ (sep *ℤ pos n)) +ℤ gap ≡ pos ((m + unsigned_abs sep * n) + unsigned_abs gap)
height_sum size sep gap n m e s g =
    let a = length_is sep s in
    let b = length_is gap g in
    let c = ap (λ z. z *ℤ pos n) a ∙ times_is (unsigned_abs sep) n in
    omega (arith, ints, e, b, c)

its_height_is : (rule : AreaRuleValue) → IsAreaRule rule → (callouts : List Callout) →
    area_height rule (map size_of callouts) ≡ pos (area_size rule (length callouts) (sizes_together callouts))
its_height_is rule is [] = refl
its_height_is rule is (c ∷ callouts) =
    ap (λ n. (whole_sum_by (λ (z : ℤ). z) (map size_of (c ∷ callouts)) +ℤ (rule.sep.size *ℤ pos n)) +ℤ rule.gap.size)
    (length-map callouts size_of)
    ∙ (height_sum (whole_sum_by (λ (z : ℤ). z) (map size_of (c ∷ callouts))) rule.sep.size rule.gap.size (length callouts)
    (sizes_together (c ∷ callouts)) (sum_is (c ∷ callouts)) is.sep_in.size_in.0 is.gap_in.size_in.0
    ∙ some (length callouts) (sizes_together (c ∷ callouts)))
  where
    some : (n m : ℕ) → pos ((m + unsigned_abs rule.sep.size * n) + unsigned_abs rule.gap.size)
        ≡ pos (area_size rule (suc n) m)
    some n m =
        let t : (suc n == 0) ≡ false = grind (arith, nat_tests) in
        let s : suc n - 1 ≡ n = omega arith in
        rw (t, s) refl

all_there : (blocks : List Block) (style : StyleValue) (list : List ClassFloatsValue) →
    AreFloats blocks style list → floats blocks style ≡ sizes_of_all list
all_there blocks style list are =
    the_floats_are blocks (float_numbers style) are.shape ∙ ap sizes_of_all (sym are.floats_are)

pub area_none : (blocks : List Block) (style : StyleValue) (list : List ClassFloatsValue) (rule : AreaRuleValue)
    (placed counts : List ℕ) → AreFloats blocks style list →
    has_dealt 0 list placed counts ≡ false → None ≡ height_of (floats blocks style) rule placed counts
area_none blocks style list rule placed counts are e =
    let is = all_there blocks style list are in
    let none : has_all (floats blocks style) placed counts ≡ false =
    ap (λ (xs : List (List ℤ)). has_all xs placed counts) is ∙ (sym (all_is 0 list placed counts) ∙ e) in
    ap (λ b. if b then Some (area_height rule (dealt (floats blocks style) placed counts)) else None) (sym none)

pub area_some : (blocks : List Block) (style : StyleValue) (list : List ClassFloatsValue) (rule : AreaRuleValue)
    (placed counts : List ℕ) (it : Dealt) → AreFloats blocks style list → IsAreaRule rule →
    IsDealt list placed counts it →
    Some (pos (area_size rule it.count it.sizes)) ≡ height_of (floats blocks style) rule placed counts
area_some blocks style list rule placed counts it are range is =
    let whole = all_there blocks style list are in
    let there : has_all (floats blocks style) placed counts ≡ true =
    ap (λ (xs : List (List ℤ)). has_all xs placed counts) whole
    ∙ (sym (all_is 0 list placed counts) ∙ is.there) in
    let height : area_height rule (dealt (floats blocks style) placed counts)
    ≡ pos (area_size rule it.count it.sizes) =
    ap (λ (xs : List (List ℤ)). area_height rule (dealt xs placed counts)) whole
    ∙ (ap (area_height rule) (dealt_is 0 list placed counts)
    ∙ (its_height_is rule range (dealt_callouts 0 list placed counts)
    ∙ (ap (λ n. pos (area_size rule n (sizes_together (dealt_callouts 0 list placed counts))))
    (sym (is.count_is ∙ the_count_is 0 list placed counts))
    ∙ ap (λ m. pos (area_size rule it.count m)) (sym (is.sizes_is ∙ sizes_are 0 list placed counts))))) in
    ap Some (sym height) ∙ ap
    (λ b. if b then Some (area_height rule (dealt (floats blocks style) placed counts)) else None) (sym there)

pub count_none : (blocks : List Block) (style : StyleValue) (list : List ClassFloatsValue) (placed counts : List ℕ) →
    AreFloats blocks style list → has_dealt 0 list placed counts ≡ false →
    None ≡ count_of (floats blocks style) placed counts
count_none blocks style list placed counts are e =
    let none : has_all (floats blocks style) placed counts ≡ false =
    ap (λ (xs : List (List ℤ)). has_all xs placed counts) (all_there blocks style list are)
    ∙ (sym (all_is 0 list placed counts) ∙ e) in
    ap (λ b. if b then Some (length (dealt (floats blocks style) placed counts)) else None) (sym none)

pub count_some : (blocks : List Block) (style : StyleValue) (list : List ClassFloatsValue) (placed counts : List ℕ)
    (it : Dealt) → AreFloats blocks style list → IsDealt list placed counts it →
    Some it.count ≡ count_of (floats blocks style) placed counts
count_some blocks style list placed counts it are is =
    let whole = all_there blocks style list are in
    let there : has_all (floats blocks style) placed counts ≡ true =
    ap (λ (xs : List (List ℤ)). has_all xs placed counts) whole
    ∙ (sym (all_is 0 list placed counts) ∙ is.there) in
    let long : length (dealt (floats blocks style) placed counts) ≡ it.count =
    ap (λ (xs : List (List ℤ)). length (dealt xs placed counts)) whole
    ∙ (ap length (dealt_is 0 list placed counts)
    ∙ (length-map (dealt_callouts 0 list placed counts) size_of
    ∙ sym (is.count_is ∙ the_count_is 0 list placed counts))) in
    ap Some (sym long)
    ∙ ap (λ b. if b then Some (length (dealt (floats blocks style) placed counts)) else None) (sym there)

pub dealt_end : (all rest : List ClassFloatsValue) (slot : ℕ) (placed counts : List ℕ) (it : Dealt) →
    length rest < 1 → total_of all ≤ 2 ^ 12 →
    has_dealt slot rest placed counts ≡ has_dealt 0 all placed counts →
    it.count + dealt_count slot rest placed counts ≡ dealt_count 0 all placed counts →
    it.sizes + dealt_sizes slot rest placed counts ≡ dealt_sizes 0 all placed counts →
    it.sizes ≤ 2 ^ 30 * it.count → IsDealt all placed counts it
dealt_end all [] slot placed counts it end few a b c d =
    let f = count_few 0 all placed counts in
    record {
      there = sym a;
      count_is = omega (arith, b);
      sizes_is = omega (arith, c);
      few = omega (arith, b, f, few);
      bounded = d;
    }
dealt_end all (x ∷ rest) slot placed counts it end few a b c d = absurd (omega (arith, end))
