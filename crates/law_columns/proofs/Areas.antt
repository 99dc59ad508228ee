-- How high an area is at most.
use Rattle.std.proofs.Common.{◌≡◌, refl, sym, ap, subst, ◌∙◌, ℕ, suc, ◌+◌, ◌*◌, ◌^◌, ◌≤◌, ◌<◌, List, [], ◌∷◌, ◌++◌, map, length, length-append, take, drop, Bool, true, false, Some, None, arith}
use Rattle.std.specs.Prelude.{◌&&◌, ◌==◌, if◌then◌else◌, nat_abs, nat_le, nat_lt, min, ℤ, pos, negsuc, ◌+ℤ◌, ◌*ℤ◌, ◌≤ℤ◌}
use Rattle.std.specs.List.{AllByRecursion, sum_by, range_with_len, cons_option}
use Rattle.std.proofs.Math.Nat.{mul-le-mul_left, mul-le-mul_right}
use Rattle.std.proofs.lemmas.Int.{ints}
use Rattle.std.proofs.lemmas.List.{map-append, length-take}
use Rattle.std.proofs.lemmas.List.Sums.{sum_by-cons}
use Rattle.pg_list.specs.Places.{picked_items}
use Rattle.pg_list.specs.Ranges.{IsItemInRange}
use Rattle.pg_list.specs.Shapes.{HasItemsInRange, IsBlock}
use Rattle.pg_list.specs.declared.blocks.Block.{Block}
use Rattle.pg_list.specs.declared.blocks.Block.TheVariants.{One, Choice}
use Rattle.pg_list.specs.declared.item.Item.{Item}
use Rattle.pg_list.specs.declared.item.Item.TheVariants.{BoxItem, Rule, Glue, Kern, Penalty, Insert, Carry}
use Rattle.pg_list.specs.declared.variants.Variant.{Variant}
use Rattle.pg_style.specs.Ranges.{IsAreaRule}
use Rattle.pg_style.specs.Values.{AreaRuleValue}
use Rattle.pg_list.specs.Flat.{FlatItem, flat, flat_items_from, variant_flat_items}
use Rattle.pg_list.specs.Whole.{whole_sum_by}
use Rattle.pg_rules.specs.Floats.{entry, sizes_of, floats, float_numbers, float_count, total_count, dealt, dealt_from, has_all, area_height, is_area_allowed, takes_wide}
use Rattle.pg_rules.specs.History.{made_wide}
use Rattle.pg_rules.specs.Room.{Document, checked_height}
use Rattle.law_places.proofs.Measures.{variant_items}
use Rattle.law_columns.proofs.BoundCounts.{float_total}
use Rattle.pg_lemmas.proofs.Lists.{all_append, all_take, all_drop}
use Rattle.pg_lemmas.proofs.Bools.{both_of}
use Rattle.std.proofs.lemmas.Bool.{eqb-true, leb-true}

-- a length that is not negative, and a scaled number
abbrev pub IsSize : ℤ → Type 0
IsSize z = (pos 0 ≤ℤ z) × (nat_abs z < 2 ^ 30)

-- ---- the sizes of floats

first_items : (variants : List Variant) →
    AllByRecursion HasItemsInRange variants →
    AllByRecursion IsItemInRange (picked_items (Choice variants) 0)
first_items [] a = tt
first_items (v ∷ variants) a = a.0

flat_range : (n : ℕ) (blocks : List Block) → AllByRecursion IsBlock blocks →
    AllByRecursion IsItemInRange (map (λ (flat_item : FlatItem). flat_item.item)
    (flat_items_from n blocks []))
flat_range n [] a = tt
flat_range n (One item ∷ blocks) a = (a.0, flat_range (n + 1) blocks a.1)
flat_range n (Choice variants ∷ blocks) a =
    let e : map (λ (flat_item : FlatItem). flat_item.item)
    (variant_flat_items n 0 (picked_items (Choice variants) 0) ++ flat_items_from (n + 1) blocks [])
    ≡ picked_items (Choice variants) 0 ++ map (λ (flat_item : FlatItem). flat_item.item)
    (flat_items_from (n + 1) blocks []) =
    map-append (λ (flat_item : FlatItem). flat_item.item)
    (variant_flat_items n 0 (picked_items (Choice variants) 0)) (flat_items_from (n + 1) blocks [])
    ∙ ap (λ (xs : List Item). xs ++ map (λ (flat_item : FlatItem). flat_item.item)
    (flat_items_from (n + 1) blocks [])) (variant_items 0 n 0 (picked_items (Choice variants) 0)) in
    subst (AllByRecursion IsItemInRange) (sym e)
    (all_append IsItemInRange (picked_items (Choice variants) 0) _ (first_items variants a.0.ranges)
    (flat_range (n + 1) blocks a.1))

pub sizes_range : (number : ℕ) (items : List Item) → AllByRecursion IsItemInRange items →
    AllByRecursion IsSize (sizes_of number items)
sizes_range number [] a = tt
sizes_range number (BoxItem h d body ∷ items) a = sizes_range number items a.1
sizes_range number (Rule h d body ∷ items) a = sizes_range number items a.1
sizes_range number (Glue w s o k body ∷ items) a = sizes_range number items a.1
sizes_range number (Kern w body ∷ items) a = sizes_range number items a.1
sizes_range number (Penalty v body ∷ items) a = sizes_range number items a.1
sizes_range number (Carry body ∷ items) a = sizes_range number items a.1
sizes_range number (Insert class size body ∷ items) a = by (class == number) (sizes_range number items a.1)
  where
    by : (b : Bool) → AllByRecursion IsSize (sizes_of number items) →
        AllByRecursion IsSize (cons_option (if b then Some size else None) (sizes_of number items))
    by true rest = ((a.0.1, a.0.2), rest)
    by false rest = rest

pub floats_range : (blocks : List Block) (numbers : List ℕ) → AllByRecursion IsBlock blocks →
    AllByRecursion (AllByRecursion IsSize) (map (λ number. sizes_of number (flat blocks [])) numbers)
floats_range blocks [] a = tt
floats_range blocks (number ∷ numbers) a =
    (sizes_range number (flat blocks []) (flat_range 0 blocks a), floats_range blocks numbers a)

pub dealt_range : (slot : ℕ) (lists : List (List ℤ)) (before counts : List ℕ) →
    AllByRecursion (AllByRecursion IsSize) lists → AllByRecursion IsSize (dealt_from slot lists before counts)
dealt_range slot [] before counts a = tt
dealt_range slot (sizes ∷ lists) before counts a =
    all_append IsSize (take (entry counts slot) (drop (entry before slot) sizes))
    (dealt_from (slot + 1) lists before counts)
    (all_take IsSize (entry counts slot) (drop (entry before slot) sizes)
    (all_drop IsSize (entry before slot) sizes a.0))
    (dealt_range (slot + 1) lists before counts a.1)

pub dealt_long : (slot : ℕ) (lists : List (List ℤ)) (before counts : List ℕ) →
    length (dealt_from slot lists before counts) ≤ sum_by (entry counts) (range_with_len slot (length lists))
dealt_long slot [] before counts = omega arith
dealt_long slot (sizes ∷ lists) before counts =
    let r : length (dealt_from (slot + 1) lists before counts) ≤ sum_by (entry counts)
    (range_with_len (slot + 1) (length lists)) = dealt_long (slot + 1) lists before counts in
    let a : length (take (entry counts slot) (drop (entry before slot) sizes) ++ dealt_from (slot + 1) lists
    before counts) ≡ length (take (entry counts slot) (drop (entry before slot) sizes))
    + length (dealt_from (slot + 1) lists before counts) =
    length-append (take (entry counts slot) (drop (entry before slot) sizes))
    (dealt_from (slot + 1) lists before counts) in
    let t : length (take (entry counts slot) (drop (entry before slot) sizes)) ≡ min (entry counts slot)
    (length (drop (entry before slot) sizes)) =
    length-take (entry counts slot) (drop (entry before slot) sizes) in
    let s : sum_by (entry counts) (slot ∷ range_with_len (slot + 1) (length lists)) ≡ entry counts slot
    + sum_by (entry counts) (range_with_len (slot + 1) (length lists)) =
    sum_by-cons (entry counts) slot (range_with_len (slot + 1) (length lists)) in
    omega arith

-- ---- heights

-- from 0 up to so much
abbrev pub IsUpTo : ℕ → ℤ → Type 0
IsUpTo n z = (pos 0 ≤ℤ z) × (nat_abs z ≤ n)

sum_range : (sizes : List ℤ) → AllByRecursion IsSize sizes →
    IsUpTo (1073741823 * length sizes) (whole_sum_by (λ (z : ℤ). z) sizes)
sum_range [] a = (omega (arith, ints), omega arith)
sum_range (z ∷ sizes) a =
    let r = sum_range sizes a.1 in
    let p : pos 0 ≤ℤ whole_sum_by (λ (z : ℤ). z) sizes = r.0 in
    let q : nat_abs (whole_sum_by (λ (z : ℤ). z) sizes) ≤ 1073741823 * length sizes = r.1 in
    let s : pos 0 ≤ℤ z = a.0.0 in
    let t : nat_abs z < 1073741824 = a.0.1 in
    add z (whole_sum_by (λ (z : ℤ). z) sizes) (1073741823 * length sizes) (1073741823 * suc (length sizes)) s
    t p q (omega arith)
  where
    add : (x y : ℤ) (n k : ℕ) → pos 0 ≤ℤ x → nat_abs x < 1073741824 → pos 0 ≤ℤ y → nat_abs y ≤ n →
        1073741823 + n ≤ k → IsUpTo k (x +ℤ y)
    add x y n k h i j l m = (omega (arith, ints), omega (arith, ints))

pub times_range : (z : ℤ) (n : ℕ) → IsSize z → n ≤ 3 → IsUpTo 3221225469 (z *ℤ pos n)
times_range (negsuc k) n a h = absurd (let p : pos 0 ≤ℤ negsuc k = a.0 in omega (arith, ints))
times_range (pos k) n a h =
    let l : k ≤ 1073741823 = below k a.1 in
    let s : k * n ≤ 1073741823 * n = mul-le-mul_right n l in
    let t : 1073741823 * n ≤ 1073741823 * 3 = mul-le-mul_left 1073741823 h in
    (let e : pos 0 ≤ℤ pos (k * n) = omega (arith, ints) in e, let e : k * n ≤ 3221225469 = omega arith in e)
  where
    below : (k : ℕ) → k < 1073741824 → k ≤ 1073741823
    below k h = omega arith

-- at most four floats, three skips between them and one below
pub area_range : (rule : AreaRuleValue) → IsAreaRule rule → (sizes : List ℤ) → AllByRecursion IsSize sizes →
    length sizes ≤ 4 → IsUpTo 8589934584 (area_height rule sizes)
area_range rule range [] a h = (omega (arith, ints), omega arith)
area_range rule range (size ∷ sizes) a h =
    let s = sum_range (size ∷ sizes) a in
    let t = times_range rule.sep.size (length sizes) range.sep_in.size_in (omega arith) in
    add (whole_sum_by (λ (z : ℤ). z) (size ∷ sizes)) (rule.sep.size *ℤ pos (length sizes)) rule.gap.size
    (length sizes) s t range.gap_in.size_in (omega arith)
  where
    add : (x y z : ℤ) (n : ℕ) → IsUpTo (1073741823 * suc n) x → IsUpTo 3221225469 y → IsSize z → n ≤ 3 →
        IsUpTo 8589934584 ((x +ℤ y) +ℤ z)
    add x y z n p q r h = by p.0 p.1 q.0 q.1 r.0 r.1
      where
        by : pos 0 ≤ℤ x → nat_abs x ≤ 1073741823 * suc n → pos 0 ≤ℤ y → nat_abs y ≤ 3221225469 → pos 0 ≤ℤ z →
            nat_abs z < 1073741824 → IsUpTo 8589934584 ((x +ℤ y) +ℤ z)
        by a b c d e f = (omega (arith, ints), omega (arith, ints))

-- the wide area that a page's first column makes
pub wide_range : (doc : Document) (placed counts : List ℕ) → AllByRecursion IsBlock doc.blocks →
    IsAreaRule doc.style.wide → (z : ℤ) → made_wide doc placed counts ≡ Some z → IsUpTo 8589934584 z
wide_range doc placed counts items rule z e = by (nat_lt 0 (float_count doc.style counts)) e
  where
    same : (a b : ℤ) → Some a ≡ Some b → a ≡ b
    same a b e = cc

    lists : AllByRecursion (AllByRecursion IsSize) (floats doc.blocks doc.style)
    lists = floats_range doc.blocks (float_numbers doc.style) items

    few : is_area_allowed doc.style takes_wide doc.style.wide.count counts ≡ true →
        length (dealt (floats doc.blocks doc.style) placed counts) ≤ 4
    few t =
        let p = both_of ((length counts == length (float_numbers doc.style)) && nat_le (total_count counts)
        doc.style.wide.count) _ t in
        let q = both_of (length counts == length (float_numbers doc.style))
        (nat_le (total_count counts) doc.style.wide.count) p.0 in
        let l : length counts ≡ length (float_numbers doc.style) = eqb-true _ _ q.0 in
        let n : total_count counts ≤ doc.style.wide.count = leb-true _ _ q.1 in
        let m : doc.style.wide.count ≤ 4 = rule.count_in in
        let d : length (dealt (floats doc.blocks doc.style) placed counts) ≤ sum_by (entry counts)
        (range_with_len 0 (length (floats doc.blocks doc.style))) =
        dealt_long 0 (floats doc.blocks doc.style) placed counts in
        let k : length (floats doc.blocks doc.style) ≡ length (float_numbers doc.style) =
        map_long (float_numbers doc.style) in
        let r : sum_by (entry counts) (range_with_len 0 (length (floats doc.blocks doc.style)))
        ≡ float_count doc.style counts = ap (λ (i : ℕ). sum_by (entry counts) (range_with_len 0 i)) k in
        let f : float_count doc.style counts ≡ total_count counts = float_total doc.style counts l in
        omega arith
      where
        map_long : (numbers : List ℕ) →
            length (map (λ number. sizes_of number (flat doc.blocks [])) numbers) ≡ length numbers
        map_long [] = refl
        map_long (x ∷ xs) = ap suc (map_long xs)

    height : (b : Bool) → b ≡ (is_area_allowed doc.style takes_wide doc.style.wide.count counts
        && has_all (floats doc.blocks doc.style) placed counts) →
        IsUpTo 8589934584 (if b then area_height doc.style.wide
        (dealt (floats doc.blocks doc.style) placed counts) else pos 0)
    height false q = (omega (arith, ints), omega arith)
    height true q = area_range doc.style.wide rule (dealt (floats doc.blocks doc.style) placed counts)
        (dealt_range 0 (floats doc.blocks doc.style) placed counts lists)
        (few (both_of (is_area_allowed doc.style takes_wide doc.style.wide.count counts) _ (sym q)).0)

    by : (b : Bool) → (if b then Some
        (checked_height (floats doc.blocks doc.style)
        (is_area_allowed doc.style takes_wide doc.style.wide.count counts) doc.style.wide placed counts) else
        None) ≡ Some z → IsUpTo 8589934584 z
    by false q = absurd cc
    by true q = subst (IsUpTo 8589934584)
        (same (checked_height (floats doc.blocks doc.style)
        (is_area_allowed doc.style takes_wide doc.style.wide.count counts) doc.style.wide placed counts) z q)
        (height (is_area_allowed doc.style takes_wide doc.style.wide.count counts
        && has_all (floats doc.blocks doc.style) placed counts) refl)
