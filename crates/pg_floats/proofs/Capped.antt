-- Counts of 16 bits deal out the same floats, since no class has so many.
use Rattle.std.proofs.Common.{◌≡◌, refl, sym, ap, ◌∙◌, ℕ, zero, suc, ◌+◌, ◌^◌, ◌≤◌, arith, List, [], ◌∷◌, ◌++◌, length, map, take, drop, Bool, true, false, ℤ, pos, inl, inr}
use Rattle.std.specs.Prelude.{◌==◌, ◌&&◌, ◌||◌, nat_le, if◌then◌else◌}
use Rattle.std.specs.List.{AllByRecursion, range_with_len, sum_by}
use Rattle.std.proofs.lemmas.Bool.{eqb-true, leb-true, le-leb}
use Rattle.std.proofs.lemmas.List.Sums.{sum_by-cons}
use Rattle.pg_lemmas.proofs.Bools.{both_of, both_ways, or_cases}
use Rattle.pg_list.specs.declared.blocks.Block.{Block}
use Rattle.pg_style.specs.Values.{AreaRuleValue, StyleValue}
use Rattle.pg_style.specs.declared.style.Gap.{Gap}
use Rattle.pg_rules.specs.Floats.{area_give, area_height, dealt, dealt_from, entry, floats, has_all, has_all_from, plus_counts, slots}
use Rattle.pg_rules.specs.Room.{checked_give, checked_height}
use Rattle.pg_floats.specs.AreFloats.{float_total}
use Rattle.pg_floats.specs.Counts.{cap, capped, capped_sum}

pub entry_capped : (counts : List ℕ) (slot : ℕ) → entry (capped counts) slot ≡ cap (entry counts slot)
entry_capped [] slot = refl
entry_capped (x ∷ counts) zero = refl
entry_capped (x ∷ counts) (suc slot) = entry_capped counts slot

added_cap : (a b : ℕ) → cap (cap a + b) ≡ cap (a + b)
added_cap a b = omega arith

map_map_is : (slots : List ℕ) (a b : List ℕ) →
    map (λ (slot : ℕ). cap (entry (capped a) slot + entry b slot)) slots
    ≡ map cap (map (λ (slot : ℕ). entry a slot + entry b slot) slots)
map_map_is [] a b = refl
map_map_is (slot ∷ slots) a b =
    let one : cap (entry (capped a) slot + entry b slot) ≡ cap (entry a slot + entry b slot) =
    ap (λ (n : ℕ). cap (n + entry b slot)) (entry_capped a slot) ∙ added_cap (entry a slot) (entry b slot) in
    ap (λ (n : ℕ). n ∷ map (λ (slot : ℕ). cap (entry (capped a) slot + entry b slot)) slots) one
    ∙ ap (λ (xs : List ℕ). cap (entry a slot + entry b slot) ∷ xs) (map_map_is slots a b)

-- counts added to counts of 16 bits
pub plus_capped : (style : StyleValue) (n : ℕ) (a b : List ℕ) → slots style ≡ range_with_len 0 n →
    capped_sum n (capped a) b ≡ capped (plus_counts style a b)
plus_capped style n a b e = map_map_is (range_with_len 0 n) a b
    ∙ ap (λ (xs : List ℕ). capped (map (λ (slot : ℕ). entry a slot + entry b slot) xs)) (sym e)

-- ---- lists of few floats

abbrev pub AreFew : List (List ℤ) → Type 0
AreFew lists = AllByRecursion (λ (sizes : List ℤ). length sizes ≤ 2 ^ 12) lists

few_by : (lists : List (List ℤ)) → sum_by (λ (sizes : List ℤ). length sizes) lists ≤ 2 ^ 12 → AreFew lists
few_by [] h = tt
few_by (sizes ∷ lists) h =
    let e = sum_by-cons (λ (sizes : List ℤ). length sizes) sizes lists in
    (omega (arith, e, h), few_by lists (omega (arith, e, h)))

pub are_few : (blocks : List Block) (style : StyleValue) → float_total blocks style ≤ 2 ^ 12 →
    AreFew (floats blocks style)
are_few blocks style h = few_by (floats blocks style) h

small_le : (b c l : ℕ) → l ≤ 2 ^ 12 → nat_le (cap b + c) l ≡ nat_le (b + c) l
small_le b c l h = both_ways (nat_le (cap b + c) l) (nat_le (b + c) l)
    (λ e. le-leb (b + c) l (let k : cap b + c ≤ l = leb-true _ _ e in omega arith))
    (λ e. le-leb (cap b + c) l (let k : b + c ≤ l = leb-true _ _ e in omega arith))

pub has_all_capped : (slot : ℕ) (lists : List (List ℤ)) (before counts : List ℕ) → AreFew lists →
    has_all_from slot lists (capped before) counts ≡ has_all_from slot lists before counts
has_all_capped slot [] before counts few = refl
has_all_capped slot (sizes ∷ lists) before counts few =
    ap (λ (n : ℕ). ((entry counts slot == 0) || nat_le (n + entry counts slot) (length sizes))
    && has_all_from (slot + 1) lists (capped before) counts) (entry_capped before slot)
    ∙ (ap (λ (b : Bool). ((entry counts slot == 0) || b) && has_all_from (slot + 1) lists (capped before) counts)
    (small_le (entry before slot) (entry counts slot) (length sizes) few.0)
    ∙ ap (λ (b : Bool). ((entry counts slot == 0) || nat_le (entry before slot + entry counts slot) (length sizes)) && b)
    (has_all_capped (slot + 1) lists before counts few.1))

dealt_same : (sizes : List ℤ) (b c : ℕ) → length sizes ≤ 2 ^ 12 →
    ((c == 0) || nat_le (b + c) (length sizes)) ≡ true → take c (drop (cap b) sizes) ≡ take c (drop b sizes)
dealt_same sizes b c few h = elim (or_cases (c == 0) (nat_le (b + c) (length sizes)) h) [
  | inl e ↦ (let z : c ≡ 0 = eqb-true c 0 e in
      ap (λ (n : ℕ). take n (drop (cap b) sizes)) z ∙ ap (λ (n : ℕ). take n (drop b sizes)) (sym z))
  | inr e ↦ (let k : b + c ≤ length sizes = leb-true _ _ e in
      let s : cap b ≡ b = omega arith in ap (λ (n : ℕ). take c (drop n sizes)) s)
]

pub dealt_capped : (slot : ℕ) (lists : List (List ℤ)) (before counts : List ℕ) → AreFew lists →
    has_all_from slot lists before counts ≡ true →
    dealt_from slot lists (capped before) counts ≡ dealt_from slot lists before counts
dealt_capped slot [] before counts few h = refl
dealt_capped slot (sizes ∷ lists) before counts few h =
    let t = both_of ((entry counts slot == 0) || nat_le (entry before slot + entry counts slot) (length sizes))
    (has_all_from (slot + 1) lists before counts) h in
    ap (λ (n : ℕ). take (entry counts slot) (drop n sizes) ++ dealt_from (slot + 1) lists (capped before) counts)
    (entry_capped before slot)
    ∙ (ap (λ (xs : List ℤ). xs ++ dealt_from (slot + 1) lists (capped before) counts)
    (dealt_same sizes (entry before slot) (entry counts slot) few.0 t.0)
    ∙ ap (λ (xs : List ℤ). take (entry counts slot) (drop (entry before slot) sizes) ++ xs)
    (dealt_capped (slot + 1) lists before counts few.1 t.1))

pub height_capped : (lists : List (List ℤ)) (allowed : Bool) (rule : AreaRuleValue) (before counts : List ℕ) →
    AreFew lists → checked_height lists allowed rule (capped before) counts ≡ checked_height lists allowed rule before counts
height_capped lists allowed rule before counts few =
    ap (λ (b : Bool). if allowed && b then area_height rule (dealt lists (capped before) counts) else pos 0)
    (has_all_capped 0 lists before counts few)
    ∙ by allowed (has_all lists before counts) refl
  where
    by : (a b : Bool) → has_all lists before counts ≡ b →
        (if a && b then area_height rule (dealt lists (capped before) counts) else pos 0)
        ≡ (if a && b then area_height rule (dealt lists before counts) else pos 0)
    by false b e = refl
    by true false e = refl
    by true true e = ap (area_height rule) (dealt_capped 0 lists before counts few e)

pub give_capped : (part : Gap → ℤ) (lists : List (List ℤ)) (allowed : Bool) (rule : AreaRuleValue) (before counts : List ℕ) →
    AreFew lists →
    checked_give part lists allowed rule (capped before) counts ≡ checked_give part lists allowed rule before counts
give_capped part lists allowed rule before counts few =
    ap (λ (b : Bool). if allowed && b then area_give part rule (length (dealt lists (capped before) counts)) else pos 0)
    (has_all_capped 0 lists before counts few)
    ∙ by allowed (has_all lists before counts) refl
  where
    by : (a b : Bool) → has_all lists before counts ≡ b →
        (if a && b then area_give part rule (length (dealt lists (capped before) counts)) else pos 0)
        ≡ (if a && b then area_give part rule (length (dealt lists before counts)) else pos 0)
    by false b e = refl
    by true false e = refl
    by true true e = ap (λ (sizes : List ℤ). area_give part rule (length sizes)) (dealt_capped 0 lists before counts few e)
