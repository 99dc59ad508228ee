-- Heights of areas from below.
use Rattle.std.proofs.Common.{◌≡◌, subst, inl, inr, ℕ, ◌*◌, List, [], ◌∷◌, length, true, false, Bool, arith}
use Rattle.std.specs.Prelude.{ℤ, pos, negsuc, ◌+ℤ◌, ◌*ℤ◌, ◌≤ℤ◌, ◌&&◌, if◌then◌else◌}
use Rattle.std.specs.List.{AllByRecursion}
use Rattle.std.proofs.lemmas.Int.{ints}
use Rattle.pg_list.specs.Whole.{whole_sum_by}
use Rattle.law_columns.proofs.Areas.{IsSize, dealt_range}
use Rattle.law_places.proofs.Among.{Among}
use Rattle.pg_style.specs.Ranges.{IsAreaRule}
use Rattle.pg_style.specs.Values.{AreaRuleValue}
use Rattle.pg_rules.specs.Floats.{area_height, dealt, has_all}
use Rattle.pg_rules.specs.Room.{checked_height}

abbrev sum : List ℤ → ℤ
sum sizes = whole_sum_by (λ (z : ℤ). z) sizes

sum_low : (sizes : List ℤ) → AllByRecursion IsSize sizes → pos 0 ≤ℤ sum sizes
sum_low [] a = omega (arith, ints)
sum_low (x ∷ sizes) a =
    let p : pos 0 ≤ℤ x = a.0.0 in
    let q : pos 0 ≤ℤ sum sizes = sum_low sizes a.1 in
    omega (arith, ints)

-- no float is below 0
pub among_low : (sizes : List ℤ) (z : ℤ) → AllByRecursion IsSize sizes → Among z sizes → pos 0 ≤ℤ z
among_low [] z a m = absurd m
among_low (x ∷ sizes) z a (inl e) = subst (λ (y : ℤ). pos 0 ≤ℤ y) e a.0.0
among_low (x ∷ sizes) z a (inr m) = among_low sizes z a.1 m

pub sum_above : (sizes : List ℤ) (z : ℤ) → AllByRecursion IsSize sizes → Among z sizes → z ≤ℤ sum sizes
sum_above [] z a m = absurd m
sum_above (x ∷ sizes) z a (inl e) =
    let q : pos 0 ≤ℤ sum sizes = sum_low sizes a.1 in
    omega (arith, ints)
sum_above (x ∷ sizes) z a (inr m) =
    let p : pos 0 ≤ℤ x = a.0.0 in
    let q : z ≤ℤ sum sizes = sum_above sizes z a.1 m in
    omega (arith, ints)

times_low : (z : ℤ) (n : ℕ) → pos 0 ≤ℤ z → pos 0 ≤ℤ (z *ℤ pos n)
times_low (pos k) n h = let e : pos 0 ≤ℤ pos (k * n) = omega (arith, ints) in e
times_low (negsuc k) n h = absurd (omega (arith, ints))

-- an area with a float is as high as the float and the gap below it
pub area_above : (rule : AreaRuleValue) (sizes : List ℤ) (z : ℤ) → IsAreaRule rule → AllByRecursion IsSize sizes →
    Among z sizes → (z +ℤ rule.gap.size) ≤ℤ area_height rule sizes
area_above rule [] z range a m = absurd m
area_above rule (x ∷ sizes) z range a m =
    let s : z ≤ℤ sum (x ∷ sizes) = sum_above (x ∷ sizes) z a m in
    let t : pos 0 ≤ℤ (rule.sep.size *ℤ pos (length sizes)) = times_low rule.sep.size (length sizes) range.sep_in.size_in.0 in
    add z (sum (x ∷ sizes)) (rule.sep.size *ℤ pos (length sizes)) rule.gap.size s t
  where
    add : (z s t g : ℤ) → z ≤ℤ s → pos 0 ≤ℤ t → (z +ℤ g) ≤ℤ ((s +ℤ t) +ℤ g)
    add z s t g h i = omega (arith, ints)

area_low : (rule : AreaRuleValue) (sizes : List ℤ) → IsAreaRule rule → AllByRecursion IsSize sizes →
    pos 0 ≤ℤ area_height rule sizes
area_low rule [] range a = omega (arith, ints)
area_low rule (x ∷ sizes) range a =
    add (sum (x ∷ sizes)) (rule.sep.size *ℤ pos (length sizes)) rule.gap.size (sum_low (x ∷ sizes) a)
    (times_low rule.sep.size (length sizes) range.sep_in.size_in.0) range.gap_in.size_in.0
  where
    add : (s t g : ℤ) → pos 0 ≤ℤ s → pos 0 ≤ℤ t → pos 0 ≤ℤ g → pos 0 ≤ℤ ((s +ℤ t) +ℤ g)
    add s t g h i j = omega (arith, ints)

abbrev pub AreSizes : List (List ℤ) → Type 0
AreSizes lists = AllByRecursion (AllByRecursion IsSize) lists

-- no area is below 0
pub checked_low : (lists : List (List ℤ)) (allowed : Bool) (rule : AreaRuleValue) (before counts : List ℕ) →
    AreSizes lists → IsAreaRule rule → pos 0 ≤ℤ checked_height lists allowed rule before counts
checked_low lists allowed rule before counts a range = by (allowed && has_all lists before counts)
  where
    by : (b : Bool) → pos 0 ≤ℤ (if b then area_height rule (dealt lists before counts) else pos 0)
    by true = area_low rule (dealt lists before counts) range (dealt_range 0 lists before counts a)
    by false = omega (arith, ints)

-- an area that is allowed, of floats that are there
pub checked_above : (lists : List (List ℤ)) (allowed : Bool) (rule : AreaRuleValue) (before counts : List ℕ) (z : ℤ) →
    AreSizes lists → IsAreaRule rule → allowed ≡ true → has_all lists before counts ≡ true →
    Among z (dealt lists before counts) → (z +ℤ rule.gap.size) ≤ℤ checked_height lists allowed rule before counts
checked_above lists allowed rule before counts z a range is all m = by allowed (has_all lists before counts) is all
  where
    by : (b c : Bool) → b ≡ true → c ≡ true →
        (z +ℤ rule.gap.size) ≤ℤ (if b && c then area_height rule (dealt lists before counts) else pos 0)
    by true true e f = area_above rule (dealt lists before counts) z range (dealt_range 0 lists before counts a) m
    by true false e f = absurd cc
    by false c e f = absurd cc
