-- Notes and areas are not below 0.
use Rattle.std.proofs.Common.{ℕ, ◌*◌, List, [], ◌∷◌, length, map, Bool, true, false, arith}
use Rattle.std.specs.Prelude.{◌&&◌, ◌==◌, if◌then◌else◌, ℤ, pos, negsuc, ◌+ℤ◌, ◌*ℤ◌, ◌≤ℤ◌}
use Rattle.std.specs.List.{AllByRecursion}
use Rattle.std.proofs.lemmas.Int.{ints}
use Rattle.pg_list.specs.Ranges.{IsItemInRange}
use Rattle.pg_list.specs.Shapes.{IsBlock, is_box, is_discardable}
use Rattle.pg_list.specs.declared.blocks.Block.{Block}
use Rattle.pg_list.specs.declared.item.Item.{Item}
use Rattle.pg_style.specs.Ranges.{IsAreaRule, IsClass, IsKind}
use Rattle.pg_style.specs.Values.{AreaRuleValue, StyleValue}
use Rattle.pg_style.specs.declared.style.Class.{Class}
use Rattle.pg_style.specs.declared.style.Kind.{Kind}
use Rattle.pg_style.specs.declared.style.Kind.TheVariants.{Note, Float}
use Rattle.pg_list.specs.Flat.{FlatItem}
use Rattle.pg_list.specs.Totals.{trimmed}
use Rattle.pg_list.specs.Whole.{whole_sum, whole_sum_by}
use Rattle.pg_rules.specs.Floats.{area_height, dealt, float_numbers, floats, gap_shrink, has_all, sizes_of}
use Rattle.pg_rules.specs.Room.{checked_height, class_give, class_notes}
use Rattle.law_columns.proofs.Areas.{IsSize, dealt_range, floats_range, sizes_range}
use Rattle.law_places.proofs.Alike.{item_of}

-- ---- items

-- what holds of each item of a list holds of each of its segment
pub trimmed_all : (P : Item → Type 0) (items : List Item) → AllByRecursion P items → AllByRecursion P (trimmed items)
trimmed_all P [] a = tt
trimmed_all P (x ∷ xs) a = by (is_box x) (is_discardable x) (trimmed_all P xs a.1)
  where
    by : (b d : Bool) → AllByRecursion P (trimmed xs) →
        AllByRecursion P (if b then x ∷ xs else (if d then trimmed xs else x ∷ trimmed xs))
    by true d r = a
    by false true r = r
    by false false r = (a.0, r)

-- what holds of the item of each flat item holds of each item
pub all_items : (P : Item → Type 0) (xs : List FlatItem) → AllByRecursion (λ (x : FlatItem). P x.item) xs →
    AllByRecursion P (map item_of xs)
all_items P [] a = tt
all_items P (x ∷ xs) a = (a.0, all_items P xs a.1)

-- ---- lengths that are not negative

abbrev pub NotNegative : ℤ → Type 0
NotNegative z = pos 0 ≤ℤ z

sum_up : (sizes : List ℤ) → AllByRecursion IsSize sizes → NotNegative (whole_sum sizes)
sum_up [] a = omega (arith, ints)
sum_up (z ∷ sizes) a = let p : pos 0 ≤ℤ z = a.0.0 in let q : pos 0 ≤ℤ whole_sum sizes = sum_up sizes a.1 in
    add z (whole_sum sizes) p q
  where
    add : (x y : ℤ) → pos 0 ≤ℤ x → pos 0 ≤ℤ y → pos 0 ≤ℤ (x +ℤ y)
    add x y p q = omega (arith, ints)

sum_by_up : (sizes : List ℤ) → AllByRecursion IsSize sizes → NotNegative (whole_sum_by (λ (z : ℤ). z) sizes)
sum_by_up [] a = omega (arith, ints)
sum_by_up (z ∷ sizes) a = let p : pos 0 ≤ℤ z = a.0.0 in
    let q : pos 0 ≤ℤ whole_sum_by (λ (z : ℤ). z) sizes = sum_by_up sizes a.1 in
    add z (whole_sum_by (λ (z : ℤ). z) sizes) p q
  where
    add : (x y : ℤ) → pos 0 ≤ℤ x → pos 0 ≤ℤ y → pos 0 ≤ℤ (x +ℤ y)
    add x y p q = omega (arith, ints)

pub notes_up : (classes : List Class) (items : List Item) → AllByRecursion IsClass classes →
    AllByRecursion IsItemInRange items →
    NotNegative (whole_sum_by (λ (class : Class). class_notes items class.number class.kind) classes)
notes_up [] items a r = omega (arith, ints)
notes_up (class ∷ classes) items a r =
    add (class_notes items class.number class.kind)
    (whole_sum_by (λ (class : Class). class_notes items class.number class.kind) classes)
    (one class.number class.kind a.0.kind_in) (notes_up classes items a.1 r)
  where
    add : (x y : ℤ) → pos 0 ≤ℤ x → pos 0 ≤ℤ y → pos 0 ≤ℤ (x +ℤ y)
    add x y p q = omega (arith, ints)

    one : (number : ℕ) (kind : Kind) → IsKind kind → NotNegative (class_notes items number kind)
    one number (Float area distance) k = omega (arith, ints)
    one number (Note skip limit) k = by (length (sizes_of number items) == 0)
      where
        by : (b : Bool) → NotNegative (if b then pos 0 else (skip.size +ℤ whole_sum (sizes_of number items)))
        by true = omega (arith, ints)
        by false = add skip.size (whole_sum (sizes_of number items)) k.0.size_in.0
            (sum_up (sizes_of number items) (sizes_range number items r))

-- where skips are shrunk
pub smallest_up : (classes : List Class) (items : List Item) → AllByRecursion IsClass classes →
    AllByRecursion IsItemInRange items →
    whole_sum_by (λ (class : Class). class_give gap_shrink items class.number class.kind) classes
    ≤ℤ whole_sum_by (λ (class : Class). class_notes items class.number class.kind) classes
smallest_up [] items a r = omega (arith, ints)
smallest_up (class ∷ classes) items a r =
    add _ _ _ _ (one class.number class.kind a.0.kind_in) (smallest_up classes items a.1 r)
  where
    add : (x y v w : ℤ) → x ≤ℤ y → v ≤ℤ w → (x +ℤ v) ≤ℤ (y +ℤ w)
    add x y v w p q = omega (arith, ints)

    one : (number : ℕ) (kind : Kind) → IsKind kind → class_give gap_shrink items number kind ≤ℤ class_notes items number kind
    one number (Float area distance) k = omega (arith, ints)
    one number (Note skip limit) k = by (length (sizes_of number items) == 0)
      where
        less : (b s n : ℤ) → b ≤ℤ s → pos 0 ≤ℤ n → b ≤ℤ (s +ℤ n)
        less b s n p q = omega (arith, ints)

        by : (b : Bool) → (if b then pos 0 else skip.shrink)
            ≤ℤ (if b then pos 0 else (skip.size +ℤ whole_sum (sizes_of number items)))
        by true = omega (arith, ints)
        by false = less skip.shrink skip.size (whole_sum (sizes_of number items)) k.0.shrink_to
            (sum_up (sizes_of number items) (sizes_range number items r))

pub area_up : (rule : AreaRuleValue) (sizes : List ℤ) → IsAreaRule rule → AllByRecursion IsSize sizes →
    NotNegative (area_height rule sizes)
area_up rule [] r a = omega (arith, ints)
area_up rule (size ∷ sizes) r a =
    add (whole_sum_by (λ (z : ℤ). z) (size ∷ sizes)) (rule.sep.size *ℤ pos (length sizes)) rule.gap.size
    (sum_by_up (size ∷ sizes) a) (times rule.sep.size (length sizes) r.sep_in.size_in.0) r.gap_in.size_in.0
  where
    add : (x y z : ℤ) → pos 0 ≤ℤ x → pos 0 ≤ℤ y → pos 0 ≤ℤ z → pos 0 ≤ℤ ((x +ℤ y) +ℤ z)
    add x y z p q r = omega (arith, ints)

    times : (z : ℤ) (n : ℕ) → pos 0 ≤ℤ z → pos 0 ≤ℤ (z *ℤ pos n)
    times (pos k) n h = let e : pos 0 ≤ℤ pos (k * n) = omega (arith, ints) in e
    times (negsuc k) n h = absurd (omega (arith, ints))

pub height_up : (blocks : List Block) (style : StyleValue) (allowed : Bool) (rule : AreaRuleValue) (before counts : List ℕ) →
    AllByRecursion IsBlock blocks → IsAreaRule rule →
    NotNegative (checked_height (floats blocks style) allowed rule before counts)
height_up blocks style allowed rule before counts a r =
    by (allowed && has_all (floats blocks style) before counts)
  where
    by : (b : Bool) → NotNegative (if b then area_height rule (dealt (floats blocks style) before counts) else pos 0)
    by true = area_up rule (dealt (floats blocks style) before counts) r
        (dealt_range 0 (floats blocks style) before counts (floats_range blocks (float_numbers style) a))
    by false = omega (arith, ints)
