-- The excess of a text that is not over is small.
use Rattle.std.proofs.Common.{◌≡◌, refl, ℕ, suc, ◌*◌, ◌^◌, ◌≤◌, ◌<◌, ◌⊎◌, inl, inr, arith, List, [], ◌∷◌, length, Bool, true, false, Option, Some, None}
use Rattle.std.specs.Prelude.{◌&&◌, nat_abs, ℤ, pos, ◌+ℤ◌, ◌-ℤ◌, ◌≤ℤ◌, ◌<ℤ◌, int_le, int_lt, reverse}
use Rattle.std.specs.List.{AllByRecursion, find}
use Rattle.std.specs.Int.{int_max, int_min}
use Rattle.std.specs.Option.{option_map_or}
use Rattle.std.proofs.lemmas.Int.{int_max_is, int_min_is, ints}
use Rattle.pg_list.specs.Ranges.{IsItemInRange}
use Rattle.pg_list.specs.Shapes.{is_box}
use Rattle.pg_list.specs.declared.item.Item.{Item}
use Rattle.pg_list.specs.declared.item.Item.TheVariants.{BoxItem, Rule, Glue, Kern, Penalty, Insert, Carry}
use Rattle.pg_list.specs.Badness.{is_over}
use Rattle.pg_list.specs.Totals.{depth, depth_of, full_size, has_size, height_of, shrink, shrink_of, top_glue, total}
use Rattle.pg_list.specs.Whole.{whole_sum_by}

-- not below -n
abbrev IsAbove : ℕ → ℤ → Type 0
IsAbove n z = pos 0 ≤ℤ (z +ℤ pos n)

top_low : (topskip : ℤ) (items : List Item) → pos 0 ≤ℤ top_glue topskip items
top_low topskip items = by (find is_box items)
  where
    by : (o : Option Item) →
        pos 0 ≤ℤ option_map_or (λ (item : Item). int_max (pos 0) (topskip -ℤ height_of item)) o (pos 0)
    by None = omega (arith, ints)
    by (Some item) = omega (arith, ints, int_max_is (pos 0) (topskip -ℤ height_of item))

depth_high : (maxdepth : ℤ) (items : List Item) → pos 0 ≤ℤ maxdepth → nat_abs maxdepth < 2 ^ 30 →
    depth maxdepth items <ℤ pos (2 ^ 30)
depth_high maxdepth items some small = by (find has_size (reverse items))
  where
    by : (o : Option Item) →
        option_map_or (λ (item : Item). int_min maxdepth (depth_of item)) o (pos 0) <ℤ pos (2 ^ 30)
    by None = omega (arith, ints)
    by (Some item) = omega (arith, ints, small, int_min_is maxdepth (depth_of item))

size_low : (item : Item) → IsItemInRange item → IsAbove (2 ^ 31) (full_size item)
size_low (BoxItem height depth body) all = add height depth all.0 all.1
  where
    add : (a b : ℤ) → nat_abs a < 2 ^ 30 → nat_abs b < 2 ^ 30 → IsAbove (2 ^ 31) (a +ℤ b)
    add a b h k = omega (arith, ints, h, k)
size_low (Rule height depth body) all = add height depth all.0 all.1
  where
    add : (a b : ℤ) → nat_abs a < 2 ^ 30 → nat_abs b < 2 ^ 30 → IsAbove (2 ^ 31) (a +ℤ b)
    add a b h k = omega (arith, ints, h, k)
size_low (Glue width stretch order shrink body) all = one width all.0
  where
    one : (a : ℤ) → nat_abs a < 2 ^ 30 → IsAbove (2 ^ 31) a
    one a h = omega (arith, ints, h)
size_low (Kern width body) all = one width all
  where
    one : (a : ℤ) → nat_abs a < 2 ^ 30 → IsAbove (2 ^ 31) a
    one a h = omega (arith, ints, h)
size_low (Penalty value body) all = omega (arith, ints)
size_low (Insert class size body) all = omega (arith, ints)
size_low (Carry body) all = omega (arith, ints)

sum_low : (items : List Item) → AllByRecursion IsItemInRange items →
    IsAbove (2 ^ 31 * length items) (whole_sum_by full_size items)
sum_low [] all = omega (arith, ints)
sum_low (item ∷ items) all =
    add (full_size item) (whole_sum_by full_size items) (length items) (size_low item all.0) (sum_low items all.1)
  where
    add : (a b : ℤ) (n : ℕ) → IsAbove (2 ^ 31) a → IsAbove (2 ^ 31 * n) b → IsAbove (2 ^ 31 * suc n) (a +ℤ b)
    add a b n h k = omega (arith, ints, h, k)

shrink_one : (item : Item) → IsItemInRange item → shrink_of item ≤ℤ pos (2 ^ 30)
shrink_one (Glue width stretch order shrink body) all = one shrink all.2
  where
    one : (a : ℤ) → nat_abs a < 2 ^ 30 → a ≤ℤ pos (2 ^ 30)
    one a h = omega (arith, ints, h)
shrink_one (BoxItem height depth body) all = omega (arith, ints)
shrink_one (Rule height depth body) all = omega (arith, ints)
shrink_one (Kern width body) all = omega (arith, ints)
shrink_one (Penalty value body) all = omega (arith, ints)
shrink_one (Insert class size body) all = omega (arith, ints)
shrink_one (Carry body) all = omega (arith, ints)

shrink_high : (items : List Item) → AllByRecursion IsItemInRange items →
    shrink items ≤ℤ pos (2 ^ 30 * length items)
shrink_high [] all = omega (arith, ints)
shrink_high (item ∷ items) all =
    add (shrink_of item) (shrink items) (length items) (shrink_one item all.0) (shrink_high items all.1)
  where
    add : (a b : ℤ) (n : ℕ) → a ≤ℤ pos (2 ^ 30) → b ≤ℤ pos (2 ^ 30 * n) → (a +ℤ b) ≤ℤ pos (2 ^ 30 * suc n)
    add a b n h k = omega (arith, ints, h, k)

pub within : (total shrink goal : ℤ) → is_over total shrink goal ≡ false → (total -ℤ goal) ≤ℤ pos 0 ⊎ (total -ℤ goal) ≤ℤ shrink
within total shrink goal e = by (int_le goal total) (int_lt shrink (total -ℤ goal)) refl refl e
  where
    by : (a b : Bool) → int_le goal total ≡ a → int_lt shrink (total -ℤ goal) ≡ b → (a && b) ≡ false →
        (total -ℤ goal) ≤ℤ pos 0 ⊎ (total -ℤ goal) ≤ℤ shrink
    by true true p q e = absurd cc
    by true false p q e = inr (grind (arith, ints, q))
    by false b p q e = inl (let h : total <ℤ goal = grind (arith, ints, p) in omega (arith, ints, h))

-- what is to be shared
pub excess_small : (topskip maxdepth goal give : ℤ) (items : List Item) → AllByRecursion IsItemInRange items →
    length items ≤ 2 ^ 20 → pos 0 ≤ℤ maxdepth → nat_abs maxdepth < 2 ^ 30 → goal ≤ℤ pos (2 ^ 40) →
    nat_abs give < 2 ^ 42 → is_over (total topskip maxdepth items) (shrink items) (goal +ℤ give) ≡ false →
    nat_abs (goal -ℤ total topskip maxdepth items) < 2 ^ 52
excess_small topskip maxdepth goal give items all few some small high gives fits =
    by (top_glue topskip items) (whole_sum_by full_size items) (depth maxdepth items) (shrink items)
    (top_low topskip items) (sum_low items all) (depth_high maxdepth items some small) (shrink_high items all)
    (within (total topskip maxdepth items) (shrink items) (goal +ℤ give) fits)
  where
    by : (t s d k : ℤ) → pos 0 ≤ℤ t → IsAbove (2 ^ 31 * length items) s → d <ℤ pos (2 ^ 30) →
        k ≤ℤ pos (2 ^ 30 * length items) →
        ((((t +ℤ s) -ℤ d) -ℤ (goal +ℤ give)) ≤ℤ pos 0 ⊎ (((t +ℤ s) -ℤ d) -ℤ (goal +ℤ give)) ≤ℤ k) →
        nat_abs (goal -ℤ ((t +ℤ s) -ℤ d)) < 2 ^ 52
    by t s d k h i j l (inl m) = omega (arith, ints, h, i, j, l, m, few, high, gives)
    by t s d k h i j l (inr m) = omega (arith, ints, h, i, j, l, m, few, high, gives)
