-- The items of a column, and its size, in range.
use Rattle.std.proofs.Common.{◌≡◌, refl, sym, subst, ◌<◌, ◌≤◌, ◌+◌, ◌*◌, ◌^◌, ℕ, Bool, true, false, List, [], ◌∷◌, ◌++◌, length, map, drop, arith}
use Rattle.std.proofs.lemmas.Int.{ints}
use Rattle.std.proofs.lemmas.List.{reverse-append}
use Rattle.std.specs.Prelude.{◌==◌, slice_get, unwrap_or, option_map, reverse, Option, Some, None, if◌then◌else◌, cond, ℤ, pos, ◌+ℤ◌, ◌-ℤ◌, nat_abs, int_lt}
use Rattle.std.specs.Int.{int_min, int_max}
use Rattle.std.specs.List.{AllByRecursion, find}
use Rattle.std.specs.Option.{option_map_or}
use Rattle.pg_list.specs.declared.galley.Place.{Place}
use Rattle.pg_list.specs.declared.item.Item.{Item}
use Rattle.pg_list.specs.declared.item.Item.TheVariants.{BoxItem, Rule, Glue, Kern, Penalty, Insert, Carry}
use Rattle.pg_list.specs.declared.blocks.Block.{Block}
use Rattle.pg_list.specs.declared.blocks.Block.TheVariants.{One, Choice}
use Rattle.pg_list.specs.declared.variants.Variant.{Variant}
use Rattle.pg_list.specs.Places.{picked_items, items_around}
use Rattle.pg_list.specs.Ranges.{IsItemInRange}
use Rattle.pg_list.specs.Shapes.{IsBlock, is_box}
use Rattle.pg_list.specs.Flat.{FlatItem, variant_flat_items, later_flat_items, flat_items_from, flat_items_at}
use Rattle.pg_list.specs.Totals.{full_size, height_of, depth_of, has_size, top_glue, depth, total}
use Rattle.pg_list.specs.Whole.{whole_sum_by}
use Rattle.law_columns.proofs.Prices.{add_few}
use Rattle.law_columns.proofs.StyleFacts.{find_all}
use Rattle.law_read_back.proofs.Ranges.{all_drop}
use Rattle.pg_lemmas.proofs.Lists.{get_all}
pub use Rattle.pg_lemmas.proofs.Lists.{all_append, all_take}
pub use Rattle.law_space.proofs.Lengths.{trimmed_all}

-- each item of a block
abbrev pub AllIn : (Item → Type 0) → Block → Type 0
AllIn P (One item) = P item
AllIn P (Choice variants) = AllByRecursion (λ (variant : Variant). AllByRecursion P variant.items) variants

pub block_items : (block : Block) → IsBlock block → AllIn IsItemInRange block
block_items (One item) h = h
block_items (Choice variants) h = h.ranges

pub blocks_items : (blocks : List Block) → AllByRecursion IsBlock blocks → AllByRecursion (AllIn IsItemInRange) blocks
blocks_items [] a = tt
blocks_items (b ∷ bs) a = (block_items b a.0, blocks_items bs a.1)

picked_all : (P : Item → Type 0) (block : Block) (variant : ℕ) → AllIn P block →
    AllByRecursion P (picked_items block variant)
picked_all P (One item) variant a = by (variant == 0)
  where
    by : (b : Bool) → AllByRecursion P (if b then item ∷ [] else [])
    by true = (a, tt)
    by false = tt
picked_all P (Choice variants) variant a = by (slice_get variants variant) refl
  where
    by : (o : Option Variant) → o ≡ slice_get variants variant →
        AllByRecursion P (unwrap_or (option_map (λ (v : Variant). v.items) o) [])
    by None e = tt
    by (Some v) e = get_all (λ (w : Variant). AllByRecursion P w.items) variants variant v a (sym e)

around_all : (P : Item → Type 0) (blocks : List Block) (at : Place) → AllByRecursion (AllIn P) blocks →
    AllByRecursion P (items_around blocks at)
around_all P blocks at a = by (slice_get blocks at.block) refl
  where
    by : (o : Option Block) → o ≡ slice_get blocks at.block →
        AllByRecursion P (unwrap_or (option_map (λ (block : Block). picked_items block at.variant) o) [])
    by None e = tt
    by (Some b) e = picked_all P b at.variant (get_all (AllIn P) blocks at.block b a (sym e))

abbrev pub Holds : (Item → Type 0) → FlatItem → Type 0
Holds P flat_item = P flat_item.item

later_all : (P : Item → Type 0) (block variant index : ℕ) (items : List Item) → AllByRecursion P items →
    AllByRecursion (Holds P) (later_flat_items block variant index items)
later_all P block variant index [] a = tt
later_all P block variant index (x ∷ xs) a = (a.0, later_all P block variant (index + 1) xs a.1)

variant_all : (P : Item → Type 0) (block variant : ℕ) (items : List Item) → AllByRecursion P items →
    AllByRecursion (Holds P) (variant_flat_items block variant items)
variant_all P block variant [] a = tt
variant_all P block variant (x ∷ xs) a = (a.0, later_all P block variant 1 xs a.1)

pub from_all : (P : Item → Type 0) (n : ℕ) (blocks : List Block) (picks : List ℕ) → AllByRecursion (AllIn P) blocks →
    AllByRecursion (Holds P) (flat_items_from n blocks picks)
from_all P n [] picks a = tt
from_all P n (One item ∷ blocks) picks a = (a.0, from_all P (n + 1) blocks picks a.1)
from_all P n (Choice variants ∷ blocks) [] a =
    all_append (Holds P) (variant_flat_items n 0 (picked_items (Choice variants) 0)) (flat_items_from (n + 1) blocks [])
    (variant_all P n 0 (picked_items (Choice variants) 0) (picked_all P (Choice variants) 0 a.0))
    (from_all P (n + 1) blocks [] a.1)
from_all P n (Choice variants ∷ blocks) (pick ∷ picks) a =
    all_append (Holds P) (variant_flat_items n pick (picked_items (Choice variants) pick))
    (flat_items_from (n + 1) blocks picks)
    (variant_all P n pick (picked_items (Choice variants) pick) (picked_all P (Choice variants) pick a.0))
    (from_all P (n + 1) blocks picks a.1)

pub all_map : (P : Item → Type 0) (xs : List FlatItem) → AllByRecursion (Holds P) xs →
    AllByRecursion P (map (λ (flat_item : FlatItem). flat_item.item) xs)
all_map P [] a = tt
all_map P (x ∷ xs) a = (a.0, all_map P xs a.1)

pub at_all : (P : Item → Type 0) (blocks : List Block) (at : Place) (picks : List ℕ) → AllByRecursion (AllIn P) blocks →
    AllByRecursion P (map (λ (flat_item : FlatItem). flat_item.item) (flat_items_at blocks at picks))
at_all P blocks at picks a = all_map P (flat_items_at blocks at picks) (by (at.index == 0))
  where
    around : List FlatItem
    around = variant_flat_items at.block at.variant (items_around blocks at)

    by : (b : Bool) → AllByRecursion (Holds P) (if b then flat_items_from at.block (drop at.block blocks) picks
        else drop at.index around ++ flat_items_from (at.block + 1) (drop (at.block + 1) blocks) picks)
    by true = from_all P at.block (drop at.block blocks) picks (all_drop (AllIn P) at.block blocks a)
    by false = all_append (Holds P) (drop at.index around) (flat_items_from (at.block + 1)
        (drop (at.block + 1) blocks) picks)
        (all_drop (Holds P) at.index around
        (variant_all P at.block at.variant (items_around blocks at) (around_all P blocks at a)))
        (from_all P (at.block + 1) (drop (at.block + 1) blocks) picks (all_drop (AllIn P) (at.block + 1) blocks a))

-- ---- the size

size_few : (x : Item) → IsItemInRange x → nat_abs (full_size x) ≤ 2 ^ 31
size_few (BoxItem h d body) a = add_few h d (2 ^ 30) (2 ^ 30) (omega (arith, a.0)) (omega (arith, a.1))
size_few (Rule h d body) a = add_few h d (2 ^ 30) (2 ^ 30) (omega (arith, a.0)) (omega (arith, a.1))
size_few (Glue w s o k body) a = omega (arith, a.0)
size_few (Kern w body) a = omega (arith, a)
size_few (Penalty v body) a = omega arith
size_few (Insert c s body) a = omega arith
size_few (Carry body) a = omega arith

sum_few : (xs : List Item) → AllByRecursion IsItemInRange xs → nat_abs (whole_sum_by full_size xs) ≤ 2 ^ 31 * length xs
sum_few [] a = omega arith
sum_few (x ∷ xs) a =
    let r = sum_few xs a.1 in
    let s = add_few (full_size x) (whole_sum_by full_size xs) (2 ^ 31) (2 ^ 31 * length xs) (size_few x a.0) r in
    omega (arith, s)

height_few : (x : Item) → IsItemInRange x → nat_abs (height_of x) ≤ 2 ^ 30
height_few (BoxItem h d body) a = omega (arith, a.0)
height_few (Rule h d body) a = omega (arith, a.0)
height_few (Glue w s o k body) a = omega arith
height_few (Kern w body) a = omega arith
height_few (Penalty v body) a = omega arith
height_few (Insert c s body) a = omega arith
height_few (Carry body) a = omega arith

depth_few : (x : Item) → IsItemInRange x → nat_abs (depth_of x) ≤ 2 ^ 30
depth_few (BoxItem h d body) a = omega (arith, a.1)
depth_few (Rule h d body) a = omega (arith, a.1)
depth_few (Glue w s o k body) a = omega arith
depth_few (Kern w body) a = omega arith
depth_few (Penalty v body) a = omega arith
depth_few (Insert c s body) a = omega arith
depth_few (Carry body) a = omega arith

cond_few : (b : Bool) (x y : ℤ) (n : ℕ) → nat_abs x ≤ n → nat_abs y ≤ n → nat_abs (cond b x y) ≤ n
cond_few true x y n h k = h
cond_few false x y n h k = k

pub less_few : (a b : ℤ) (x y : ℕ) → nat_abs a ≤ x → nat_abs b ≤ y → nat_abs (a -ℤ b) ≤ x + y
less_few a b x y h k = omega (arith, ints)

top_glue_few : (topskip : ℤ) (items : List Item) → nat_abs topskip < 2 ^ 30 → AllByRecursion IsItemInRange items →
    nat_abs (top_glue topskip items) ≤ 2 ^ 31
top_glue_few topskip items small a = by (find is_box items) refl
  where
    by : (o : Option Item) → o ≡ find is_box items →
        nat_abs (option_map_or (λ (x : Item). int_max (pos 0) (topskip -ℤ height_of x)) o (pos 0)) ≤ 2 ^ 31
    by None e = omega arith
    by (Some x) e =
        let r : IsItemInRange x = find_all IsItemInRange is_box items a x (sym e) in
        cond_few (int_lt (topskip -ℤ height_of x) (pos 0)) (pos 0) (topskip -ℤ height_of x) (2 ^ 31) (omega arith)
        (less_few topskip (height_of x) (2 ^ 30) (2 ^ 30) (omega arith) (height_few x r))

all_reverse : (P : Item → Type 0) (xs : List Item) → AllByRecursion P xs → AllByRecursion P (reverse xs)
all_reverse P [] a = tt
all_reverse P (x ∷ xs) a = subst (AllByRecursion P) (sym (reverse-append (x ∷ []) xs))
    (all_append P (reverse xs) (x ∷ []) (all_reverse P xs a.1) (a.0, tt))

hanging_few : (maxdepth : ℤ) (items : List Item) → nat_abs maxdepth < 2 ^ 30 → AllByRecursion IsItemInRange items →
    nat_abs (depth maxdepth items) ≤ 2 ^ 30
hanging_few maxdepth items small a = by (find has_size (reverse items)) refl
  where
    by : (o : Option Item) → o ≡ find has_size (reverse items) →
        nat_abs (option_map_or (λ (x : Item). int_min maxdepth (depth_of x)) o (pos 0)) ≤ 2 ^ 30
    by None e = omega arith
    by (Some x) e =
        let r : IsItemInRange x =
        find_all IsItemInRange has_size (reverse items) (all_reverse IsItemInRange items a) x (sym e) in
        cond_few (int_lt (depth_of x) maxdepth) (depth_of x) maxdepth (2 ^ 30) (depth_few x r) (omega arith)

pub total_few : (topskip maxdepth : ℤ) (items : List Item) → nat_abs topskip < 2 ^ 30 → nat_abs maxdepth < 2 ^ 30 →
    AllByRecursion IsItemInRange items → length items ≤ 2 ^ 21 → nat_abs (total topskip maxdepth items) ≤ 2 ^ 60
total_few topskip maxdepth items s t a few =
    let g = top_glue_few topskip items s a in
    let w = sum_few items a in
    let d = hanging_few maxdepth items t a in
    let b = add_few (top_glue topskip items) (whole_sum_by full_size items) (2 ^ 31) (2 ^ 31 * length items) g w in
    let c = less_few (top_glue topskip items +ℤ whole_sum_by full_size items) (depth maxdepth items)
    (2 ^ 31 + 2 ^ 31 * length items) (2 ^ 30) b d in
    omega (arith, c)
