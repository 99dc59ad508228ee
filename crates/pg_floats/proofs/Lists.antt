-- The callouts that are kept, and the floats of the definition.
use Rattle.std.specs.Option.{option_or}
use Rattle.std.proofs.Common.{◌≡◌, refl, sym, ap, ◌∙◌, ℕ, suc, ◌+◌, ◌*◌, ◌≤◌, List, [], ◌∷◌, ◌++◌, length}
use Rattle.std.proofs.Common.{length-append, map, arith, Bool, true, false, Some, None, ℤ, pos}
use Rattle.std.specs.Prelude.{◌==◌, if◌then◌else◌, option_map, is_none, unsigned_abs, Result, Ok, Err}
use Rattle.std.specs.List.{AllByRecursion, filter, filter_map, find, cons_option, sum_by}
use Rattle.std.proofs.lemmas.Int.{ints}
use Rattle.std.proofs.lemmas.List.{map-append, length-map}
use Rattle.std.proofs.lemmas.List.Elements.{filter_map-append}
use Rattle.std.proofs.lemmas.List.Sums.{sum_by-cons}
use Rattle.pg_list.specs.declared.item.Item.{Item}
use Rattle.pg_list.specs.declared.item.Item.TheVariants.{BoxItem, Rule, Glue, Kern, Penalty, Insert, Carry}
use Rattle.pg_list.specs.declared.blocks.Block.{Block}
use Rattle.pg_list.specs.declared.blocks.Block.TheVariants.{One, Choice}
use Rattle.pg_list.specs.Counts.{item_count, block_size}
use Rattle.pg_list.specs.Places.{picked_items}
use Rattle.pg_list.specs.Ranges.{IsItemInRange}
use Rattle.pg_list.specs.Shapes.{IsBlock}
use Rattle.pg_list.specs.Flat.{FlatItem, flat, flat_items_from, variant_flat_items}
use Rattle.pg_style.specs.Classes.{class_in, is_float_class}
use Rattle.pg_style.specs.Ranges.{AreClasses}
use Rattle.pg_style.specs.Values.{StyleValue}
use Rattle.pg_style.specs.declared.style.Class.{Class}
use Rattle.pg_rules.specs.Floats.{sizes_of, insert_size, float_numbers}
use Rattle.law_places.proofs.Measures.{variant_items}
use Rattle.pg_floats.proofs.Numbers.{numbers_are}
use Rattle.pg_floats.specs.declared.callouts.Callout.{Callout}
use Rattle.pg_floats.specs.declared.fault.FloatFault.{FloatFault}
use Rattle.pg_floats.specs.declared.fault.FloatFault.TheVariants.{Class as FaultClass, Limit, Memory}
use Rattle.pg_floats.specs.AreFloats.{AreFloats, HasFloats, IsWithinLimit, MakesList, float_total, unknown_class}
use Rattle.pg_floats.specs.FloatsValue.{ClassFloatsValue, total_of}
use Rattle.pg_floats.specs.Callouts.{callouts_in, callouts_from, class_floats, first_items, insert_class, next_barrier, no_barrier, unknown_among}
use Rattle.pg_floats.specs.Callouts.{unknown_blocks, lists_from}
use Rattle.pg_list.proofs.Sizes.{picked_le}
use Rattle.law_places.proofs.Sizes.{sizes_few}

-- ---- the flat list, block by block

first_from : (n : ℕ) (blocks : List Block) →
    map (λ (flat_item : FlatItem). flat_item.item) (flat_items_from n blocks []) ≡ first_items blocks
first_from n [] = refl
first_from n (One item ∷ blocks) = ap (λ (xs : List Item). item ∷ xs) (first_from (n + 1) blocks)
first_from n (Choice variants ∷ blocks) =
    map-append (λ (flat_item : FlatItem). flat_item.item)
    (variant_flat_items n 0 (picked_items (Choice variants) 0)) (flat_items_from (n + 1) blocks [])
    ∙ (ap (λ (xs : List Item). xs
    ++ map (λ (flat_item : FlatItem). flat_item.item) (flat_items_from (n + 1) blocks []))
    (variant_items 0 n 0 (picked_items (Choice variants) 0))
    ∙ ap (λ (xs : List Item). picked_items (Choice variants) 0 ++ xs) (first_from (n + 1) blocks))

pub flat_first : (blocks : List Block) → flat blocks [] ≡ first_items blocks
flat_first blocks = first_from 0 blocks

pub picked_range : (block : Block) → IsBlock block → AllByRecursion IsItemInRange (picked_items block 0)
picked_range (One item) is = (is, tt)
picked_range (Choice []) is = tt
picked_range (Choice (variant ∷ variants)) is = is.ranges.0

-- ---- sizes

abbrev pub size_of : Callout → ℤ
size_of callout = pos callout.size

pub sizes_in : (number b k : ℕ) (items : List Item) → AllByRecursion IsItemInRange items →
    map size_of (callouts_in number b k items) ≡ sizes_of number items
sizes_in number b k [] all = refl
sizes_in number b k (BoxItem h d body ∷ items) all = sizes_in number b k items all.1
sizes_in number b k (Rule h d body ∷ items) all = sizes_in number b k items all.1
sizes_in number b k (Glue w s o r body ∷ items) all = sizes_in number b k items all.1
sizes_in number b k (Kern w body ∷ items) all = sizes_in number b k items all.1
sizes_in number b k (Penalty v body ∷ items) all = sizes_in number b k items all.1
sizes_in number b k (Insert c z body ∷ items) all =
    by (c == number) (callouts_in number b k items) (sizes_of number items) (sizes_in number b k items all.1)
  where
    by : (t : Bool) (xs : List Callout) (ys : List ℤ) → map size_of xs ≡ ys →
        map size_of (cons_option
        (option_map (λ (size : ℤ). record { block = b; barrier = k; size = unsigned_abs size })
        (if t then Some z else None)) xs) ≡ cons_option (if t then Some z else None) ys
    by true xs ys e = let from = all.0.1 in let same : pos (unsigned_abs z) ≡ z = omega (arith, ints, from) in cc
    by false xs ys e = e
sizes_in number b k (Carry body ∷ items) all = sizes_in number b k items all.1

pub sizes_from : (number past n : ℕ) (blocks : List Block) → AllByRecursion IsBlock blocks →
    map size_of (callouts_from number past n blocks) ≡ sizes_of number (first_items blocks)
sizes_from number past n [] all = refl
sizes_from number past n (block ∷ blocks) all =
    map-append size_of (callouts_in number n (next_barrier past n (block ∷ blocks)) (picked_items block 0))
    (callouts_from number past (n + 1) blocks)
    ∙ (ap (λ (xs : List ℤ). xs ++ map size_of (callouts_from number past (n + 1) blocks))
    (sizes_in number n (next_barrier past n (block ∷ blocks)) (picked_items block 0) (picked_range block all.0))
    ∙ (ap (λ (xs : List ℤ). sizes_of number (picked_items block 0) ++ xs) (sizes_from number past (n + 1) blocks all.1)
    ∙ sym (filter_map-append (insert_size number) (picked_items block 0) (first_items blocks))))

pub length_from : (number past n : ℕ) (blocks : List Block) → AllByRecursion IsBlock blocks →
    length (callouts_from number past n blocks) ≡ length (sizes_of number (flat blocks []))
length_from number past n blocks all =
    sym (length-map (callouts_from number past n blocks) size_of)
    ∙ (ap length (sizes_from number past n blocks all)
    ∙ ap (λ (xs : List Item). length (sizes_of number xs)) (sym (flat_first blocks)))

-- ---- how many

abbrev class_list : List Block → Class → ClassFloatsValue
class_list blocks class = class_floats blocks class.number

first_few : (blocks : List Block) → length (first_items blocks) ≤ item_count blocks
first_few [] = omega arith
first_few (block ∷ blocks) =
    let one = picked_le block 0 in
    let rest = first_few blocks in
    omega (
      arith,
      one,
      rest,
      length-append (picked_items block 0) (first_items blocks),
      sum_by-cons block_size block blocks,
    )

pub class_few : (number past n : ℕ) (blocks : List Block) → AllByRecursion IsBlock blocks →
    length (callouts_from number past n blocks) ≤ item_count blocks
class_few number past n blocks all =
    let e = length_from number past n blocks all in
    let f = ap (λ (xs : List Item). length (sizes_of number xs)) (flat_first blocks) in
    omega (arith, e, f, sizes_few number (first_items blocks), first_few blocks)

pub lists_few : (blocks : List Block) (classes : List Class) → length (lists_from blocks classes) ≤ length classes
lists_few blocks [] = omega arith
lists_few blocks (class ∷ classes) =
    by (is_float_class class) (filter is_float_class classes) (lists_few blocks classes)
  where
    by : (t : Bool) (xs : List Class) → length (map (class_list blocks) xs) ≤ length classes →
        length (map (class_list blocks) (if t then class ∷ xs else xs)) ≤ suc (length classes)
    by true xs h = omega arith
    by false xs h = omega arith

pub total_few : (blocks : List Block) (classes : List Class) → AllByRecursion IsBlock blocks →
    total_of (lists_from blocks classes) ≤ item_count blocks * length classes
total_few blocks [] all = omega arith
total_few blocks (class ∷ classes) all =
    by (is_float_class class) (filter is_float_class classes) (total_few blocks classes all)
  where
    by : (t : Bool) (xs : List Class) → total_of (map (class_list blocks) xs) ≤ item_count blocks * length classes →
        total_of (map (class_list blocks) (if t then class ∷ xs else xs)) ≤ item_count blocks * suc (length classes)
    by true xs h =
        let one = class_few class.number no_barrier 0 blocks all in
        let s = sum_by-cons (λ (floats : ClassFloatsValue). length floats.callouts) (class_list blocks class)
        (map (class_list blocks) xs) in
        omega (arith, one, s, h)
    by false xs h = omega (arith, h)

-- ---- the first strange insert

find_append : (p : ℕ → Bool) (xs ys : List ℕ) → find p (xs ++ ys) ≡ option_or (find p xs) (find p ys)
find_append p [] ys = refl
find_append p (x ∷ xs) ys = by (p x) (find_append p xs ys)
  where
    by : (t : Bool) → find p (xs ++ ys) ≡ option_or (find p xs) (find p ys) →
        (if t then Some x else find p (xs ++ ys)) ≡ option_or (if t then Some x else find p xs) (find p ys)
    by true e = refl
    by false e = e

pub strange_is : (classes : List Class) (blocks : List Block) →
    unknown_blocks classes blocks ≡ unknown_among classes (first_items blocks)
strange_is classes [] = refl
strange_is classes (block ∷ blocks) =
    ap (option_or (unknown_among classes (picked_items block 0))) (strange_is classes blocks)
    ∙ sym (ap (find (λ number. is_none (class_in classes number)))
    (filter_map-append insert_class (picked_items block 0) (first_items blocks))
    ∙ find_append (λ number. is_none (class_in classes number)) (filter_map insert_class (picked_items block 0))
    (filter_map insert_class (first_items blocks)))

-- ---- the lists of the definition

mapped_twice : {X Y Z : Type 0} (f : Y → Z) (g : X → Y) (xs : List X) → map f (map g xs) ≡ map (λ x. f (g x)) xs
mapped_twice f g [] = refl
mapped_twice f g (x ∷ xs) = ap (λ ys. f (g x) ∷ ys) (mapped_twice f g xs)

pub lists_are : (blocks : List Block) (style : StyleValue) → AreClasses style.classes →
    lists_from blocks style.classes ≡ map (class_floats blocks) (float_numbers style)
lists_are blocks style are =
    sym (mapped_twice (class_floats blocks) (λ (class : Class). class.number) (filter is_float_class style.classes))
    ∙ ap (map (class_floats blocks)) (sym (numbers_are style are))

pub the_total_is : (blocks : List Block) (numbers : List ℕ) → AllByRecursion IsBlock blocks →
    total_of (map (class_floats blocks) numbers)
    ≡ sum_by (λ (sizes : List ℤ). length sizes) (map (λ number. sizes_of number (flat blocks [])) numbers)
the_total_is blocks [] all = refl
the_total_is blocks (number ∷ numbers) all =
    sum_by-cons (λ (floats : ClassFloatsValue). length floats.callouts) (class_floats blocks number)
    (map (class_floats blocks) numbers)
    ∙ (ap (λ n. n + total_of (map (class_floats blocks) numbers)) (length_from number no_barrier 0 blocks all)
    ∙ (ap (λ n. length (sizes_of number (flat blocks [])) + n) (the_total_is blocks numbers all)
    ∙ sym (sum_by-cons (λ (sizes : List ℤ). length sizes) (sizes_of number (flat blocks []))
    (map (λ number. sizes_of number (flat blocks [])) numbers))))

pub list_total : (blocks : List Block) (style : StyleValue) (list : List ClassFloatsValue) →
    AreFloats blocks style list → total_of list ≡ float_total blocks style
list_total blocks style list are = ap total_of are.floats_are ∙ the_total_is blocks (float_numbers style) are.shape

pub has_floats : (r : Result (List ClassFloatsValue) FloatFault) (blocks : List Block) (style : StyleValue) →
    AllByRecursion IsBlock blocks →
    AreClasses style.classes → IsWithinLimit r (lists_from blocks style.classes) → HasFloats r blocks style
has_floats (Ok list) blocks style all are h =
    let e = lists_are blocks style are in
    let t = ap total_of e ∙ the_total_is blocks (float_numbers style) all in
    (record { shape = all; floats_are = h.0 ∙ e }, omega (arith, t, h.1))
has_floats (Err (FaultClass number)) blocks style all are h = h
has_floats (Err (Limit count)) blocks style all are h =
    let e = lists_are blocks style are in
    let t = ap total_of e ∙ the_total_is blocks (float_numbers style) all in
    (omega (arith, t, h.0), h.1)
has_floats (Err Memory) blocks style all are h = tt

-- with no strange insert before
pub makes_list : (r : Result (List ClassFloatsValue) FloatFault) (blocks : List Block) (style : StyleValue) →
    unknown_class blocks style ≡ None → HasFloats r blocks style → MakesList r blocks style
makes_list (Ok list) blocks style known has = (has.0, known, has.1)
makes_list (Err (FaultClass number)) blocks style known has = absurd has
makes_list (Err (Limit count)) blocks style known has = (known, has.0, has.1)
makes_list (Err Memory) blocks style known has = known
