-- The items from a place on are a stretch, and then those from the next front on.
use Rattle.std.proofs.Common.{◌≡◌, refl, sym, ap, ◌∙◌, subst, ℕ, zero, suc, ◌+◌, ◌≤◌, ◌<◌, List, [], ◌∷◌, ◌++◌, length, drop, arith, Bool, true, false, Option, Some, None, ℤ, append_assoc}
use Rattle.std.specs.Prelude.{◌==◌, if◌then◌else◌, cond, slice_get, int_le}
use Rattle.std.specs.List.{AllByRecursion}
use Rattle.std.specs.Option.{option_map_or}
use Rattle.pg_list.specs.declared.item.Item.{Item}
use Rattle.pg_list.specs.declared.blocks.Block.{Block}
use Rattle.pg_list.specs.declared.blocks.Block.TheVariants.{One, Choice}
use Rattle.pg_list.specs.declared.variants.Variant.{Variant}
use Rattle.pg_list.specs.declared.galley.Place.{Place}
use Rattle.pg_list.specs.Places.{items_around, picked_items, place}
use Rattle.pg_list.specs.Flat.{FlatItem, blocks_at, flat_items_at, flat_items_from, fronts, later_flat_items, picked_variants, variant_flat_items}
use Rattle.pg_list.proofs.Places.{fronts_cons}
use Rattle.pg_lemmas.proofs.Bools.{both_of, if_false}
use Rattle.law_places.proofs.Places.{around_is, drop_head}
use Rattle.pg_lemmas.proofs.Numbers.{suc_not}
use Rattle.pg_rules.specs.Room.{Document}
use Rattle.pg_column.specs.Passed.{Passed, fits, is_end_here, pass_item, pass_items, raised, crossed, least_room, with_next}
use Rattle.law_walk.specs.Walk.{first_front, first_items, next_front, picked_front, picked_stretch, singles, variants_at, variants_in}
use Rattle.pg_column.proofs.Passing.{fits_raised}

-- the blocks behind the single ones
abbrev pub after_singles : List Block → List Block
after_singles [] = []
after_singles (One item ∷ blocks) = after_singles blocks
after_singles (Choice variants ∷ blocks) = Choice variants ∷ blocks

pub split_singles : (n : ℕ) (blocks : List Block) (picks : List ℕ) →
    flat_items_from n blocks picks
    ≡ singles n blocks ++ flat_items_from (next_front n blocks) (after_singles blocks) picks
split_singles n [] picks = refl
split_singles n (One item ∷ blocks) picks =
    ap (λ (xs : List FlatItem). record { place = place n 0 0; item = item; is_front = false } ∷ xs)
    (split_singles (n + 1) blocks picks)
split_singles n (Choice variants ∷ blocks) picks = refl

pub variants_behind : (blocks : List Block) (picks : List ℕ) →
    picked_variants blocks picks ≡ picked_variants (after_singles blocks) picks
variants_behind [] picks = refl
variants_behind (One item ∷ blocks) picks = variants_behind blocks picks
variants_behind (Choice variants ∷ blocks) picks = refl

pub drop_front : (all : List Block) (n : ℕ) (blocks : List Block) → drop n all ≡ blocks →
    drop (next_front n blocks) all ≡ after_singles blocks
drop_front all n [] e = e
drop_front all n (One item ∷ blocks) e = drop_front all (n + 1) blocks (drop_head n all blocks (One item) e).1
drop_front all n (Choice variants ∷ blocks) e = e

pub drop_within : {X : Type 0} (n : ℕ) (xs ys : List X) (y : X) → drop n xs ≡ y ∷ ys → n < length xs
drop_within zero [] ys y e = absurd cc
drop_within zero (x ∷ xs) ys y e = omega arith
drop_within (suc n) [] ys y e = absurd cc
drop_within (suc n) (x ∷ xs) ys y e = let h : n < length xs = drop_within n xs ys y e in omega (arith, h)

pub front_within : (all : List Block) (n : ℕ) (blocks : List Block) → drop n all ≡ blocks → n ≤ length all →
    next_front n blocks ≤ length all
front_within all n [] e h = h
front_within all n (One item ∷ blocks) e h =
    let w = drop_within n all blocks (One item) e in
    front_within all (n + 1) blocks (drop_head n all blocks (One item) e).1 (omega (arith, w))
front_within all n (Choice variants ∷ blocks) e h = h

pub front_behind : (n : ℕ) (blocks : List Block) → n ≤ next_front n blocks
front_behind n [] = omega arith
front_behind n (One item ∷ blocks) = let r = front_behind (n + 1) blocks in omega (arith, r)
front_behind n (Choice variants ∷ blocks) = omega arith

-- ---- fronts

pub fronts_none : (xs : List FlatItem) (k : ℕ) → AllByRecursion (λ (x : FlatItem). x.is_front ≡ false) xs →
    fronts xs k ≡ 0
fronts_none xs zero a = refl
fronts_none [] (suc k) a = refl
fronts_none (x ∷ xs) (suc k) a =
    fronts_cons x xs k
    ∙ (ap (λ (b : Bool). cond b 1 0 + fronts xs k) a.0 ∙ (let r = fronts_none xs k a.1 in omega (arith, r)))

pub fronts_right : (xs ys : List FlatItem) (n k : ℕ) → n ≡ length xs + k →
    fronts (xs ++ ys) n ≡ fronts xs (length xs) + fronts ys k
fronts_right [] ys n k e = let same : n ≡ k = omega (arith, e) in
    let f : fronts ys n ≡ fronts ys k = ap (fronts ys) same in omega (arith, f)
fronts_right (x ∷ xs) ys zero k e = absurd (omega (arith, e))
fronts_right (x ∷ xs) ys (suc n) k e =
    let r = fronts_right xs ys n k (omega (arith, e)) in
    let a = fronts_cons x (xs ++ ys) n in
    let b = fronts_cons x xs (length xs) in
    omega (arith, r, a, b)

pub fronts_left : (xs ys : List FlatItem) (n : ℕ) → n ≤ length xs → fronts (xs ++ ys) n ≡ fronts xs n
fronts_left xs ys zero h = refl
fronts_left [] ys (suc n) h = absurd (omega (arith, h))
fronts_left (x ∷ xs) ys (suc n) h =
    let r = fronts_left xs ys n (omega (arith, h)) in
    let a = fronts_cons x (xs ++ ys) n in
    let b = fronts_cons x xs n in
    omega (arith, r, a, b)

none_append : (xs ys : List FlatItem) → AllByRecursion (λ (x : FlatItem). x.is_front ≡ false) xs →
    AllByRecursion (λ (x : FlatItem). x.is_front ≡ false) ys →
    AllByRecursion (λ (x : FlatItem). x.is_front ≡ false) (xs ++ ys)
none_append [] ys a b = b
none_append (x ∷ xs) ys a b = (a.0, none_append xs ys a.1 b)

later_none : (n v i : ℕ) (items : List Item) →
    AllByRecursion (λ (x : FlatItem). x.is_front ≡ false) (later_flat_items n v i items)
later_none n v i [] = tt
later_none n v i (item ∷ items) = (refl, later_none n v (i + 1) items)

singles_none : (n : ℕ) (blocks : List Block) →
    AllByRecursion (λ (x : FlatItem). x.is_front ≡ false) (singles n blocks)
singles_none n [] = tt
singles_none n (One item ∷ blocks) = (refl, singles_none (n + 1) blocks)
singles_none n (Choice variants ∷ blocks) = tt

none_drop : (k : ℕ) (xs : List FlatItem) → AllByRecursion (λ (x : FlatItem). x.is_front ≡ false) xs →
    AllByRecursion (λ (x : FlatItem). x.is_front ≡ false) (drop k xs)
none_drop zero xs a = a
none_drop (suc k) [] a = tt
none_drop (suc k) (x ∷ xs) a = none_drop k xs a.1

inner_none : (n v j : ℕ) (items : List Item) →
    AllByRecursion (λ (x : FlatItem). x.is_front ≡ false) (drop (suc j) (variant_flat_items n v items))
inner_none n v j [] = tt
inner_none n v j (item ∷ items) = none_drop j (later_flat_items n v 1 items) (later_none n v 1 items)

-- no front stands in the first stretch
pub first_none : (blocks : List Block) (from : Place) →
    AllByRecursion (λ (x : FlatItem). x.is_front ≡ false) (first_items blocks from)
first_none blocks from = by from.index
  where
    by : (i : ℕ) → AllByRecursion (λ (x : FlatItem). x.is_front ≡ false)
        (if i == 0 then singles from.block (drop from.block blocks)
        else drop i (variant_flat_items from.block from.variant (items_around blocks from))
        ++ singles (from.block + 1) (drop (from.block + 1) blocks))
    by zero = singles_none from.block (drop from.block blocks)
    by (suc j) =
        subst (AllByRecursion (λ (x : FlatItem). x.is_front ≡ false)) (sym (if_false (suc j == 0) _ _ (suc_not j)))
        (none_append (drop (suc j) (variant_flat_items from.block from.variant (items_around blocks from)))
        (singles (from.block + 1) (drop (from.block + 1) blocks))
        (inner_none from.block from.variant j (items_around blocks from))
        (singles_none (from.block + 1) (drop (from.block + 1) blocks)))

-- one front stands in a stretch that begins with one
pub one_front : (n v : ℕ) (items : List Item) (bs : List Block) (m k : ℕ) → 0 < length items → 1 ≤ k →
    fronts (variant_flat_items n v items ++ singles m bs) k ≡ 1
one_front n v [] bs m k some h = absurd (omega (arith, some))
one_front n v (item ∷ items) bs m zero some h = absurd (omega (arith, h))
one_front n v (item ∷ items) bs m (suc k) some h =
    let a = fronts_cons (record { place = place n 0 0; item = item; is_front = true })
    (later_flat_items n v 1 items ++ singles m bs) k in
    let b = fronts_none (later_flat_items n v 1 items ++ singles m bs) k
    (none_append (later_flat_items n v 1 items) (singles m bs) (later_none n v 1 items) (singles_none m bs)) in
    omega (arith, a, b)

-- ---- from the start

pub record IsFirst (all : List Block) (from : Place) : Type 0 where
  pub split : (picks : List ℕ) → flat_items_at all from picks ≡ first_items all from
      ++ flat_items_from (first_front all from) (drop (first_front all from) all) picks
  pub named : (picks : List ℕ) → picked_variants (blocks_at all from) picks
      ≡ picked_variants (drop (first_front all from) all) picks

pub first_is : (all : List Block) (from : Place) → IsFirst all from
first_is all from = by (from.index == 0) refl
  where
    Split : Bool → Type 0
    Split i = (picks : List ℕ) →
        (if i then flat_items_from from.block (drop from.block all) picks
        else drop from.index (variant_flat_items from.block from.variant (items_around all from))
        ++ flat_items_from (from.block + 1) (drop (from.block + 1) all) picks)
        ≡ (if i then singles from.block (drop from.block all)
        else drop from.index (variant_flat_items from.block from.variant (items_around all from))
        ++ singles (from.block + 1) (drop (from.block + 1) all))
        ++ flat_items_from (if i then next_front from.block (drop from.block all)
        else next_front (from.block + 1) (drop (from.block + 1) all))
        (drop (if i then next_front from.block (drop from.block all)
        else next_front (from.block + 1) (drop (from.block + 1) all)) all) picks

    Named : Bool → Type 0
    Named i = (picks : List ℕ) →
        picked_variants (drop (if i then from.block else from.block + 1) all) picks
        ≡ picked_variants (drop (if i then next_front from.block (drop from.block all)
        else next_front (from.block + 1) (drop (from.block + 1) all)) all) picks

    cut : (n : ℕ) (picks : List ℕ) → flat_items_from n (drop n all) picks
        ≡ singles n (drop n all) ++ flat_items_from (next_front n (drop n all)) (drop (next_front n (drop n all)) all)
        picks
    cut n picks = split_singles n (drop n all) picks
        ∙ ap (λ (bs : List Block). singles n (drop n all) ++ flat_items_from (next_front n (drop n all)) bs picks)
        (sym (drop_front all n (drop n all) refl))

    behind : (n : ℕ) (picks : List ℕ) → picked_variants (drop n all) picks
        ≡ picked_variants (drop (next_front n (drop n all)) all) picks
    behind n picks = variants_behind (drop n all) picks
        ∙ ap (λ (bs : List Block). picked_variants bs picks) (sym (drop_front all n (drop n all) refl))

    split_at : (i : Bool) → Split i
    split_at true picks = cut from.block picks
    split_at false picks =
        let head = drop from.index (variant_flat_items from.block from.variant (items_around all from)) in
        ap (λ (xs : List FlatItem). head ++ xs) (cut (from.block + 1) picks)
        ∙ sym (append_assoc head (singles (from.block + 1) (drop (from.block + 1) all))
        (flat_items_from (next_front (from.block + 1) (drop (from.block + 1) all))
        (drop (next_front (from.block + 1) (drop (from.block + 1) all)) all) picks))

    named_at : (i : Bool) → Named i
    named_at true picks = behind from.block picks
    named_at false picks = behind (from.block + 1) picks

    by : (i : Bool) → i ≡ (from.index == 0) → IsFirst all from
    by i e = record { split = subst Split e (split_at i); named = subst Named e (named_at i) }

-- ---- from a front, with a variant picked

pub picked_split : (all : List Block) (b : ℕ) (variants : List Variant) (blocks : List Block) (pick : ℕ)
    (picks : List ℕ) → drop b all ≡ Choice variants ∷ blocks →
    flat_items_from b (Choice variants ∷ blocks) (pick ∷ picks)
    ≡ picked_stretch all b pick ++ flat_items_from (picked_front all b) (drop (picked_front all b) all) picks
picked_split all b variants blocks pick picks e =
    let r = drop_head b all blocks (Choice variants) e in
    let own : items_around all (place b pick 0) ≡ picked_items (Choice variants) pick =
    around_is all (Choice variants) b pick 0 r.0 in
    made (items_around all (place b pick 0)) (drop (b + 1) all) own r.1 (drop_front all (b + 1) (drop (b + 1) all) refl)
  where
    made : (items : List Item) (bs : List Block) → items ≡ picked_items (Choice variants) pick → bs ≡ blocks →
        drop (next_front (b + 1) bs) all ≡ after_singles bs →
        variant_flat_items b pick (picked_items (Choice variants) pick) ++ flat_items_from (b + 1) blocks picks
        ≡ (variant_flat_items b pick items ++ singles (b + 1) bs)
        ++ flat_items_from (next_front (b + 1) bs) (drop (next_front (b + 1) bs) all) picks
    made items bs p q d =
        ap (λ (ys : List Item). variant_flat_items b pick ys ++ flat_items_from (b + 1) blocks picks) (sym p)
        ∙ (ap (λ (cs : List Block). variant_flat_items b pick items ++ flat_items_from (b + 1) cs picks) (sym q)
        ∙ (ap (λ (xs : List FlatItem). variant_flat_items b pick items ++ xs)
        (split_singles (b + 1) bs picks
        ∙ ap (λ (cs : List Block). singles (b + 1) bs ++ flat_items_from (next_front (b + 1) bs) cs picks) (sym d))
        ∙ sym (append_assoc (variant_flat_items b pick items) (singles (b + 1) bs)
        (flat_items_from (next_front (b + 1) bs) (drop (next_front (b + 1) bs) all) picks))))

pub picked_named : (all : List Block) (b : ℕ) (blocks : List Block) (block : Block) (picks : List ℕ) →
    drop b all ≡ block ∷ blocks →
    picked_variants blocks picks ≡ picked_variants (drop (picked_front all b) all) picks
picked_named all b blocks block picks e =
    let r = drop_head b all blocks block e in
    ap (λ (bs : List Block). picked_variants bs picks) (sym r.1)
    ∙ (variants_behind (drop (b + 1) all) picks
    ∙ ap (λ (bs : List Block). picked_variants bs picks) (sym (drop_front all (b + 1) (drop (b + 1) all) refl)))

pub variants_are : (all : List Block) (b : ℕ) (variants : List Variant) (blocks : List Block) →
    drop b all ≡ Choice variants ∷ blocks → variants_at all b ≡ variants
variants_are all b variants blocks e = by (slice_get all b) (drop_head b all blocks (Choice variants) e).0
  where
    by : (o : Option Block) → o ≡ Some (Choice variants) → variants_in o ≡ variants
    by o p = rw p refl

-- ---- bounds only grow

item_fits : (doc : Document) (top : ℤ) (p q : Passed) (x : FlatItem) → pass_item doc p x ≡ Some q →
    fits q.bound top ≡ true → fits p.bound top ≡ true
item_fits doc top p q x e f = by (is_end_here doc.blocks p x.place) _ e
  where
    same : (a b : Passed) → Some a ≡ Some b → a ≡ b
    same a b e = cc

    by : (end forced : Bool) → (if end then (if forced then None
        else Some (with_next doc.style (crossed doc.style p) x.item)) else Some (with_next doc.style p x.item)) ≡ Some
        q →
        fits p.bound top ≡ true
    by true true e = absurd cc
    by true false e =
        let s = same (with_next doc.style (crossed doc.style p) x.item) q e in
        let g : fits (raised p.bound (least_room doc.style p)) top ≡ true =
        ap (λ (r : Passed). fits r.bound top) s ∙ f in
        (both_of (fits p.bound top) (int_le (least_room doc.style p) top)
        (sym (fits_raised p.bound (least_room doc.style p) top) ∙ g)).0
    by false forced e = ap (λ (r : Passed). fits r.bound top) (same (with_next doc.style p x.item) q e) ∙ f

pub items_fit : (doc : Document) (top : ℤ) (p q : Passed) (xs : List FlatItem) → pass_items doc p xs ≡ Some q →
    fits q.bound top ≡ true → fits p.bound top ≡ true
items_fit doc top p q [] e f = let s : p ≡ q = cc in ap (λ (r : Passed). fits r.bound top) s ∙ f
items_fit doc top p q (x ∷ xs) e f = by (pass_item doc p x) refl e (λ r k. items_fit doc top r q xs k f)
  where
    by : (o : Option Passed) → pass_item doc p x ≡ o →
        option_map_or (λ (r : Passed). pass_items doc r xs) o None ≡ Some q →
        ((r : Passed) → pass_items doc r xs ≡ Some q → fits r.bound top ≡ true) → fits p.bound top ≡ true
    by None k e more = absurd cc
    by (Some r) k e more = item_fits doc top p r x k (more r e)
