-- The callouts before a place are the inserts that are passed on the way there.
use Rattle.std.proofs.Common.{◌≡◌, refl, sym, ap, subst, ◌∙◌, ℕ, zero, suc, ◌+◌, ◌≤◌, ◌<◌, ◌⊎◌, inl, inr, List, [], ◌∷◌, ◌++◌, map, length, take, drop, Bool, true, false, Option, Some, None, arith}
use Rattle.std.specs.Prelude.{◌==◌, if◌then◌else◌, slice_get, unwrap_or, option_map}
use Rattle.std.specs.List.{AllByRecursion, sum_by}
use Rattle.std.specs.Option.{option_map_or}
use Rattle.std.proofs.lemmas.List.{append-nil, take-append-drop}
use Rattle.std.proofs.lemmas.List.Sums.{sum_by-cons}
use Rattle.pg_list.specs.Places.{place, picked_items, items_around}
use Rattle.pg_list.specs.Shapes.{HaveInserts, IsBlock, IsChoice, inserts}
use Rattle.pg_list.specs.declared.blocks.Block.{Block}
use Rattle.pg_list.specs.declared.blocks.Block.TheVariants.{One, Choice}
use Rattle.pg_list.specs.declared.galley.Place.{Place}
use Rattle.pg_list.specs.declared.item.Item.{Item}
use Rattle.pg_list.specs.declared.variants.Variant.{Variant}
use Rattle.pg_list.specs.Flat.{FlatItem, blocks_at, end_of, flat_items_at, flat_items_from, is_same_place, items_before, later_flat_items, picked_variants, steps_to, variant_flat_items}
use Rattle.pg_rules.specs.IsState.{IsPlace}
use Rattle.law_places.proofs.Alike.{item_of}
use Rattle.law_places.proofs.Measures.{block_inserts, count_before, inserted, inserted_append, inserted_inserts}
use Rattle.law_places.proofs.Places.{around_block, around_is, begins, begins_with, drop_head, drop_later, pick_named}
use Rattle.law_places.proofs.Splits.{StandsAt, first_stands, next_stands, stands_at}
use Rattle.std.proofs.Math.Seq.{take-length}
use Rattle.pg_lemmas.proofs.Numbers.{suc_not}
use Rattle.pg_list.proofs.Places.{same_place}
use Rattle.pg_lemmas.proofs.Lists.{all_drop}
use Rattle.pg_lemmas.proofs.Bools.{if_false, if_true}

drop_none : {X : Type 0} (n : ℕ) (xs : List X) → drop n xs ≡ [] → take n xs ≡ xs
drop_none n xs e = sym (append-nil (take n xs)) ∙ (ap (λ ys. take n xs ++ ys) (sym e) ∙ take-append-drop n xs)

take_next : {X : Type 0} (n : ℕ) (xs ys : List X) (y : X) → drop n xs ≡ y ∷ ys →
    take (suc n) xs ≡ take n xs ++ y ∷ []
take_next zero [] ys y e = absurd cc
take_next zero (x ∷ xs) ys y e = let s : x ≡ y = cc in ap (λ z. z ∷ []) s
take_next (suc n) [] ys y e = absurd cc
take_next (suc n) (x ∷ xs) ys y e = ap (λ zs. x ∷ zs) (take_next n xs ys y e)

sum_next : (f : Block → ℕ) (n : ℕ) (xs ys : List Block) (y : Block) → drop n xs ≡ y ∷ ys →
    sum_by f (take (n + 1) xs) ≡ sum_by f (take n xs) + f y
sum_next f zero [] ys y e = absurd cc
sum_next f zero (x ∷ xs) ys y e =
    let s : x ≡ y = cc in
    let a : sum_by f (x ∷ []) ≡ f x + sum_by f [] = sum_by-cons f x [] in
    let t : f x ≡ f y = ap f s in
    let z : sum_by f [] ≡ 0 = refl in
    omega arith
sum_next f (suc n) [] ys y e = absurd cc
sum_next f (suc n) (x ∷ xs) ys y e =
    let r : sum_by f (take (n + 1) xs) ≡ sum_by f (take n xs) + f y = sum_next f n xs ys y e in
    let q : suc n + 1 ≡ suc (n + 1) = omega arith in
    let a : sum_by f (x ∷ take (n + 1) xs) ≡ f x + sum_by f (take (n + 1) xs) =
    sum_by-cons f x (take (n + 1) xs) in
    let b : sum_by f (x ∷ take n xs) ≡ f x + sum_by f (take n xs) = sum_by-cons f x (take n xs) in
    ap (λ (k : ℕ). sum_by f (take k (x ∷ xs))) q ∙ (omega arith)

-- each variant has as many inserts of a class as the first
variant_same : (number : ℕ) (variants : List Variant) (v : ℕ) (w : Variant) → IsChoice variants →
    slice_get variants v ≡ Some w →
    inserted number (picked_items (Choice variants) v) ≡ block_inserts number (Choice variants)
variant_same number [] v w c e = absurd cc
variant_same number (first ∷ variants) zero w c e = refl
variant_same number (first ∷ variants) (suc n) w c e = by variants n c.equal_inserts e
  where
    same : (a b : Variant) → Some a ≡ Some b → a ≡ b
    same a b e = cc

    by : (xs : List Variant) (n : ℕ) → HaveInserts (inserts first.items) xs → slice_get xs n ≡ Some w →
        inserted number (unwrap_or (option_map (λ (x : Variant). x.items) (slice_get xs n)) [])
        ≡ inserted number first.items
    by [] n a e = absurd cc
    by (x ∷ xs) zero a e = sym (inserted_inserts number x.items)
        ∙ (ap (inserted number) a.0 ∙ inserted_inserts number first.items)
    by (x ∷ xs) (suc n) a e = by xs n a.1 e

module _ (number : ℕ) (all : List Block) (each : AllByRecursion IsBlock all) where
  abbrev before : Place → ℕ
  before at = inserted number (items_before all at)

  abbrev so_far : ℕ → ℕ
  so_far n = sum_by (block_inserts number) (take n all)

  -- before each item stand as many as were counted, and in the end all are
  abbrev pub Counted : ℕ → List FlatItem → Type 0
  Counted c [] = c ≡ sum_by (block_inserts number) all
  Counted c (x ∷ xs) = (before x.place ≡ c) × Counted (c + inserted number (x.item ∷ [])) xs

  at_front : (n v : ℕ) → before (place n v 0) ≡ so_far n
  at_front n v = let e : before (place n v 0) ≡ so_far n + 0 = count_before number all (place n v 0) in
      omega (arith, e)

  at_inner : (b : Block) (n v i : ℕ) → slice_get all n ≡ Some b → 1 ≤ i →
      before (place n v i) ≡ so_far n + inserted number (take i (picked_items b v))
  at_inner b n v i e h =
      count_before number all (place n v i)
      ∙ (ap (λ (k : ℕ). so_far n + k)
      (if_false (i == 0) 0 (inserted number (take i (items_around all (place n v i)))) (not_zero i h))
      ∙ ap (λ (xs : List Item). so_far n + inserted number (take i xs)) (around_is all b n v i e))
    where
      not_zero : (j : ℕ) → 1 ≤ j → (j == 0) ≡ false
      not_zero zero h = absurd (omega arith)
      not_zero (suc j) h = suc_not j

  later_counted : (b : Block) (n v i : ℕ) (items : List Item) (ys : List FlatItem) →
      slice_get all n ≡ Some b → 1 ≤ i → drop i (picked_items b v) ≡ items →
      Counted (so_far n + inserted number (picked_items b v)) ys →
      Counted (so_far n + inserted number (take i (picked_items b v))) (later_flat_items n v i items ++ ys)
  later_counted b n v i [] ys e h cut c =
      subst (λ (xs : List Item). Counted (so_far n + inserted number xs) ys)
      (sym (drop_none i (picked_items b v) cut)) c
  later_counted b n v i (item ∷ items) ys e h cut c =
      let r = drop_head i (picked_items b v) items item cut in
      let plus : i + 1 ≡ suc i = omega arith in
      let next : take (i + 1) (picked_items b v) ≡ take i (picked_items b v) ++ item ∷ [] =
      ap (λ (k : ℕ). take k (picked_items b v)) plus ∙ take_next i (picked_items b v) items item cut in
      let count : inserted number (take (i + 1) (picked_items b v))
      ≡ inserted number (take i (picked_items b v)) + inserted number (item ∷ []) =
      ap (inserted number) next ∙ inserted_append number (take i (picked_items b v)) (item ∷ []) in
      let sums : so_far n + inserted number (take (i + 1) (picked_items b v)) ≡ so_far n
      + inserted number (take i (picked_items b v)) + inserted number (item ∷ []) = omega arith in (
        at_inner b n v i e h,
        subst (λ (k : ℕ). Counted k (later_flat_items n v (i + 1) items ++ ys)) sums
            (later_counted b n v (i + 1) items ys e (omega arith) r.1 c),
      )

  variant_counted : (variants : List Variant) (n v : ℕ) (ys : List FlatItem) →
      slice_get all n ≡ Some (Choice variants) → 0 < length (picked_items (Choice variants) v) →
      Counted (so_far n + inserted number (picked_items (Choice variants) v)) ys →
      Counted (so_far n) (variant_flat_items n v (picked_items (Choice variants) v) ++ ys)
  variant_counted variants n v ys e h c = by (picked_items (Choice variants) v) refl h
    where
      by : (items : List Item) → items ≡ picked_items (Choice variants) v → 0 < length items →
          Counted (so_far n) (variant_flat_items n v items ++ ys)
      by [] s h = absurd (omega arith)
      by (item ∷ items) s h =
          let first : inserted number (take 1 (picked_items (Choice variants) v))
          ≡ inserted number (item ∷ []) = ap (λ (xs : List Item). inserted number (take 1 xs)) (sym s) in (
            at_front n 0,
            subst (λ (k : ℕ). Counted (so_far n + k) (later_flat_items n v 1 items ++ ys)) first
                (later_counted (Choice variants) n v 1 items ys e (omega arith)
                (ap (λ (xs : List Item). drop 1 xs) (sym s)) c),
          )

  from_counted : (n : ℕ) (blocks : List Block) (p : List ℕ) → drop n all ≡ blocks →
      AllByRecursion IsBlock blocks → length (picked_variants blocks p) ≡ length p →
      Counted (so_far n) (flat_items_from n blocks p)
  from_counted n [] p e a h = ap (sum_by (block_inserts number)) (drop_none n all e)
  from_counted n (One item ∷ blocks) p e a h =
      let r = drop_head n all blocks (One item) e in
      let s : so_far (n + 1) ≡ so_far n + inserted number (item ∷ []) =
      sum_next (block_inserts number) n all blocks (One item) e in (
        at_front n 0,
        subst (λ (k : ℕ). Counted k (flat_items_from (n + 1) blocks p)) s
            (from_counted (n + 1) blocks p r.1 a.1 h),
      )
  from_counted n (Choice variants ∷ blocks) [] e a h =
      let r = drop_head n all blocks (Choice variants) e in
      let s : so_far (n + 1) ≡ so_far n + inserted number (picked_items (Choice variants) 0) =
      sum_next (block_inserts number) n all blocks (Choice variants) e in
      variant_counted variants n 0 (flat_items_from (n + 1) blocks []) r.0 (begins variants a.0)
      (subst (λ (k : ℕ). Counted k (flat_items_from (n + 1) blocks [])) s
      (from_counted (n + 1) blocks [] r.1 a.1 (none blocks)))
    where
      none : (blocks : List Block) → length (picked_variants blocks []) ≡ 0
      none [] = refl
      none (One item ∷ blocks) = none blocks
      none (Choice variants ∷ blocks) = refl
  from_counted n (Choice variants ∷ blocks) (y ∷ p) e a h =
      let r = drop_head n all blocks (Choice variants) e in
      let v = pick_named variants blocks y p h in
      let l : suc (length (picked_variants blocks p)) ≡ suc (length p) =
      subst (λ (o : Option Variant). length
      (option_map_or (λ (variant : Variant). variant ∷ []) o [] ++ picked_variants blocks p)
      ≡ suc (length p)) v.1 h in
      let s : so_far (n + 1) ≡ so_far n + inserted number (picked_items (Choice variants) y) =
      sum_next (block_inserts number) n all blocks (Choice variants) e ∙ ap (λ (k : ℕ). so_far n + k)
      (sym (variant_same number variants y v.0 a.0 v.1)) in
      variant_counted variants n y (flat_items_from (n + 1) blocks p) r.0
      (begins_with variants y v.0 a.0.shape.each v.1)
      (subst (λ (k : ℕ). Counted k (flat_items_from (n + 1) blocks p)) s
      (from_counted (n + 1) blocks p r.1 a.1 (omega arith)))

  -- the rest of a variant, of which every one has as many
  rest_counted : (from : Place) (j : ℕ) (p : List ℕ) → suc j ≡ from.index →
      suc j < length (items_around all from) →
      length (picked_variants (drop (from.block + 1) all) p) ≡ length p → (b : Block) →
      slice_get all from.block ≡ Some b →
      inserted number (picked_items b from.variant) ≡ block_inserts number b →
      drop from.block all ≡ b ∷ drop (from.block + 1) all →
      Counted (before from) (drop (suc j) (variant_flat_items from.block from.variant (items_around all from))
      ++ flat_items_from (from.block + 1) (drop (from.block + 1) all) p)
  rest_counted from j p i l h b e same cut = by (items_around all from) refl
    where
      around : items_around all from ≡ picked_items b from.variant
      around = around_is all b from.block from.variant from.index e

      start : before from ≡ so_far from.block + inserted number (take (1 + j) (picked_items b from.variant))
      start = let q : from.index ≡ 1 + j = omega (arith, i) in
          at_inner b from.block from.variant from.index e (omega (arith, i))
          ∙ ap (λ (k : ℕ). so_far from.block + inserted number (take k (picked_items b from.variant))) q

      behind : Counted (so_far from.block + inserted number (picked_items b from.variant))
          (flat_items_from (from.block + 1) (drop (from.block + 1) all) p)
      behind =
          let s : so_far (from.block + 1) ≡ so_far from.block
          + inserted number (picked_items b from.variant) =
          sum_next (block_inserts number) from.block all (drop (from.block + 1) all) b cut
          ∙ ap (λ (k : ℕ). so_far from.block + k) (sym same) in
          subst (λ (k : ℕ). Counted k (flat_items_from (from.block + 1) (drop (from.block + 1) all) p)) s
          (from_counted (from.block + 1) (drop (from.block + 1) all) p refl
          (all_drop IsBlock (from.block + 1) all each) h)

      by : (items : List Item) → items ≡ items_around all from →
          Counted (before from) (drop (suc j) (variant_flat_items from.block from.variant items)
          ++ flat_items_from (from.block + 1) (drop (from.block + 1) all) p)
      by [] s = let m : 0 ≡ length (items_around all from) = ap length s in absurd (omega (arith, l, m))
      by (item ∷ items) s =
          let first : drop j (later_flat_items from.block from.variant 1 items) ≡ later_flat_items from.block
          from.variant (1 + j) (drop j items) = drop_later all from.block from.variant 1 j items in
          let plus : 1 + j ≡ suc j = omega arith in
          let rest : drop (1 + j) (picked_items b from.variant) ≡ drop j items =
          ap (λ (k : ℕ). drop k (picked_items b from.variant)) plus
          ∙ ap (λ (xs : List Item). drop (suc j) xs) (sym (s ∙ around)) in
          subst (λ (xs : List FlatItem). Counted (before from)
          (xs ++ flat_items_from (from.block + 1) (drop (from.block + 1) all) p)) (sym first)
          (subst (λ (k : ℕ). Counted k (later_flat_items from.block from.variant (1 + j)
          (drop j items) ++ flat_items_from (from.block + 1) (drop (from.block + 1) all) p)) (sym start)
          (later_counted b from.block from.variant (1 + j) (drop j items)
          (flat_items_from (from.block + 1) (drop (from.block + 1) all) p) e (omega arith) rest behind))

  counted_at : (c : ℕ) (xs : List FlatItem) (k : ℕ) (to : Place) → Counted c xs → StandsAt all xs k to →
      before to ≡ c + inserted number (map item_of (take k xs))
  counted_at c [] k to h (inl (x, (at, is))) = absurd cc
  counted_at c [] k to h (inr (e, t)) =
      let z : k ≡ 0 = e in
      let a : before to ≡ before (end_of all) = ap before t in
      let b : before (end_of all) ≡ so_far (length all) = at_front (length all) 0 in
      let d : so_far (length all) ≡ sum_by (block_inserts number) all =
      ap (sum_by (block_inserts number)) (take-length all) in
      let f : inserted number (map item_of (take k [])) ≡ 0 =
      ap (λ (j : ℕ). inserted number (map item_of (take j []))) z in
      let g : c ≡ sum_by (block_inserts number) all = h in
      omega arith
  counted_at c (x ∷ xs) zero to h s = let e : before x.place ≡ before to =
      ap before (first_stands all x xs to s) in let f : before x.place ≡ c = h.0 in
      let z : inserted number [] ≡ 0 = refl in omega arith
  counted_at c (x ∷ xs) (suc k) to h s =
      let r : before to ≡ c + inserted number (x.item ∷ []) + inserted number (map item_of (take k xs)) =
      counted_at (c + inserted number (x.item ∷ [])) xs k to h.1 (next_stands all x xs k to s) in
      let a : inserted number ((x.item ∷ []) ++ map item_of (take k xs)) ≡ inserted number (x.item ∷ [])
      + inserted number (map item_of (take k xs)) =
      inserted_append number (x.item ∷ []) (map item_of (take k xs)) in
      omega arith

  -- a variant with items is there
  variant_there : (variants : List Variant) (v : ℕ) → 0 < length (picked_items (Choice variants) v) →
      (w : Variant) × (slice_get variants v ≡ Some w)
  variant_there variants v h = by (slice_get variants v) refl
    where
      by : (o : Option Variant) → o ≡ slice_get variants v → (w : Variant) × (slice_get variants v ≡ Some w)
      by None e = let l : 0 < 0 = subst
          (λ (o : Option Variant). 0 < length (unwrap_or (option_map (λ (x : Variant). x.items) o) []))
          (sym e) h in absurd (omega arith)
      by (Some w) e = (w, sym e)

  -- inside a block with more items than one
  block_same : (b : Block) (v : ℕ) → IsBlock b → 1 < length (picked_items b v) →
      inserted number (picked_items b v) ≡ block_inserts number b
  block_same (One item) zero h l = refl
  block_same (One item) (suc v) h l = few (suc v == 0) l
    where
      few : (t : Bool) → 1 < length (if t then item ∷ [] else []) →
          inserted number (if t then item ∷ [] else []) ≡ inserted number (item ∷ [])
      few true l = refl
      few false l = absurd (omega arith)
  block_same (Choice variants) v h l = let w = variant_there variants v (omega arith) in
      variant_same number variants v w.0 h w.1

  block_cut : (n : ℕ) (xs : List Block) (b : Block) → slice_get xs n ≡ Some b → drop n xs ≡ b ∷ drop (n + 1) xs
  block_cut n [] b e = absurd cc
  block_cut zero (x ∷ xs) b e = let s : x ≡ b = some x b e in ap (λ (z : Block). z ∷ xs) s
    where
      some : (x y : Block) → Some x ≡ Some y → x ≡ y
      some x y e = cc
  block_cut (suc n) (x ∷ xs) b e = let q : suc n + 1 ≡ suc (n + 1) = omega arith in
      block_cut n xs b e ∙ ap (λ (k : ℕ). b ∷ drop k (x ∷ xs)) (sym q)

  block_is : (blocks : List Block) (n : ℕ) (b : Block) → AllByRecursion IsBlock blocks →
      slice_get blocks n ≡ Some b → IsBlock b
  block_is [] n b a e = absurd cc
  block_is (x ∷ xs) zero b a e = let s : x ≡ b = some x b e in subst IsBlock s a.0
    where
      some : (x y : Block) → Some x ≡ Some y → x ≡ y
      some x y e = cc
  block_is (x ∷ xs) (suc n) b a e = block_is xs n b a.1 e

  at_counted : (from : Place) (p : List ℕ) → IsPlace all from →
      length (picked_variants (blocks_at all from) p) ≡ length p →
      Counted (before from) (flat_items_at all from p)
  at_counted from p place h = by from.index refl h
    where
      by : (i : ℕ) → i ≡ from.index → length (picked_variants (blocks_at all from) p) ≡ length p →
          Counted (before from) (flat_items_at all from p)
      by zero i h =
          let t : (from.index == 0) ≡ true = ap (λ (z : ℕ). z == 0) (sym i) in
          let c : before from ≡ so_far from.block + 0 =
          count_before number all from ∙ ap (λ (k : ℕ). so_far from.block + k)
          (if_true (from.index == 0) 0 (inserted number (take from.index (items_around all from))) t) in
          let d : so_far from.block ≡ before from = omega (arith, c) in
          let bs : blocks_at all from ≡ drop from.block all =
          ap (λ (n : ℕ). drop n all) (if_true (from.index == 0) from.block (from.block + 1) t) in
          subst (Counted (before from)) (sym
          (if_true (from.index == 0) (flat_items_from from.block (drop from.block all) p)
          (drop from.index (variant_flat_items from.block from.variant (items_around all from))
          ++ flat_items_from (from.block + 1) (drop (from.block + 1) all) p) t))
          (subst (λ (k : ℕ). Counted k (flat_items_from from.block (drop from.block all) p)) d
          (from_counted from.block (drop from.block all) p refl (all_drop IsBlock from.block all each)
          (subst (λ (b : List Block). length (picked_variants b p) ≡ length p) bs h)))
      by (suc j) i h =
          let f : (from.index == 0) ≡ false = subst (λ (z : ℕ). (z == 0) ≡ false) i (suc_not j) in
          let bs : blocks_at all from ≡ drop (from.block + 1) all =
          ap (λ (n : ℕ). drop n all) (if_false (from.index == 0) from.block (from.block + 1) f) in
          let l : suc j < length (items_around all from) = within place.within in
          let b = around_block all from (omega (arith, l)) in
          let around : items_around all from ≡ picked_items b.0 from.variant =
          around_is all b.0 from.block from.variant from.index b.1 in
          let more : 1 < length (picked_items b.0 from.variant) =
          subst (λ (xs : List Item). 1 < length xs) around (omega (arith, l)) in
          subst (Counted (before from)) (sym
          (if_false (from.index == 0) (flat_items_from from.block (drop from.block all) p)
          (drop from.index (variant_flat_items from.block from.variant (items_around all from))
          ++ flat_items_from (from.block + 1) (drop (from.block + 1) all) p) f))
          (subst (λ (k : ℕ). Counted (before from)
          (drop k (variant_flat_items from.block from.variant (items_around all from)) ++ flat_items_from
          (from.block + 1) (drop (from.block + 1) all) p)) i
          (rest_counted from j p i l (subst (λ (b : List Block). length (picked_variants b p) ≡ length p) bs
          h) b.0 b.1 (block_same b.0 from.variant (block_is all from.block b.0 each b.1) more)
          (block_cut from.block all b.0 b.1)))
        where
          within : (is_same_place from (end_of all) ≡ true) ⊎ (from.index < length (items_around all from)) →
              suc j < length (items_around all from)
          within (inl t) = let z : from.index ≡ 0 =
              ap (λ (at : Place). at.index) (same_place from (end_of all) t) in absurd (omega (arith, i, z))
          within (inr k) = omega (arith, i, k)

  -- the callouts before a column's end are those before its start and those of its own items
  pub callouts_passed : (from to : Place) (p : List ℕ) (k : ℕ) → IsPlace all from →
      length (picked_variants (blocks_at all from) p) ≡ length p →
      steps_to all (flat_items_at all from p) to ≡ Some k →
      inserted number (items_before all to) ≡ inserted number (items_before all from)
      + inserted number (map item_of (take k (flat_items_at all from p)))
  callouts_passed from to p k place h e =
      counted_at (before from) (flat_items_at all from p) k to (at_counted from p place h)
      (stands_at all (flat_items_at all from p) to k e)
