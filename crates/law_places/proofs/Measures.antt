-- What grows from a place to one behind it: the items passed, and the callouts.
use Rattle.std.proofs.Common.{◌≡◌, refl, sym, ap, subst, ◌∙◌, ℕ, zero, suc, ◌+◌, ◌≤◌, ◌<◌, ◌⊎◌, inl, inr, List, [], ◌∷◌, ◌++◌, map, length, take, drop, length-append, Bool, true, false, Option, Some, None, arith}
use Rattle.std.specs.Prelude.{ℤ, ◌==◌, if◌then◌else◌, slice_get, unwrap_or, option_map}
use Rattle.std.specs.List.{sum_by, AllByRecursion}
use Rattle.std.proofs.lemmas.List.Sums.{sum_by-cons}
use Rattle.pg_list.specs.declared.item.Item.{Item}
use Rattle.pg_list.specs.declared.variants.Variant.{Variant}
use Rattle.pg_list.specs.declared.blocks.Block.{Block}
use Rattle.pg_list.specs.declared.blocks.Block.TheVariants.{One, Choice}
use Rattle.pg_list.specs.declared.galley.Place.{Place}
use Rattle.pg_list.specs.Counts.{block_size, item_count}
use Rattle.pg_list.specs.Places.{place, picked_items, items_around}
use Rattle.pg_list.specs.Shapes.{IsBlock, HaveInserts, inserts}
use Rattle.pg_list.specs.Flat.{FlatItem, is_same_place, end_of, items_before, flat, flat_items_from}
use Rattle.pg_rules.specs.Floats.{sizes_of, insert_size}
use Rattle.pg_rules.specs.IsState.{IsPlace}
use Rattle.law_places.specs.Past.{IsPast, LaterIn, Past, far}
use Rattle.law_places.proofs.Places.{around_block, around_is}
use Rattle.std.proofs.lemmas.Option.{slice_get_within}
use Rattle.pg_list.specs.Flat.{later_flat_items, variant_flat_items}
use Rattle.std.proofs.lemmas.List.{take-append-drop, map-append}
use Rattle.std.proofs.lemmas.List.Elements.{filter_map-append}
use Rattle.std.specs.List.{cons_option}
use Rattle.pg_list.specs.declared.item.Item.TheVariants.{BoxItem, Rule, Glue, Kern, Penalty, Insert, Carry}
use Rattle.std.proofs.lemmas.Bool.Decides.{nat_tests}
use Rattle.pg_lemmas.proofs.Bools.{by_bool, if_false, if_true}
use Rattle.pg_list.proofs.Sizes.{picked_le}
use Rattle.pg_list.proofs.Places.{same_place}

pub count_more : (blocks : List Block) (n m : ℕ) (b : Block) → n < m → slice_get blocks n ≡ Some b →
    item_count (take n blocks) + block_size b ≤ item_count (take m blocks)
count_more [] n m b h e = absurd cc
count_more (x ∷ xs) n zero b h e = absurd (omega arith)
count_more (x ∷ xs) zero (suc m) b h e =
    let q : x ≡ b = some_same x b e in
    let s : item_count (x ∷ take m xs) ≡ block_size x + item_count (take m xs) =
    sum_by-cons block_size x (take m xs) in
    let t : block_size x ≡ block_size b = ap block_size q in
    let z : item_count [] ≡ 0 = refl in
    omega arith
  where
    some_same : (a b : Block) → Some a ≡ Some b → a ≡ b
    some_same a b e = cc
count_more (x ∷ xs) (suc n) (suc m) b h e =
    let r : item_count (take n xs) + block_size b ≤ item_count (take m xs) =
    count_more xs n m b (omega arith) e in
    let s : item_count (x ∷ take n xs) ≡ block_size x + item_count (take n xs) =
    sum_by-cons block_size x (take n xs) in
    let t : item_count (x ∷ take m xs) ≡ block_size x + item_count (take m xs) =
    sum_by-cons block_size x (take m xs) in
    omega arith

module _ (all : List Block) where
  -- a place with an item behind it lies in a block
  pub inside : (from to : Place) → IsPlace all from → IsPast all from to → from.block < length all →
      from.index < length (items_around all from)
  inside from to p q h = by p.within
    where
      by : (is_same_place from (end_of all) ≡ true) ⊎ (from.index < length (items_around all from)) →
          from.index < length (items_around all from)
      by (inl t) = let e : from.block ≡ length all =
          ap (λ (z : Place). z.block) (same_place from (end_of all) t) in absurd (omega arith)
      by (inr k) = k

  -- the items passed only grow
  pub far_rises : (from to : Place) → IsPlace all from → IsPast all from to → from.block < length all →
      far all from < far all to
  far_rises from to p q h =
      let k : from.index < length (items_around all from) = inside from to p q h in
      let b = around_block all from (omega arith) in
      by b.0 b.1 k q.past
    where
      by : (b : Block) → slice_get all from.block ≡ Some b → from.index < length (items_around all from) →
          Past from to → far all from < far all to
      by b e k (inl l) =
          let c : item_count (take from.block all) + block_size b ≤ item_count (take to.block all) =
          count_more all from.block to.block b l e in
          let s : length (picked_items b from.variant) ≤ block_size b = picked_le b from.variant in
          let a : length (items_around all from) ≡ length (picked_items b from.variant) =
          ap length (around_is all b from.block from.variant from.index e) in
          omega arith
      by b e k (inr l) = let c : item_count (take from.block all) ≡ item_count (take to.block all) =
          ap (λ (n : ℕ). item_count (take n all)) l.block in let m : from.index < to.index = l.index in
          omega arith

  pub place_within : (at : Place) → IsPlace all at → at.block ≤ length all
  place_within at p = by p.within
    where
      by : (is_same_place at (end_of all) ≡ true) ⊎ (at.index < length (items_around all at)) →
          at.block ≤ length all
      by (inl t) = let e : at.block ≡ length all =
          ap (λ (z : Place). z.block) (same_place at (end_of all) t) in omega arith
      by (inr k) = let b = around_block all at (omega arith) in let l : at.block < length all =
          slice_get_within all at.block b.0 b.1 in omega arith

  -- a place with one behind it is not the end
  pub past_within : (from to : Place) → IsPast all from to → from.block < length all
  past_within from to q = by q.past
    where
      by : Past from to → from.block < length all
      by (inl l) = let h : to.block ≤ length all = place_within to q.place in omega arith
      by (inr r) = elim (q.place.within) [
        | inl t ↦ (let l : from.index < to.index = r.index in let e : to.index ≡ 0 =
            ap (λ (z : Place). z.index) (same_place to (end_of all) t) in absurd (omega arith))
        | inr k ↦ (let b = around_block all to (omega arith) in let l : to.block < length all =
            slice_get_within all to.block b.0 b.1 in let same : from.block ≡ to.block = r.block in
            omega arith)
      ]

-- ---- callouts

pub sum_more : (f : Block → ℕ) (blocks : List Block) (n m : ℕ) (b : Block) → n < m →
    slice_get blocks n ≡ Some b → sum_by f (take n blocks) + f b ≤ sum_by f (take m blocks)
sum_more f [] n m b h e = absurd cc
sum_more f (x ∷ xs) n zero b h e = absurd (omega arith)
sum_more f (x ∷ xs) zero (suc m) b h e =
    let q : x ≡ b = some_same x b e in
    let s : sum_by f (x ∷ take m xs) ≡ f x + sum_by f (take m xs) = sum_by-cons f x (take m xs) in
    let t : f x ≡ f b = ap f q in
    let z : sum_by f [] ≡ 0 = refl in
    omega arith
  where
    some_same : (a b : Block) → Some a ≡ Some b → a ≡ b
    some_same a b e = cc
sum_more f (x ∷ xs) (suc n) (suc m) b h e =
    let r : sum_by f (take n xs) + f b ≤ sum_by f (take m xs) = sum_more f xs n m b (omega arith) e in
    let s : sum_by f (x ∷ take n xs) ≡ f x + sum_by f (take n xs) = sum_by-cons f x (take n xs) in
    let t : sum_by f (x ∷ take m xs) ≡ f x + sum_by f (take m xs) = sum_by-cons f x (take m xs) in
    omega arith

module _ (number : ℕ) where
  abbrev pub inserted : List Item → ℕ
  inserted xs = length (sizes_of number xs)

  pub inserted_append : (xs ys : List Item) → inserted (xs ++ ys) ≡ inserted xs + inserted ys
  inserted_append xs ys = ap length (filter_map-append (insert_size number) xs ys)
      ∙ length-append (sizes_of number xs) (sizes_of number ys)

  inserted_take : (n : ℕ) (xs : List Item) → inserted (take n xs) ≤ inserted xs
  inserted_take n xs =
      let e : inserted (take n xs ++ drop n xs) ≡ inserted (take n xs) + inserted (drop n xs) =
      inserted_append (take n xs) (drop n xs) in
      let f : inserted (take n xs ++ drop n xs) ≡ inserted xs = ap inserted (take-append-drop n xs) in
      omega arith

  pub later_items : (n v i : ℕ) (items : List Item) →
      map (λ (flat_item : FlatItem). flat_item.item) (later_flat_items n v i items) ≡ items
  later_items n v i [] = refl
  later_items n v i (x ∷ xs) = ap (λ (ys : List Item). x ∷ ys) (later_items n v (i + 1) xs)

  pub variant_items : (n v : ℕ) (items : List Item) →
      map (λ (flat_item : FlatItem). flat_item.item) (variant_flat_items n v items) ≡ items
  variant_items n v [] = refl
  variant_items n v (x ∷ xs) = ap (λ (ys : List Item). x ∷ ys) (later_items n v 1 xs)

  abbrev pub block_inserts : Block → ℕ
  block_inserts b = inserted (picked_items b 0)

  pub inserted_flat : (n : ℕ) (blocks : List Block) →
      inserted (map (λ (flat_item : FlatItem). flat_item.item) (flat_items_from n blocks []))
      ≡ sum_by block_inserts blocks
  inserted_flat n [] = refl
  inserted_flat n (One item ∷ blocks) =
      let s : sum_by block_inserts (One item ∷ blocks) ≡ inserted (item ∷ []) + sum_by block_inserts blocks =
      sum_by-cons block_inserts (One item) blocks in
      let e : inserted ((item ∷ []) ++ map (λ (flat_item : FlatItem). flat_item.item)
      (flat_items_from (n + 1) blocks [])) ≡ inserted (item ∷ [])
      + inserted (map (λ (flat_item : FlatItem). flat_item.item) (flat_items_from (n + 1) blocks [])) =
      inserted_append (item ∷ []) (map (λ (flat_item : FlatItem). flat_item.item)
      (flat_items_from (n + 1) blocks [])) in
      let r : inserted (map (λ (flat_item : FlatItem). flat_item.item) (flat_items_from (n + 1) blocks []))
      ≡ sum_by block_inserts blocks = inserted_flat (n + 1) blocks in
      e ∙ (ap (λ (k : ℕ). inserted (item ∷ []) + k) r ∙ sym s)
  inserted_flat n (Choice variants ∷ blocks) =
      let s : sum_by block_inserts (Choice variants ∷ blocks) ≡ inserted (picked_items (Choice variants) 0)
      + sum_by block_inserts blocks = sum_by-cons block_inserts (Choice variants) blocks in
      let r : inserted (map (λ (flat_item : FlatItem). flat_item.item) (flat_items_from (n + 1) blocks []))
      ≡ sum_by block_inserts blocks = inserted_flat (n + 1) blocks in
      let m : map (λ (flat_item : FlatItem). flat_item.item)
      (variant_flat_items n 0 (picked_items (Choice variants) 0) ++ flat_items_from (n + 1) blocks [])
      ≡ picked_items (Choice variants) 0 ++ map (λ (flat_item : FlatItem). flat_item.item)
      (flat_items_from (n + 1) blocks []) =
      map-append (λ (flat_item : FlatItem). flat_item.item)
      (variant_flat_items n 0 (picked_items (Choice variants) 0)) (flat_items_from (n + 1) blocks [])
      ∙ ap (λ (xs : List Item). xs ++ map (λ (flat_item : FlatItem). flat_item.item)
      (flat_items_from (n + 1) blocks [])) (variant_items n 0 (picked_items (Choice variants) 0)) in
      ap inserted m ∙ (inserted_append (picked_items (Choice variants) 0)
      (map (λ (flat_item : FlatItem). flat_item.item) (flat_items_from (n + 1) blocks []))
      ∙ (ap (λ (k : ℕ). inserted (picked_items (Choice variants) 0) + k) r ∙ sym s))

  pub inserted_inserts : (xs : List Item) → inserted (inserts xs) ≡ inserted xs
  inserted_inserts [] = refl
  inserted_inserts (BoxItem h d body ∷ xs) = inserted_inserts xs
  inserted_inserts (Rule h d body ∷ xs) = inserted_inserts xs
  inserted_inserts (Glue a b c d body ∷ xs) = inserted_inserts xs
  inserted_inserts (Kern a body ∷ xs) = inserted_inserts xs
  inserted_inserts (Penalty a body ∷ xs) = inserted_inserts xs
  inserted_inserts (Carry body ∷ xs) = inserted_inserts xs
  inserted_inserts (Insert class size body ∷ xs) =
      step (insert_size number (Insert class size body)) (sizes_of number (inserts xs)) (sizes_of number xs)
      (inserted_inserts xs)
    where
      step : (o : Option ℤ) (ys zs : List ℤ) → length ys ≡ length zs →
          length (cons_option o ys) ≡ length (cons_option o zs)
      step None ys zs e = e
      step (Some z) ys zs e = ap suc e

  -- each variant has as many of a class as the first
  variant_few : (b : Block) (v : ℕ) → IsBlock b → inserted (picked_items b v) ≤ block_inserts b
  variant_few (One item) zero h = omega arith
  variant_few (One item) (suc v) h = by (suc v == 0)
    where
      by : (t : Bool) → inserted (if t then item ∷ [] else []) ≤ inserted (item ∷ [])
      by true = omega arith
      by false = omega arith
  variant_few (Choice []) v h = omega arith
  variant_few (Choice (first ∷ variants)) zero h = omega arith
  variant_few (Choice (first ∷ variants)) (suc n) h = by variants n h.equal_inserts
    where
      by : (variants : List Variant) (n : ℕ) → HaveInserts (inserts first.items) variants →
          inserted (unwrap_or (option_map (λ (x : Variant). x.items) (slice_get variants n)) [])
          ≤ inserted first.items
      by [] n a = omega arith
      by (x ∷ xs) zero a = let e : inserted x.items ≡ inserted first.items =
          sym (inserted_inserts x.items) ∙ (ap inserted a.0 ∙ inserted_inserts first.items) in omega arith
      by (x ∷ xs) (suc n) a = by xs n a.1

  pub count_before : (all : List Block) (at : Place) →
      inserted (items_before all at) ≡ sum_by block_inserts (take at.block all)
      + (if at.index == 0 then 0 else inserted (take at.index (items_around all at)))
  count_before all at = inserted_append (flat (take at.block all) [])
      (if at.index == 0 then [] else take at.index (items_around all at)) ∙ both_sides (at.index == 0)
      (take at.index (items_around all at)) (inserted_flat 0 (take at.block all))
    where
      both_sides : (b : Bool) (xs : List Item) →
          inserted (flat (take at.block all) []) ≡ sum_by block_inserts (take at.block all) →
          inserted (flat (take at.block all) []) + inserted (if b then [] else xs)
          ≡ sum_by block_inserts (take at.block all) + (if b then 0 else inserted xs)
      both_sides true xs e = ap (λ (k : ℕ). k + 0) e
      both_sides false xs e = ap (λ (k : ℕ). k + inserted xs) e

  pub part_few : (all : List Block) (at : Place) (b : Block) → IsBlock b → slice_get all at.block ≡ Some b →
      (if at.index == 0 then 0 else inserted (take at.index (items_around all at))) ≤ block_inserts b
  part_few all at b h e = by (at.index == 0)
    where
      by : (t : Bool) → (if t then 0 else inserted (take at.index (items_around all at))) ≤ block_inserts b
      by true = omega arith
      by false =
          let k : inserted (take at.index (items_around all at)) ≤ inserted (items_around all at) =
          inserted_take at.index (items_around all at) in
          let m : inserted (items_around all at) ≡ inserted (picked_items b at.variant) =
          ap inserted (around_is all b at.block at.variant at.index e) in
          let v : inserted (picked_items b at.variant) ≤ block_inserts b = variant_few b at.variant h in
          omega arith

  pub block_at : (blocks : List Block) (n : ℕ) (b : Block) → AllByRecursion IsBlock blocks →
      slice_get blocks n ≡ Some b → IsBlock b
  block_at [] n b a e = absurd cc
  block_at (x ∷ xs) zero b a e = let q : x ≡ b = some_same x b e in subst IsBlock q a.0
    where
      some_same : (a b : Block) → Some a ≡ Some b → a ≡ b
      some_same a b e = cc
  block_at (x ∷ xs) (suc n) b a e = block_at xs n b a.1 e

  around_same : (all : List Block) (b c v doc i j : ℕ) → b ≡ c → v ≡ doc →
      items_around all (place b v i) ≡ items_around all (place c doc j)
  around_same all b c v doc i j p q =
      ap (λ (k : ℕ). items_around all (place k v i)) p ∙ ap (λ (k : ℕ). items_around all (place c k i)) q

  take_take : {X : Type 0} (i j : ℕ) (xs : List X) → i ≤ j → take i (take j xs) ≡ take i xs
  take_take zero j xs h = refl
  take_take (suc i) zero xs h = absurd (omega arith)
  take_take (suc i) (suc j) [] h = refl
  take_take (suc i) (suc j) (x ∷ xs) h = ap (λ ys. x ∷ ys) (take_take i j xs (omega arith))

  take_less : (i j : ℕ) (xs : List Item) → i ≤ j → inserted (take i xs) ≤ inserted (take j xs)
  take_less i j xs h = subst (λ (ys : List Item). inserted ys ≤ inserted (take j xs)) (take_take i j xs h)
      (inserted_take i (take j xs))

  not_zero : (n : ℕ) → 0 < n → (n == 0) ≡ false
  not_zero n h = grind (arith, nat_tests)

  some : (n : ℕ) → (n == 0) ≡ false → 0 < n
  some n h = grind (arith, nat_tests)

  -- callouts only grow
  pub called_grows : (all : List Block) (from to : Place) → AllByRecursion IsBlock all → IsPlace all from →
      IsPast all from to → inserted (items_before all from) ≤ inserted (items_before all to)
  called_grows all from to a p q = by q.past
    where
      inner : from.index < length (items_around all from)
      inner = inside all from to p q (past_within all from to q)

      parts : LaterIn from to → (if from.index == 0 then 0 else inserted
          (take from.index (items_around all from)))
          ≤ (if to.index == 0 then 0 else inserted (take to.index (items_around all to)))
      parts l = by_bool (from.index == 0)
          (λ t. let z : (if from.index == 0 then 0 else inserted (take from.index (items_around all from)))
          ≡ 0 = if_true (from.index == 0) 0 (inserted (take from.index (items_around all from))) t in
          omega arith)
          (λ f.
          let u : (if from.index == 0 then 0 else inserted (take from.index (items_around all from)))
          ≡ inserted (take from.index (items_around all from)) =
          if_false (from.index == 0) 0 (inserted (take from.index (items_around all from))) f in
          let h : from.index < to.index = l.index in
          let v : (if to.index == 0 then 0 else inserted (take to.index (items_around all to)))
          ≡ inserted (take to.index (items_around all to)) =
          if_false (to.index == 0) 0 (inserted (take to.index (items_around all to)))
          (not_zero to.index (omega arith)) in
          let same : items_around all from ≡ items_around all to =
          around_same all from.block to.block from.variant to.variant from.index to.index l.block
          (l.variant (some from.index f)) in
          let m : inserted (take from.index (items_around all from))
          ≡ inserted (take from.index (items_around all to)) =
          ap (λ (xs : List Item). inserted (take from.index xs)) same in
          let n : inserted (take from.index (items_around all to))
          ≤ inserted (take to.index (items_around all to)) =
          take_less from.index to.index (items_around all to) (omega arith) in
          omega arith)

      by : Past from to → inserted (items_before all from) ≤ inserted (items_before all to)
      by (inl l) =
          let b = around_block all from (omega (arith, inner)) in
          let f : inserted (items_before all from) ≡ sum_by block_inserts (take from.block all)
          + (if from.index == 0 then 0 else inserted (take from.index (items_around all from))) =
          count_before all from in
          let t : inserted (items_before all to) ≡ sum_by block_inserts (take to.block all)
          + (if to.index == 0 then 0 else inserted (take to.index (items_around all to))) =
          count_before all to in
          let s : sum_by block_inserts (take from.block all) + block_inserts b.0
          ≤ sum_by block_inserts (take to.block all) =
          sum_more block_inserts all from.block to.block b.0 l b.1 in
          let k : (if from.index == 0 then 0 else inserted (take from.index (items_around all from)))
          ≤ block_inserts b.0 = part_few all from b.0 (block_at all from.block b.0 a b.1) b.1 in
          omega arith
      by (inr l) =
          let f : inserted (items_before all from) ≡ sum_by block_inserts (take from.block all)
          + (if from.index == 0 then 0 else inserted (take from.index (items_around all from))) =
          count_before all from in
          let t : inserted (items_before all to) ≡ sum_by block_inserts (take to.block all)
          + (if to.index == 0 then 0 else inserted (take to.index (items_around all to))) =
          count_before all to in
          let s : sum_by block_inserts (take from.block all) ≡ sum_by block_inserts (take to.block all) =
          ap (λ (n : ℕ). sum_by block_inserts (take n all)) l.block in
          let k : (if from.index == 0 then 0 else inserted (take from.index (items_around all from)))
          ≤ (if to.index == 0 then 0 else inserted (take to.index (items_around all to))) = parts l in
          omega arith
