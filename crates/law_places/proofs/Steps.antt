-- With each item passed on the way one more item lies before.
use Rattle.std.proofs.Common.{◌≡◌, refl, sym, ap, subst, ◌∙◌, ℕ, zero, suc, ◌+◌, ◌-◌, ◌≤◌, ◌<◌, ◌⊎◌, inl, inr, List, [], ◌∷◌, ◌++◌, length, take, drop, true, false, Some, arith, length-drop}
use Rattle.std.specs.Prelude.{◌==◌, slice_get, min}
use Rattle.std.specs.List.{position}
use Rattle.std.proofs.lemmas.List.{length-take}
use Rattle.std.proofs.lemmas.List.Sums.{sum_by-take-le, count_by-le-length}
use Rattle.pg_list.specs.Counts.{block_size, item_count}
use Rattle.pg_list.specs.Places.{picked_items, items_around}
use Rattle.pg_list.specs.declared.blocks.Block.{Block}
use Rattle.pg_list.specs.declared.blocks.Block.TheVariants.{One, Choice}
use Rattle.pg_list.specs.declared.galley.Place.{Place}
use Rattle.pg_list.specs.declared.item.Item.{Item}
use Rattle.pg_list.specs.Flat.{FlatItem, later_flat_items, variant_flat_items, flat_items_from, flat_items_at, steps_to, is_same_place, end_of, fronts}
use Rattle.pg_rules.specs.IsState.{IsPlace}
use Rattle.law_places.specs.Past.{far}
use Rattle.law_places.proofs.Measures.{count_more}
use Rattle.law_places.proofs.Places.{Found, around_block, around_is, drop_head, drop_later, found}
use Rattle.pg_lemmas.proofs.Bools.{by_bool, if_false, if_true}
use Rattle.std.proofs.Math.Seq.{take-length}
use Rattle.pg_lemmas.proofs.Numbers.{suc_not}
use Rattle.pg_list.proofs.Sizes.{picked_le}
use Rattle.pg_list.proofs.Places.{same_place}

pub fronts_few : (xs : List FlatItem) (n : ℕ) → fronts xs n ≤ n
fronts_few xs n =
    let a : fronts xs n ≤ length (take n xs) =
    count_by-le-length (λ (flat_item : FlatItem). flat_item.is_front) (take n xs) in
    let b : length (take n xs) ≡ min n (length xs) = length-take n xs in
    omega (arith, a, b)

module _ (all : List Block) where
  -- each item stands farther than those before it, and the first at least so far
  abbrev pub Climbs : ℕ → List FlatItem → Type 0
  Climbs f [] = f ≤ item_count all
  Climbs f (x ∷ xs) = (f ≤ far all x.place) × Climbs (far all x.place + 1) xs

  climbs_less : (f g : ℕ) (xs : List FlatItem) → f ≤ g → Climbs g xs → Climbs f xs
  climbs_less f g [] h c = let k : g ≤ item_count all = c in omega arith
  climbs_less f g (x ∷ xs) h c = let k : g ≤ far all x.place = c.0 in (omega arith, c.1)

  later_climb : (n v i : ℕ) (items : List Item) (ys : List FlatItem) (f : ℕ) →
      f ≤ item_count (take n all) + i → Climbs (item_count (take n all) + i + length items) ys →
      Climbs f (later_flat_items n v i items ++ ys)
  later_climb n v i [] ys f h c = climbs_less f (item_count (take n all) + i + 0) ys (omega arith) c
  later_climb n v i (item ∷ items) ys f h c =
      let e : item_count (take n all) + i + suc (length items) ≡ item_count (take n all) + (i + 1)
      + length items = omega arith in (
        h,
        later_climb n v (i + 1) items ys (item_count (take n all) + i + 1) (omega arith)
            (subst (λ (z : ℕ). Climbs z ys) e c),
      )

  variant_climb : (n v : ℕ) (items : List Item) (ys : List FlatItem) →
      item_count (take n all) + length items ≤ item_count (take (n + 1) all) →
      Climbs (item_count (take (n + 1) all)) ys →
      Climbs (item_count (take n all)) (variant_flat_items n v items ++ ys)
  variant_climb n v [] ys h c = climbs_less (item_count (take n all)) (item_count (take (n + 1) all)) ys
      (omega arith) c
  variant_climb n v (item ∷ items) ys h c = (
    omega arith,
    later_climb n v 1 items ys (item_count (take n all) + 0 + 1) (omega arith)
        (climbs_less (item_count (take n all) + 1 + length items) (item_count (take (n + 1) all)) ys
        (omega arith) c),
  )

  pub steps_climb : (n : ℕ) (blocks : List Block) (picks : List ℕ) → drop n all ≡ blocks →
      Climbs (item_count (take n all)) (flat_items_from n blocks picks)
  steps_climb n [] picks e = sum_by-take-le block_size all n
  steps_climb n (One item ∷ blocks) picks e =
      let r = drop_head n all blocks (One item) e in
      let k : item_count (take n all) + 1 ≤ item_count (take (n + 1) all) =
      count_more all n (n + 1) (One item) (omega arith) r.0 in (
        omega arith,
        climbs_less (item_count (take n all) + 0 + 1) (item_count (take (n + 1) all))
            (flat_items_from (n + 1) blocks picks) (omega arith) (steps_climb (n + 1) blocks picks r.1),
      )
  steps_climb n (Choice variants ∷ blocks) [] e =
      let r = drop_head n all blocks (Choice variants) e in
      let k : item_count (take n all) + block_size (Choice variants) ≤ item_count (take (n + 1) all) =
      count_more all n (n + 1) (Choice variants) (omega arith) r.0 in
      let s : length (picked_items (Choice variants) 0) ≤ block_size (Choice variants) =
      picked_le (Choice variants) 0 in
      variant_climb n 0 (picked_items (Choice variants) 0) (flat_items_from (n + 1) blocks []) (omega arith)
      (steps_climb (n + 1) blocks [] r.1)
  steps_climb n (Choice variants ∷ blocks) (pick ∷ picks) e =
      let r = drop_head n all blocks (Choice variants) e in
      let k : item_count (take n all) + block_size (Choice variants) ≤ item_count (take (n + 1) all) =
      count_more all n (n + 1) (Choice variants) (omega arith) r.0 in
      let s : length (picked_items (Choice variants) pick) ≤ block_size (Choice variants) =
      picked_le (Choice variants) pick in
      variant_climb n pick (picked_items (Choice variants) pick) (flat_items_from (n + 1) blocks picks)
      (omega arith) (steps_climb (n + 1) blocks picks r.1)

  pub climb_at : (f : ℕ) (xs : List FlatItem) (n : ℕ) (x : FlatItem) → Climbs f xs → slice_get xs n ≡ Some x →
      f + n ≤ far all x.place
  climb_at f [] n x c e = absurd cc
  climb_at f (y ∷ ys) zero x c e = let s : y ≡ x = some_same y x e in
      let t : far all y.place ≡ far all x.place = ap (λ (z : FlatItem). far all z.place) s in
      let k : f ≤ far all y.place = c.0 in omega arith
    where
      some_same : (a b : FlatItem) → Some a ≡ Some b → a ≡ b
      some_same a b e = cc
  climb_at f (y ∷ ys) (suc n) x c e = let k : f ≤ far all y.place = c.0 in
      let r : far all y.place + 1 + n ≤ far all x.place = climb_at (far all y.place + 1) ys n x c.1 e in
      omega arith

  pub climb_end : (f : ℕ) (xs : List FlatItem) → Climbs f xs → f + length xs ≤ item_count all
  climb_end f [] c = let k : f ≤ item_count all = c in omega arith
  climb_end f (y ∷ ys) c = let k : f ≤ far all y.place = c.0 in
      let r : far all y.place + 1 + length ys ≤ item_count all = climb_end (far all y.place + 1) ys c.1 in
      omega arith

  pub at_climb : (from : Place) (picks : List ℕ) → IsPlace all from →
      Climbs (far all from) (flat_items_at all from picks)
  at_climb from picks p = by from.index refl
    where
      inner : (j : ℕ) → suc j < length (items_around all from) →
          Climbs (item_count (take from.block all) + suc j)
          (drop (suc j) (variant_flat_items from.block from.variant (items_around all from))
          ++ flat_items_from (from.block + 1) (drop (from.block + 1) all) picks)
      inner j h = each (items_around all from) refl
        where
          b : (b : Block) × (slice_get all from.block ≡ Some b)
          b = around_block all from (omega (arith, h))

          size : item_count (take from.block all) + length (items_around all from)
              ≤ item_count (take (from.block + 1) all)
          size =
              let k : item_count (take from.block all) + block_size b.0
              ≤ item_count (take (from.block + 1) all) =
              count_more all from.block (from.block + 1) b.0 (omega arith) b.1 in
              let s : length (picked_items b.0 from.variant) ≤ block_size b.0 = picked_le b.0 from.variant in
              let a : length (items_around all from) ≡ length (picked_items b.0 from.variant) =
              ap length (around_is all b.0 from.block from.variant from.index b.1) in
              omega arith

          each : (items : List Item) → items ≡ items_around all from →
              Climbs (item_count (take from.block all) + suc j)
              (drop (suc j) (variant_flat_items from.block from.variant items) ++ flat_items_from
              (from.block + 1) (drop (from.block + 1) all) picks)
          each [] e = let l : 0 ≡ length (items_around all from) = ap length e in absurd (omega (arith, h, l))
          each (item ∷ items) e =
              let l : suc (length items) ≡ length (items_around all from) = ap length e in
              let cut : drop j (later_flat_items from.block from.variant 1 items)
              ≡ later_flat_items from.block from.variant (1 + j) (drop j items) =
              drop_later all from.block from.variant 1 j items in
              let n : length (drop j items) ≡ length items - j = length-drop j items in
              subst (λ (xs : List FlatItem). Climbs (item_count (take from.block all) + suc j)
              (xs ++ flat_items_from (from.block + 1) (drop (from.block + 1) all) picks)) (sym cut)
              (later_climb from.block from.variant (1 + j) (drop j items)
              (flat_items_from (from.block + 1) (drop (from.block + 1) all) picks)
              (item_count (take from.block all) + suc j) (omega arith)
              (climbs_less (item_count (take from.block all) + (1 + j) + length (drop j items))
              (item_count (take (from.block + 1) all))
              (flat_items_from (from.block + 1) (drop (from.block + 1) all) picks)
              (omega (arith, size, h, l, n))
              (steps_climb (from.block + 1) (drop (from.block + 1) all) picks refl)))

      by : (i : ℕ) → i ≡ from.index → Climbs (far all from) (flat_items_at all from picks)
      by zero e =
          let t : (from.index == 0) ≡ true = ap (λ (z : ℕ). z == 0) (sym e) in
          subst (Climbs (far all from)) (sym
          (if_true (from.index == 0) (flat_items_from from.block (drop from.block all) picks) _ t))
          (climbs_less (far all from) (item_count (take from.block all))
          (flat_items_from from.block (drop from.block all) picks) (omega arith)
          (steps_climb from.block (drop from.block all) picks refl))
      by (suc j) e =
          let f : (from.index == 0) ≡ false = subst (λ (z : ℕ). (z == 0) ≡ false) e (suc_not j) in
          let c : Climbs (item_count (take from.block all) + suc j)
          (drop (suc j) (variant_flat_items from.block from.variant (items_around all from))
          ++ flat_items_from (from.block + 1) (drop (from.block + 1) all) picks) =
          inner j (within p.within) in
          subst (Climbs (far all from)) (sym
          (if_false (from.index == 0) _ (drop from.index
          (variant_flat_items from.block from.variant (items_around all from)) ++ flat_items_from
          (from.block + 1) (drop (from.block + 1) all) picks) f))
          (subst (λ (i : ℕ). Climbs (item_count (take from.block all) + i)
          (drop i (variant_flat_items from.block from.variant (items_around all from)) ++ flat_items_from
          (from.block + 1) (drop (from.block + 1) all) picks)) e c)
        where
          within : (is_same_place from (end_of all) ≡ true) ⊎ (from.index < length (items_around all from)) →
              suc j < length (items_around all from)
          within (inl t) = let z : from.index ≡ 0 =
              ap (λ (at : Place). at.index) (same_place from (end_of all) t) in absurd (omega (arith, e, z))
          within (inr k) = omega (arith, e, k)

  -- as many more items lie before the end as are passed
  pub steps_far : (from to : Place) (picks : List ℕ) (n : ℕ) → IsPlace all from →
      steps_to all (flat_items_at all from picks) to ≡ Some n → far all from + n ≤ far all to
  steps_far from to picks n p e = by (flat_items_at all from picks) (at_climb from picks p) e
    where
      some_same : (a b : ℕ) → Some a ≡ Some b → a ≡ b
      some_same a b e = cc

      by : (xs : List FlatItem) → Climbs (far all from) xs → steps_to all xs to ≡ Some n →
          far all from + n ≤ far all to
      by xs c e = by_bool (is_same_place to (end_of all))
          (λ t.
          let l : length xs ≡ n = some_same (length xs) n
          (sym (if_true (is_same_place to (end_of all)) (Some (length xs)) _ t) ∙ e) in
          let z : far all to ≡ item_count (take (length all) all) + 0 =
          ap (far all) (same_place to (end_of all) t) in
          let w : item_count (take (length all) all) ≡ item_count all = ap item_count (take-length all) in
          let k : far all from + length xs ≤ item_count all = climb_end (far all from) xs c in
          omega arith)
          (λ f.
          let r : Found (λ (flat_item : FlatItem). is_same_place flat_item.place to) xs n =
          found (λ (flat_item : FlatItem). is_same_place flat_item.place to) xs n
          (sym (if_false (is_same_place to (end_of all)) (Some (length xs))
          (position (λ (flat_item : FlatItem). is_same_place flat_item.place to) xs) f) ∙ e) in
          let s : far all r.item.place ≡ far all to = ap (far all) (same_place r.item.place to r.passes) in
          let k : far all from + n ≤ far all r.item.place = climb_at (far all from) xs n r.item c r.at in
          omega arith)

  -- a place is no farther than the galley has items
  pub far_within : (at : Place) → IsPlace all at → far all at ≤ item_count all
  far_within at p = by p.within
    where
      by : (is_same_place at (end_of all) ≡ true) ⊎ (at.index < length (items_around all at)) →
          far all at ≤ item_count all
      by (inl t) =
          let z : far all at ≡ item_count (take (length all) all) + 0 =
          ap (far all) (same_place at (end_of all) t) in
          let w : item_count (take (length all) all) ≡ item_count all = ap item_count (take-length all) in
          omega arith
      by (inr k) =
          let b = around_block all at (omega (arith, k)) in
          let m : item_count (take at.block all) + block_size b.0 ≤ item_count (take (at.block + 1) all) =
          count_more all at.block (at.block + 1) b.0 (omega arith) b.1 in
          let s : length (picked_items b.0 at.variant) ≤ block_size b.0 = picked_le b.0 at.variant in
          let a : length (items_around all at) ≡ length (picked_items b.0 at.variant) =
          ap length (around_is all b.0 at.block at.variant at.index b.1) in
          let t : item_count (take (at.block + 1) all) ≤ item_count all =
          sum_by-take-le block_size all (at.block + 1) in
          omega arith

  -- the index of a place is below the number of items
  pub index_within : (at : Place) → IsPlace all at → (0 < at.index) → at.index < item_count all
  index_within at p h = by p.within
    where
      by : (is_same_place at (end_of all) ≡ true) ⊎ (at.index < length (items_around all at)) →
          at.index < item_count all
      by (inl t) = let z : at.index ≡ 0 = ap (λ (x : Place). x.index) (same_place at (end_of all) t) in
          absurd (omega (arith, h, z))
      by (inr k) =
          let b = around_block all at (omega (arith, k)) in
          let m : item_count (take at.block all) + block_size b.0 ≤ item_count (take (at.block + 1) all) =
          count_more all at.block (at.block + 1) b.0 (omega arith) b.1 in
          let s : length (picked_items b.0 at.variant) ≤ block_size b.0 = picked_le b.0 at.variant in
          let a : length (items_around all at) ≡ length (picked_items b.0 at.variant) =
          ap length (around_is all b.0 at.block at.variant at.index b.1) in
          let t : item_count (take (at.block + 1) all) ≤ item_count all =
          sum_by-take-le block_size all (at.block + 1) in
          omega arith
