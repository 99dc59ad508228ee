-- A column cuts the list of items in two: its own, and those from its end on with the picks that are left.
use Rattle.std.proofs.Common.{◌≡◌, refl, sym, ap, subst, ◌∙◌, ℕ, zero, suc, ◌+◌, ◌≤◌, ◌<◌, ◌⊎◌, inl, inr, List, [], ◌∷◌, ◌++◌, length, take, drop, true, false, Option, Some, arith}
use Rattle.std.specs.Prelude.{◌==◌, slice_get}
use Rattle.std.specs.List.{AllByRecursion, position}
use Rattle.std.specs.Option.{option_map_or}
use Rattle.pg_list.specs.declared.item.Item.{Item}
use Rattle.pg_list.specs.declared.variants.Variant.{Variant}
use Rattle.pg_list.specs.declared.blocks.Block.{Block}
use Rattle.pg_list.specs.declared.blocks.Block.TheVariants.{One, Choice}
use Rattle.pg_list.specs.declared.galley.Place.{Place}
use Rattle.pg_list.specs.Places.{place, picked_items, items_around}
use Rattle.pg_list.specs.Shapes.{IsBlock}
use Rattle.pg_list.specs.Flat.{FlatItem, later_flat_items, variant_flat_items, flat_items_from, flat_items_at, fronts, picked_variants, steps_to, is_same_place, end_of, blocks_at}
use Rattle.pg_rules.specs.IsState.{IsPlace}
use Rattle.law_places.proofs.Places.{Found, around_block, around_is, begins, begins_with, drop_head, drop_later, found, pick_named}
use Rattle.pg_lemmas.proofs.Bools.{by_bool, if_false, if_true}
use Rattle.std.proofs.lemmas.Option.{same_Some}
use Rattle.std.proofs.Math.Seq.{drop-length}
use Rattle.pg_lemmas.proofs.Numbers.{suc_not}
use Rattle.pg_list.proofs.Places.{same_place, fronts_cons}
use Rattle.pg_lemmas.proofs.Lists.{all_drop}

module _ (all : List Block) where
  -- the k-th item stands at the place, or there are k items and the place is the end
  abbrev pub StandsAt : List FlatItem → ℕ → Place → Type 0
  StandsAt xs k to = ((x : FlatItem) × ((slice_get xs k ≡ Some x) × (x.place ≡ to)))
      ⊎ ((k ≡ length xs) × (to ≡ end_of all))

  pub next_stands : (x : FlatItem) (xs : List FlatItem) (k : ℕ) (to : Place) → StandsAt (x ∷ xs) (suc k) to →
      StandsAt xs k to
  next_stands x xs k to (inl s) = inl s
  next_stands x xs k to (inr (e, t)) = inr (omega arith, t)

  -- the first item stands at the place
  pub first_stands : (x : FlatItem) (xs : List FlatItem) (to : Place) → StandsAt (x ∷ xs) 0 to → x.place ≡ to
  first_stands x xs to (inl (y, (at, is))) = ap (λ (z : FlatItem). z.place) (same_Some x y at) ∙ is
  first_stands x xs to (inr (e, t)) = absurd (omega arith)

  inner : (n pick : ℕ) (b : Block) (blocks : List Block) (p q : List ℕ) (i : ℕ) (items : List Item) (k : ℕ)
      (to : Place) → slice_get all n ≡ Some b → drop (n + 1) all ≡ blocks → 1 ≤ i →
      drop i (variant_flat_items n pick (picked_items b pick)) ≡ later_flat_items n pick i items →
      ((k : ℕ) → StandsAt (flat_items_from (n + 1) blocks p) k to →
      fronts (flat_items_from (n + 1) blocks p) k ≡ length p →
      flat_items_from (n + 1) blocks (p ++ q) ≡ take k (flat_items_from (n + 1) blocks p) ++ flat_items_at
      all to q) →
      StandsAt (later_flat_items n pick i items ++ flat_items_from (n + 1) blocks p) k to →
      fronts (later_flat_items n pick i items ++ flat_items_from (n + 1) blocks p) k ≡ length p →
      later_flat_items n pick i items ++ flat_items_from (n + 1) blocks (p ++ q)
      ≡ take k (later_flat_items n pick i items ++ flat_items_from (n + 1) blocks p) ++ flat_items_at all
      to q
  inner n pick b blocks p q i [] k to e r h cut rest at few = rest k at few
  inner n pick b blocks (y ∷ p) q i (item ∷ items) zero to e r h cut rest at few = absurd (omega arith)
  inner n pick b blocks [] q i (item ∷ items) zero to e r h cut rest at few =
      let here : place n pick i ≡ to =
      first_stands (record { place = place n pick i; item = item; is_front = false })
      (later_flat_items n pick (i + 1) items ++ flat_items_from (n + 1) blocks []) to at in
      let around : items_around all (place n pick i) ≡ picked_items b pick = around_is all b n pick i e in
      let start : flat_items_at all (place n pick i) q
      ≡ drop i (variant_flat_items n pick (items_around all (place n pick i))) ++ flat_items_from (n + 1)
      (drop (n + 1) all) q = if_false (i == 0) _ _ (not_zero i h) in
      sym (ap (λ (z : Place). flat_items_at all z q) (sym here)
      ∙ (start ∙ (ap (λ (xs : List Item). drop i (variant_flat_items n pick xs) ++ flat_items_from (n + 1)
      (drop (n + 1) all) q) around
      ∙ (ap (λ (xs : List FlatItem). xs ++ flat_items_from (n + 1) (drop (n + 1) all) q) cut
      ∙ ap (λ (bs : List Block). later_flat_items n pick i (item ∷ items) ++ flat_items_from (n + 1) bs q)
      r))))
    where
      not_zero : (j : ℕ) → 1 ≤ j → (j == 0) ≡ false
      not_zero zero h = absurd (omega arith)
      not_zero (suc j) h = suc_not j
  inner n pick b blocks p q i (item ∷ items) (suc k) to e r h cut rest at few =
      let next = drop_head i (variant_flat_items n pick (picked_items b pick))
      (later_flat_items n pick (i + 1) items) (record {
        place = place n pick i;
        item = item;
        is_front =
            false;
      }) cut in
      ap (λ (xs : List FlatItem). record { place = place n pick i; item = item; is_front = false } ∷ xs)
      (inner n pick b blocks p q (i + 1) items k to e r (omega arith) next.1 rest
      (next_stands (record { place = place n pick i; item = item; is_front = false })
      (later_flat_items n pick (i + 1) items ++ flat_items_from (n + 1) blocks p) k to at)
      (let c : fronts (record {
        place = place n pick i;
        item = item;
        is_front =
            false;
      } ∷ (later_flat_items n pick (i + 1) items ++ flat_items_from (n + 1) blocks p)) (suc k) ≡ 0
      + fronts (later_flat_items n pick (i + 1) items ++ flat_items_from (n + 1) blocks p) k =
      fronts_cons (record { place = place n pick i; item = item; is_front = false })
      (later_flat_items n pick (i + 1) items ++ flat_items_from (n + 1) blocks p) k in omega arith))

  -- from the front of a block
  from_front : (n : ℕ) (blocks : List Block) (p q : List ℕ) (k : ℕ) (to : Place) → drop n all ≡ blocks →
      AllByRecursion IsBlock blocks → length (picked_variants blocks p) ≡ length p →
      StandsAt (flat_items_from n blocks p) k to → fronts (flat_items_from n blocks p) k ≡ length p →
      flat_items_from n blocks (p ++ q) ≡ take k (flat_items_from n blocks p) ++ flat_items_at all to q
  from_front n [] p q k to e a h (inl (x, (at, is))) few = absurd cc
  from_front n [] p q k to e a h (inr (l, t)) few =
      let z : k ≡ 0 = l in
      let ended : flat_items_at all (end_of all) q ≡ [] =
      ap (λ (bs : List Block). flat_items_from (length all) bs q) (drop-length all) in
      sym (ap (λ (j : ℕ). take j [] ++ flat_items_at all to q) z
      ∙ (ap (λ (y : Place). flat_items_at all y q) t ∙ ended))
  from_front n (One item ∷ blocks) (y ∷ p) q zero to e a h at few = absurd (omega arith)
  from_front n (One item ∷ blocks) [] q zero to e a h at few =
      let here : place n 0 0 ≡ to = first_stands (record {
        place = place n 0 0;
        item = item;
        is_front =
            false;
      }) (flat_items_from (n + 1) blocks []) to at in
      sym (ap (λ (z : Place). flat_items_at all z q) (sym here)
      ∙ ap (λ (bs : List Block). flat_items_from n bs q) e)
  from_front n (One item ∷ blocks) p q (suc k) to e a h at few =
      let r = drop_head n all blocks (One item) e in
      let c : fronts (record { place = place n 0 0; item = item; is_front = false } ∷ flat_items_from (n + 1)
      blocks p) (suc k) ≡ 0 + fronts (flat_items_from (n + 1) blocks p) k =
      fronts_cons (record { place = place n 0 0; item = item; is_front = false })
      (flat_items_from (n + 1) blocks p) k in
      ap (λ (xs : List FlatItem). record { place = place n 0 0; item = item; is_front = false } ∷ xs)
      (from_front (n + 1) blocks p q k to r.1 a.1 h
      (next_stands (record { place = place n 0 0; item = item; is_front = false })
      (flat_items_from (n + 1) blocks p) k to at) (omega arith))
  from_front n (Choice variants ∷ blocks) [] q k to e a h at few =
      by (picked_items (Choice variants) 0) refl (begins variants a.0) k at few
    where
      by : (items : List Item) → items ≡ picked_items (Choice variants) 0 → 0 < length items → (k : ℕ) →
          StandsAt (variant_flat_items n 0 items ++ flat_items_from (n + 1) blocks []) k to →
          fronts (variant_flat_items n 0 items ++ flat_items_from (n + 1) blocks []) k ≡ 0 →
          flat_items_from n (Choice variants ∷ blocks) q
          ≡ take k (variant_flat_items n 0 items ++ flat_items_from (n + 1) blocks []) ++ flat_items_at
          all to q
      by [] s l k at few = absurd (omega arith)
      by (item ∷ items) s l zero at few =
          let here : place n 0 0 ≡ to = first_stands (record {
            place = place n 0 0;
            item = item;
            is_front =
                true;
          }) (later_flat_items n 0 1 items ++ flat_items_from (n + 1) blocks []) to at in
          sym (ap (λ (z : Place). flat_items_at all z q) (sym here)
          ∙ ap (λ (bs : List Block). flat_items_from n bs q) e)
      by (item ∷ items) s l (suc k) at few =
          let c : fronts (record {
            place = place n 0 0;
            item = item;
            is_front =
                true;
          } ∷ (later_flat_items n 0 1 items ++ flat_items_from (n + 1) blocks [])) (suc k) ≡ 1
          + fronts (later_flat_items n 0 1 items ++ flat_items_from (n + 1) blocks []) k =
          fronts_cons (record { place = place n 0 0; item = item; is_front = true })
          (later_flat_items n 0 1 items ++ flat_items_from (n + 1) blocks []) k in
          absurd (omega arith)
  from_front n (Choice variants ∷ blocks) (y ∷ p) q k to e a h at few =
      by (picked_items (Choice variants) y) refl k (begins_with variants y v.0 a.0.shape.each v.1) at few
      (λ j s f. from_front (n + 1) blocks p q j to r.1 a.1 rest s f)
    where
      r : (slice_get all n ≡ Some (Choice variants)) × (drop (n + 1) all ≡ blocks)
      r = drop_head n all blocks (Choice variants) e

      v : (v : Variant) × (slice_get variants y ≡ Some v)
      v = pick_named variants blocks y p h

      rest : length (picked_variants blocks p) ≡ length p
      rest = let l : suc (length (picked_variants blocks p)) ≡ suc (length p) =
          subst (λ (o : Option Variant). length
          (option_map_or (λ (variant : Variant). variant ∷ []) o [] ++ picked_variants blocks p)
          ≡ suc (length p)) v.1 h in omega arith

      by : (items : List Item) → items ≡ picked_items (Choice variants) y → (k : ℕ) → 0 < length items →
          StandsAt (variant_flat_items n y items ++ flat_items_from (n + 1) blocks p) k to →
          fronts (variant_flat_items n y items ++ flat_items_from (n + 1) blocks p) k ≡ suc (length p) →
          ((j : ℕ) → StandsAt (flat_items_from (n + 1) blocks p) j to →
          fronts (flat_items_from (n + 1) blocks p) j ≡ length p →
          flat_items_from (n + 1) blocks (p ++ q)
          ≡ take j (flat_items_from (n + 1) blocks p) ++ flat_items_at all to q) →
          variant_flat_items n y items ++ flat_items_from (n + 1) blocks (p ++ q)
          ≡ take k (variant_flat_items n y items ++ flat_items_from (n + 1) blocks p) ++ flat_items_at all
          to q
      by [] s k l at few later = absurd (omega arith)
      by (item ∷ items) s zero l at few later = absurd (omega arith)
      by (item ∷ items) s (suc k) l at few later =
          let c : fronts (record {
            place = place n 0 0;
            item = item;
            is_front =
                true;
          } ∷ (later_flat_items n y 1 items ++ flat_items_from (n + 1) blocks p)) (suc k) ≡ 1
          + fronts (later_flat_items n y 1 items ++ flat_items_from (n + 1) blocks p) k =
          fronts_cons (record { place = place n 0 0; item = item; is_front = true })
          (later_flat_items n y 1 items ++ flat_items_from (n + 1) blocks p) k in
          ap (λ (xs : List FlatItem). record { place = place n 0 0; item = item; is_front = true } ∷ xs)
          (inner n y (Choice variants) blocks p q 1 items k to r.0 r.1 (omega arith)
          (ap (λ (xs : List Item). drop 1 (variant_flat_items n y xs)) (sym s)) later
          (next_stands (record { place = place n 0 0; item = item; is_front = true })
          (later_flat_items n y 1 items ++ flat_items_from (n + 1) blocks p) k to at) (omega arith))

  pub stands_at : (xs : List FlatItem) (to : Place) (k : ℕ) → steps_to all xs to ≡ Some k → StandsAt xs k to
  stands_at xs to k e = by_bool (is_same_place to (end_of all))
      (λ t. inr (
        sym (same_Some (length xs) k
            (sym (if_true (is_same_place to (end_of all)) (Some (length xs))
            (position (λ (flat_item : FlatItem). is_same_place flat_item.place to) xs) t) ∙ e)),
        same_place to (end_of all) t,
      ))
      (λ f. let r : Found (λ (flat_item : FlatItem). is_same_place flat_item.place to) xs k =
      found (λ (flat_item : FlatItem). is_same_place flat_item.place to) xs k
      (sym (if_false (is_same_place to (end_of all)) (Some (length xs))
      (position (λ (flat_item : FlatItem). is_same_place flat_item.place to) xs) f) ∙ e) in
      inl (r.item, (r.at, same_place r.item.place to r.passes)))

  -- the items from a column's start on are its own, and then those from its end on
  pub splits : (from to : Place) (p q : List ℕ) (k : ℕ) → AllByRecursion IsBlock all → IsPlace all from →
      length (picked_variants (blocks_at all from) p) ≡ length p →
      steps_to all (flat_items_at all from p) to ≡ Some k → fronts (flat_items_at all from p) k ≡ length p →
      flat_items_at all from (p ++ q) ≡ take k (flat_items_at all from p) ++ flat_items_at all to q
  splits from to p q k a place h e few = by from.index refl (stands_at (flat_items_at all from p) to k e) few h
    where
      inner_from : (j : ℕ) → suc j ≡ from.index → suc j < length (items_around all from) →
          length (picked_variants (drop (from.block + 1) all) p) ≡ length p →
          StandsAt (drop (suc j) (variant_flat_items from.block from.variant (items_around all from))
          ++ flat_items_from (from.block + 1) (drop (from.block + 1) all) p) k to →
          fronts (drop (suc j) (variant_flat_items from.block from.variant (items_around all from))
          ++ flat_items_from (from.block + 1) (drop (from.block + 1) all) p) k ≡ length p →
          drop (suc j) (variant_flat_items from.block from.variant (items_around all from)) ++ flat_items_from
          (from.block + 1) (drop (from.block + 1) all) (p ++ q)
          ≡ take k (drop (suc j) (variant_flat_items from.block from.variant (items_around all from))
          ++ flat_items_from (from.block + 1) (drop (from.block + 1) all) p) ++ flat_items_at all to q
      inner_from j i l h at few = each (items_around all from) refl at few
        where
          b : (b : Block) × (slice_get all from.block ≡ Some b)
          b = around_block all from (omega (arith, l))

          around : items_around all from ≡ picked_items b.0 from.variant
          around = around_is all b.0 from.block from.variant from.index b.1

          each : (items : List Item) → items ≡ items_around all from →
              StandsAt (drop (suc j) (variant_flat_items from.block from.variant items) ++ flat_items_from
              (from.block + 1) (drop (from.block + 1) all) p) k to →
              fronts (drop (suc j) (variant_flat_items from.block from.variant items) ++ flat_items_from
              (from.block + 1) (drop (from.block + 1) all) p) k ≡ length p →
              drop (suc j) (variant_flat_items from.block from.variant items) ++ flat_items_from
              (from.block + 1) (drop (from.block + 1) all) (p ++ q)
              ≡ take k (drop (suc j) (variant_flat_items from.block from.variant items) ++ flat_items_from
              (from.block + 1) (drop (from.block + 1) all) p) ++ flat_items_at all to q
          each [] e at few = let m : 0 ≡ length (items_around all from) = ap length e in
              absurd (omega (arith, l, m))
          each (item ∷ items) e at few =
              let cut : drop j (later_flat_items from.block from.variant 1 items)
              ≡ later_flat_items from.block from.variant (1 + j) (drop j items) =
              drop_later all from.block from.variant 1 j items in
              let plus : 1 + j ≡ suc j = omega arith in
              let whole : drop (1 + j) (variant_flat_items from.block from.variant
              (picked_items b.0 from.variant)) ≡ later_flat_items from.block from.variant (1 + j)
              (drop j items) = ap (λ (i : ℕ). drop i
              (variant_flat_items from.block from.variant (picked_items b.0 from.variant))) plus
              ∙ (ap (λ (xs : List Item). drop (suc j) (variant_flat_items from.block from.variant xs))
              (sym (e ∙ around)) ∙ cut) in
              subst (λ (xs : List FlatItem). xs ++ flat_items_from (from.block + 1)
              (drop (from.block + 1) all) (p ++ q)
              ≡ take k (xs ++ flat_items_from (from.block + 1) (drop (from.block + 1) all) p)
              ++ flat_items_at all to q) (sym cut)
              (inner from.block from.variant b.0 (drop (from.block + 1) all) p q (1 + j) (drop j items) k to
              b.1 refl (omega arith) whole
              (λ i s f. from_front (from.block + 1) (drop (from.block + 1) all) p q i to refl
              (all_drop IsBlock (from.block + 1) all a) h s f)
              (subst (λ (xs : List FlatItem). StandsAt
              (xs ++ flat_items_from (from.block + 1) (drop (from.block + 1) all) p) k to) cut at)
              (subst (λ (xs : List FlatItem). fronts
              (xs ++ flat_items_from (from.block + 1) (drop (from.block + 1) all) p) k ≡ length p) cut
              few))

      Wanted : List FlatItem → List FlatItem → Type 0
      Wanted xs ys = ys ≡ take k xs ++ flat_items_at all to q

      by : (i : ℕ) → i ≡ from.index → StandsAt (flat_items_at all from p) k to →
          fronts (flat_items_at all from p) k ≡ length p →
          length (picked_variants (blocks_at all from) p) ≡ length p →
          Wanted (flat_items_at all from p) (flat_items_at all from (p ++ q))
      by zero i at few h =
          let t : (from.index == 0) ≡ true = ap (λ (z : ℕ). z == 0) (sym i) in
          let start : (r : List ℕ) → flat_items_at all from r ≡ flat_items_from from.block
          (drop from.block all) r = (λ r. if_true (from.index == 0)
          (flat_items_from from.block (drop from.block all) r)
          (drop from.index (variant_flat_items from.block from.variant (items_around all from))
          ++ flat_items_from (from.block + 1) (drop (from.block + 1) all) r) t) in
          let bs : blocks_at all from ≡ drop from.block all =
          ap (λ (n : ℕ). drop n all) (if_true (from.index == 0) from.block (from.block + 1) t) in
          subst (λ (ys : List FlatItem). Wanted (flat_items_at all from p) ys) (sym (start (p ++ q)))
          (subst (λ (xs : List FlatItem). Wanted xs
          (flat_items_from from.block (drop from.block all) (p ++ q))) (sym (start p))
          (from_front from.block (drop from.block all) p q k to refl (all_drop IsBlock from.block all a)
          (subst (λ (b : List Block). length (picked_variants b p) ≡ length p) bs h)
          (subst (λ (xs : List FlatItem). StandsAt xs k to) (start p) at)
          (subst (λ (xs : List FlatItem). fronts xs k ≡ length p) (start p) few)))
      by (suc j) i at few h =
          let f : (from.index == 0) ≡ false = subst (λ (z : ℕ). (z == 0) ≡ false) i (suc_not j) in
          let start : (r : List ℕ) → flat_items_at all from r
          ≡ drop (suc j) (variant_flat_items from.block from.variant (items_around all from))
          ++ flat_items_from (from.block + 1) (drop (from.block + 1) all) r =
          (λ r. if_false (from.index == 0) (flat_items_from from.block (drop from.block all) r)
          (drop from.index (variant_flat_items from.block from.variant (items_around all from))
          ++ flat_items_from (from.block + 1) (drop (from.block + 1) all) r) f
          ∙ ap (λ (z : ℕ). drop z (variant_flat_items from.block from.variant (items_around all from))
          ++ flat_items_from (from.block + 1) (drop (from.block + 1) all) r) (sym i)) in
          let bs : blocks_at all from ≡ drop (from.block + 1) all =
          ap (λ (n : ℕ). drop n all) (if_false (from.index == 0) from.block (from.block + 1) f) in
          subst (λ (ys : List FlatItem). Wanted (flat_items_at all from p) ys) (sym (start (p ++ q)))
          (subst (λ (xs : List FlatItem). Wanted xs
          (drop (suc j) (variant_flat_items from.block from.variant (items_around all from))
          ++ flat_items_from (from.block + 1) (drop (from.block + 1) all) (p ++ q))) (sym (start p))
          (inner_from j i (within place.within)
          (subst (λ (b : List Block). length (picked_variants b p) ≡ length p) bs h)
          (subst (λ (xs : List FlatItem). StandsAt xs k to) (start p) at)
          (subst (λ (xs : List FlatItem). fronts xs k ≡ length p) (start p) few)))
        where
          within : (is_same_place from (end_of all) ≡ true) ⊎ (from.index < length (items_around all from)) →
              suc j < length (items_around all from)
          within (inl t) = let z : from.index ≡ 0 =
              ap (λ (at : Place). at.index) (same_place from (end_of all) t) in absurd (omega (arith, i, z))
          within (inr l) = omega (arith, i, l)
