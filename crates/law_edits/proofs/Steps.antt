-- Where the way to a place in the front ends, whatever stands behind the front.
use Rattle.std.proofs.Common.{◌≡◌, refl, sym, ap, subst, ◌∙◌, ℕ, suc, ◌+◌, ◌≤◌, ◌<◌, ◌⊎◌, inl, inr, List, [], ◌∷◌, ◌++◌, length, length-append, map, take, drop, Bool, true, false, Option, Some, None, arith}
use Rattle.std.specs.Prelude.{option_map}
use Rattle.std.specs.List.{AllByRecursion, list_any, position}
use Rattle.std.proofs.lemmas.List.{map-append, take-append-drop, take-append-le}
use Rattle.std.proofs.lemmas.Option.{same_Some, slice_get_within}
use Rattle.pg_list.specs.Places.{place}
use Rattle.pg_list.specs.Shapes.{IsBlock, is_box}
use Rattle.pg_list.specs.declared.blocks.Block.{Block}
use Rattle.pg_list.specs.declared.galley.Place.{Place}
use Rattle.pg_list.specs.declared.item.Item.{Item}
use Rattle.pg_list.specs.Break.{is_glue}
use Rattle.pg_list.specs.Flat.{FlatItem, blocks_at, end_of, flat_items_at, flat_items_from, fronts, is_same_place, picked_variants, steps_to}
use Rattle.pg_list.proofs.Places.{same_place}
use Rattle.law_places.proofs.Alike.{item_of}
use Rattle.pg_lemmas.proofs.Bools.{by_bool, if_false, if_true}
use Rattle.pg_lemmas.proofs.Lists.{all_drop}
use Rattle.law_places.proofs.Places.{Found, found}
use Rattle.law_places.proofs.Tests.{place_refl}
use Rattle.law_space.proofs.Picks.{named}
use Rattle.pg_column.proofs.Leads.{is_at, position_here, position_later}
use Rattle.law_texts.proofs.Picks.{at_fronts, choices, front_append, front_count, named_few}
use Rattle.law_edits.proofs.Behind.{Begins, GoesOn, begins_at, behind_each, boxed_from, is_glue_block}
use Rattle.law_edits.proofs.Fronts.{AreWithin, at_within, blocks_cut, cut_at, from_within, left_by, named_parts, none_left, variants_front}

-- ---- the first place that is looked for

abbrev NoneAt : Place → List FlatItem → Type 0
NoneAt to xs = AllByRecursion (λ (x : FlatItem). is_at to x ≡ false) xs

-- items of other blocks
none_at : (low high : ℕ) (to : Place) (xs : List FlatItem) → (to.block < low) ⊎ (high ≤ to.block) →
    AreWithin low high xs → NoneAt to xs
none_at low high to [] h a = tt
none_at low high to (x ∷ xs) h a = (other x.place h a.0.0 a.0.1, none_at low high to xs h a.1)
  where
    other : (at : Place) → (to.block < low) ⊎ (high ≤ to.block) → low ≤ at.block → at.block < high →
        is_same_place at to ≡ false
    other at h k l = by_bool (is_same_place at to)
        (λ t. let e : at.block ≡ to.block = ap (λ (x : Place). x.block) (same_place at to t) in absurd (clash h e))
        (λ f. f)
      where
        clash : (to.block < low) ⊎ (high ≤ to.block) → at.block ≡ to.block → ⊥
        clash (inl p) e = omega arith
        clash (inr p) e = omega arith

none_found : (to : Place) (xs : List FlatItem) → NoneAt to xs → position (is_at to) xs ≡ None
none_found to [] a = refl
none_found to (x ∷ xs) a = position_later (is_at to) x xs a.0 ∙ ap (option_map suc) (none_found to xs a.1)

found_front : (to : Place) (xs ys : List FlatItem) → NoneAt to ys →
    position (is_at to) (xs ++ ys) ≡ position (is_at to) xs
found_front to [] ys a = none_found to ys a
found_front to (x ∷ xs) ys a = by_bool (is_at to x)
    (λ t. position_here (is_at to) x (xs ++ ys) t ∙ sym (position_here (is_at to) x xs t))
    (λ f. position_later (is_at to) x (xs ++ ys) f
    ∙ (ap (option_map suc) (found_front to xs ys a) ∙ sym (position_later (is_at to) x xs f)))

found_seam : (to : Place) (xs : List FlatItem) (y : FlatItem) (ys : List FlatItem) → NoneAt to xs →
    is_at to y ≡ true → position (is_at to) (xs ++ y ∷ ys) ≡ Some (length xs)
found_seam to [] y ys a t = position_here (is_at to) y ys t
found_seam to (x ∷ xs) y ys a t = position_later (is_at to) x (xs ++ y ∷ ys) a.0
    ∙ ap (option_map suc) (found_seam to xs y ys a.1 t)

found_behind : (to : Place) (xs ys : List FlatItem) (n : ℕ) → NoneAt to xs →
    position (is_at to) (xs ++ ys) ≡ Some n → length xs ≤ n
found_behind to [] ys n a e = omega arith
found_behind to (x ∷ xs) ys n a e = next (position (is_at to) (xs ++ ys)) refl
    (sym (position_later (is_at to) x (xs ++ ys) a.0) ∙ e) (λ k q. found_behind to xs ys k a.1 q)
  where
    next : (o : Option ℕ) → o ≡ position (is_at to) (xs ++ ys) → option_map suc o ≡ Some n →
        ((k : ℕ) → position (is_at to) (xs ++ ys) ≡ Some k → length xs ≤ k) → suc (length xs) ≤ n
    next None q e later = absurd cc
    next (Some k) q e later =
        let s : suc k ≡ n = same_Some (suc k) n e in
        let t : length xs ≤ k = later k (sym q) in
        omega (arith, s, t)

-- ---- fronts

pub front_taken : (xs ys : List FlatItem) (n : ℕ) → n ≤ length xs → front_count (take n (xs ++ ys)) ≡ fronts xs n
front_taken xs ys n h = ap front_count (take-append-le n xs ys h)

fronts_within : (xs : List FlatItem) (n : ℕ) → fronts xs n ≤ front_count xs
fronts_within xs n =
    let e : front_count (take n xs ++ drop n xs) ≡ front_count (take n xs) + front_count (drop n xs) =
    front_append (take n xs) (drop n xs) in
    let f : front_count (take n xs ++ drop n xs) ≡ front_count xs = ap front_count (take-append-drop n xs) in
    omega (arith, e, f)

-- ---- the way to a place in the front

-- picks lead from a place to another, n items on, both in the front; none are left behind it
pub record LeadsIn (front : List Block) (from to : Place) (picks : List ℕ) (n : ℕ) : Type 0 where
  pub from_in : from.block < length front
  pub to_in : to.block < length front
  pub steps : steps_to front (flat_items_at front from picks) to ≡ Some n
  pub within : n < length (flat_items_at front from picks)
  pub fronts_are : fronts (flat_items_at front from picks) n ≡ length picks
  pub none_left : left_by (blocks_at front from) picks ≡ []
  pub named_are : named (blocks_at front from) picks ≡ length picks

module _ (front : List Block) (from : Place) (inside : from.block < length front) where
  -- a place in the front is not the end
  not_end : (blocks : List Block) (to : Place) → to.block < length front →
      is_same_place to (end_of (front ++ blocks)) ≡ false
  not_end blocks to h = by_bool (is_same_place to (end_of (front ++ blocks)))
      (λ t. let e : to.block ≡ length (front ++ blocks) =
      ap (λ (x : Place). x.block) (same_place to (end_of (front ++ blocks)) t) in
      absurd (omega (arith, e, h, length-append front blocks)))
      (λ f. f)

  not_end_in : (to : Place) → to.block < length front → is_same_place to (end_of front) ≡ false
  not_end_in to h = by_bool (is_same_place to (end_of front))
      (λ t. let e : to.block ≡ length front = ap (λ (x : Place). x.block) (same_place to (end_of front) t) in
      absurd (omega (arith, e, h)))
      (λ f. f)

  abbrev behind : List Block → List ℕ → List FlatItem
  behind blocks picks = flat_items_from (length front) blocks (left_by (blocks_at front from) picks)

  steps_in : (blocks : List Block) (picks : List ℕ) (to : Place) → to.block < length front →
      steps_to (front ++ blocks) (flat_items_at (front ++ blocks) from picks) to
      ≡ steps_to front (flat_items_at front from picks) to
  steps_in blocks picks to h =
      if_false (is_same_place to (end_of (front ++ blocks)))
      (Some (length (flat_items_at (front ++ blocks) from picks))) _ (not_end blocks to h)
      ∙ (ap (position (is_at to)) (cut_at from front inside blocks picks)
      ∙ (found_front to (flat_items_at front from picks) (behind blocks picks)
      (none_at (length front) (length front + length blocks) to (behind blocks picks) (inl h)
      (from_within (length front) (length front + length blocks) (length front) blocks
      (left_by (blocks_at front from) picks) (omega arith) (omega arith)))
      ∙ sym (if_false (is_same_place to (end_of front)) (Some (length (flat_items_at front from picks))) _
      (not_end_in to h))))

  within_front : (picks : List ℕ) (to : Place) (n : ℕ) → to.block < length front →
      steps_to front (flat_items_at front from picks) to ≡ Some n → n < length (flat_items_at front from picks)
  within_front picks to n h e =
      let f : Found (is_at to) (flat_items_at front from picks) n = found (is_at to) (flat_items_at front from picks) n
      (sym (if_false (is_same_place to (end_of front)) (Some (length (flat_items_at front from picks))) _
      (not_end_in to h)) ∙ e) in
      slice_get_within (flat_items_at front from picks) n f.item f.at

  fronts_in : (blocks : List Block) (picks : List ℕ) (n : ℕ) → n ≤ length (flat_items_at front from picks) →
      fronts (flat_items_at (front ++ blocks) from picks) n ≡ fronts (flat_items_at front from picks) n
  fronts_in blocks picks n h = ap (λ (xs : List FlatItem). fronts xs n) (cut_at from front inside blocks picks)
      ∙ front_taken (flat_items_at front from picks) (behind blocks picks) n h

  -- whatever stands behind the front, the way is that in the front
  pub leads_in : AllByRecursion IsBlock front → (blocks : List Block) (to : Place) (picks : List ℕ) (n : ℕ) →
      to.block < length front →
      steps_to (front ++ blocks) (flat_items_at (front ++ blocks) from picks) to ≡ Some n →
      fronts (flat_items_at (front ++ blocks) from picks) n ≡ length picks →
      named (blocks_at (front ++ blocks) from) picks ≡ length picks → LeadsIn front from to picks n
  leads_in each blocks to picks n h e f m =
      let s : steps_to front (flat_items_at front from picks) to ≡ Some n = sym (steps_in blocks picks to h) ∙ e in
      let w : n < length (flat_items_at front from picks) = within_front picks to n h s in
      let g : fronts (flat_items_at front from picks) n ≡ length picks =
      sym (fronts_in blocks picks n (omega (arith, w))) ∙ f in
      let all = at_fronts front from picks (λ (k : ℕ). all_drop IsBlock k front each) in
      let few : length picks ≤ choices (blocks_at front from) =
      omega (arith, g, all, fronts_within (flat_items_at front from picks) n, named_few (blocks_at front from) picks) in
      let none : left_by (blocks_at front from) picks ≡ [] = none_left (blocks_at front from) picks few in
      record {
        from_in = inside;
        to_in = h;
        steps = s;
        within = w;
        fronts_are = g;
        none_left = none;
        named_are = sym (ap length (ap (λ (bs : List Block). picked_variants bs picks)
            (blocks_cut from front inside blocks) ∙ variants_front (blocks_at front from) blocks picks none)) ∙ m;
      }

-- and the other way round
module _ {front : List Block} {from to : Place} {picks : List ℕ} {n : ℕ} (l : LeadsIn front from to picks n)
    (blocks : List Block) where
  pub out_steps : steps_to (front ++ blocks) (flat_items_at (front ++ blocks) from picks) to ≡ Some n
  out_steps = steps_in front from l.from_in blocks picks to l.to_in ∙ l.steps

  pub out_fronts : fronts (flat_items_at (front ++ blocks) from picks) n ≡ length picks
  out_fronts = let w : n < length (flat_items_at front from picks) = l.within in
      fronts_in front from l.from_in blocks picks n (omega (arith, w)) ∙ l.fronts_are

  pub out_variants : picked_variants (blocks_at (front ++ blocks) from) picks
      ≡ picked_variants (blocks_at front from) picks
  out_variants = ap (λ (bs : List Block). picked_variants bs picks) (blocks_cut from front l.from_in blocks)
      ∙ variants_front (blocks_at front from) blocks picks l.none_left

  pub out_named : named (blocks_at (front ++ blocks) from) picks ≡ length picks
  out_named = ap length out_variants ∙ l.named_are

-- ---- the items

-- the items of the front, an item that is glue or not, and the rest, with a box from that item on
pub record ItemsCut (front : List Item) (glue : Bool) (items : List Item) : Type 0 where
  pub next : Item
  pub rest : List Item
  pub is : items ≡ front ++ next ∷ rest
  pub glue_is : is_glue next ≡ glue
  pub boxed : list_any is_box (next ∷ rest) ≡ true

module _ {front : List Block} {next : Block} {rest : List Block} (on : GoesOn front next rest) (from : Place)
    (inside : from.block < length front) (picks : List ℕ)
    (names : named (blocks_at (front ++ next ∷ rest) from) picks ≡ length picks) where
  abbrev left : List ℕ
  left = left_by (blocks_at front from) picks

  -- the picks that the front leaves name variants of what stands behind it
  left_named : named (next ∷ rest) left ≡ length left
  left_named = (named_parts (blocks_at front from) (next ∷ rest) picks
      (ap (λ (bs : List Block). named bs picks) (sym (blocks_cut from front inside (next ∷ rest))) ∙ names)).1

  pub items_cut : ItemsCut (map item_of (flat_items_at front from picks)) (is_glue_block next)
      (map item_of (flat_items_at (front ++ next ∷ rest) from picks))
  items_cut =
      let b : Begins (length front) (is_glue_block next) (flat_items_from (length front) (next ∷ rest) left) =
      begins_at (length front) next rest left (behind_each on).0 left_named in
      let s : map item_of (flat_items_from (length front) (next ∷ rest) left) ≡ b.first.item ∷ map item_of b.rest =
      ap (map item_of) b.is in
      record {
        next = b.first.item;
        rest = map item_of b.rest;
        is = ap (map item_of) (cut_at from front inside (next ∷ rest) picks)
            ∙ (map-append item_of (flat_items_at front from picks)
            (flat_items_from (length front) (next ∷ rest) left)
            ∙ ap (λ (xs : List Item). map item_of (flat_items_at front from picks) ++ xs) s);
        glue_is = b.glue_is;
        boxed = subst (λ (xs : List Item). list_any is_box xs ≡ true) s
            (boxed_from (length front) (next ∷ rest) left (behind_each on) left_named on.boxed);
      }

  -- the way to the first place behind the front passes all of the front
  pub steps_seam : steps_to (front ++ next ∷ rest) (flat_items_at (front ++ next ∷ rest) from picks)
      (place (length front) 0 0) ≡ Some (length (flat_items_at front from picks))
  steps_seam =
      let b : Begins (length front) (is_glue_block next) (flat_items_from (length front) (next ∷ rest) left) =
      begins_at (length front) next rest left (behind_each on).0 left_named in
      if_false (is_same_place (place (length front) 0 0) (end_of (front ++ next ∷ rest)))
      (Some (length (flat_items_at (front ++ next ∷ rest) from picks))) _
      (by_bool (is_same_place (place (length front) 0 0) (end_of (front ++ next ∷ rest)))
      (λ t. let e : length front ≡ length (front ++ next ∷ rest) =
      ap (λ (x : Place). x.block) (same_place (place (length front) 0 0) (end_of (front ++ next ∷ rest)) t) in
      absurd (omega (arith, e, length-append front (next ∷ rest))))
      (λ f. f))
      ∙ (ap (position (is_at (place (length front) 0 0))) (cut_at from front inside (next ∷ rest) picks
      ∙ ap (λ (xs : List FlatItem). flat_items_at front from picks ++ xs) b.is)
      ∙ found_seam (place (length front) 0 0) (flat_items_at front from picks) b.first b.rest
      (none_at 0 (length front) (place (length front) 0 0) (flat_items_at front from picks) (inr (omega arith))
      (at_within from front inside picks))
      (subst (λ (at : Place). is_same_place at (place (length front) 0 0) ≡ true) (sym b.place)
      (place_refl (place (length front) 0 0))))

  -- a place behind the front is behind all of it
  pub steps_behind : (to : Place) (n : ℕ) → length front ≤ to.block →
      steps_to (front ++ next ∷ rest) (flat_items_at (front ++ next ∷ rest) from picks) to ≡ Some n →
      length (flat_items_at front from picks) ≤ n
  steps_behind to n h e = by_bool (is_same_place to (end_of (front ++ next ∷ rest)))
      (λ t. let q : length (flat_items_at (front ++ next ∷ rest) from picks) ≡ n =
      same_Some _ _ (sym (if_true (is_same_place to (end_of (front ++ next ∷ rest)))
      (Some (length (flat_items_at (front ++ next ∷ rest) from picks))) _ t) ∙ e) in
      let l : length (flat_items_at (front ++ next ∷ rest) from picks) ≡ length (flat_items_at front from picks)
      + length (flat_items_from (length front) (next ∷ rest) left) =
      ap length (cut_at from front inside (next ∷ rest) picks)
      ∙ length-append (flat_items_at front from picks) (flat_items_from (length front) (next ∷ rest) left) in
      omega (arith, q, l))
      (λ f. found_behind to (flat_items_at front from picks) (flat_items_from (length front) (next ∷ rest) left) n
      (none_at 0 (length front) to (flat_items_at front from picks) (inr h) (at_within from front inside picks))
      (sym (ap (position (is_at to)) (cut_at from front inside (next ∷ rest) picks))
      ∙ (sym (if_false (is_same_place to (end_of (front ++ next ∷ rest)))
      (Some (length (flat_items_at (front ++ next ∷ rest) from picks))) _ f) ∙ e)))
