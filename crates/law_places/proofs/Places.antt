-- Where the items from a place on stand.
use Rattle.std.proofs.Common.{◌≡◌, refl, sym, ap, subst, ◌∙◌, ℕ, zero, suc, ◌+◌, ◌-◌, ◌≤◌, ◌<◌, ◌⊎◌, inl, inr, List, [], ◌∷◌, ◌++◌, length, drop, Bool, true, false, Option, Some, None, arith}
use Rattle.std.specs.Prelude.{◌==◌, cond, not, slice_get, nat_lt, unwrap_or, option_map}
use Rattle.std.specs.List.{position, position_or_len, AllByRecursion}
use Rattle.pg_list.specs.declared.item.Item.{Item}
use Rattle.pg_list.specs.declared.variants.Variant.{Variant}
use Rattle.pg_list.specs.declared.blocks.Block.{Block}
use Rattle.pg_list.specs.declared.blocks.Block.TheVariants.{One, Choice}
use Rattle.pg_list.specs.declared.galley.Place.{Place}
use Rattle.pg_list.specs.Places.{place, picked_items, items_around}
use Rattle.pg_list.specs.Shapes.{IsBlock, IsChoice, IsVariant, BeginsWithBox}
use Rattle.pg_list.specs.Flat.{FlatItem, later_flat_items, variant_flat_items, flat_items_from, flat_items_at, steps_to, is_same_place, end_of, picked_variants, blocks_at}
use Rattle.std.specs.Option.{option_map_or}
use Rattle.std.proofs.Common.{length-drop}
use Rattle.std.proofs.lemmas.Option.{slice_get_within}
use Rattle.pg_rules.specs.IsState.{IsPlace}
use Rattle.law_places.specs.Past.{IsPast}
use Rattle.pg_lemmas.proofs.Bools.{by_bool, if_false, if_true}
use Rattle.pg_lemmas.proofs.Numbers.{suc_not, less_true}
use Rattle.pg_list.proofs.Places.{same_place, picked_few}
use Rattle.pg_lemmas.proofs.Lists.{all_drop}

-- ---- the first place that passes

pub record Found {X : Type 0} (p : X → Bool) (xs : List X) (n : ℕ) : Type 0 where
  pub item : X
  pub at : slice_get xs n ≡ Some item
  pub passes : p item ≡ true

first_step : {X : Type 0} (p : X → Bool) (x : X) (xs : List X) →
    (p x ≡ true → position_or_len p (x ∷ xs) ≡ 0) × (p x ≡ false →
    position_or_len p (x ∷ xs) ≡ suc (position_or_len p xs))
first_step p x xs = (by (p x), no (p x))
  where
    by : (b : Bool) → b ≡ true → cond (not b) (1 + position_or_len p xs) 0 ≡ 0
    by true e = refl
    by false e = absurd cc

    no : (b : Bool) → b ≡ false → cond (not b) (1 + position_or_len p xs) 0 ≡ suc (position_or_len p xs)
    no false e = omega arith
    no true e = absurd cc

found_first : {X : Type 0} (p : X → Bool) (xs : List X) → position_or_len p xs < length xs →
    Found p xs (position_or_len p xs)
found_first p [] h = absurd (omega arith)
found_first {X} p (x ∷ xs) h = by_bool (p x) here (λ f. there f (found_first p xs (less f)))
  where
    here : p x ≡ true → Found p (x ∷ xs) (position_or_len p (x ∷ xs))
    here t = let z : position_or_len p (x ∷ xs) ≡ 0 = (first_step p x xs).0 t in
        record { item = x; at = subst (λ (n : ℕ). slice_get (x ∷ xs) n ≡ Some x) (sym z) refl; passes = t }

    less : p x ≡ false → position_or_len p xs < length xs
    less f = let z : position_or_len p (x ∷ xs) ≡ suc (position_or_len p xs) = (first_step p x xs).1 f in
        omega (arith, h)

    there : p x ≡ false → Found p xs (position_or_len p xs) → Found p (x ∷ xs) (position_or_len p (x ∷ xs))
    there f r = let z : position_or_len p (x ∷ xs) ≡ suc (position_or_len p xs) = (first_step p x xs).1 f in
        record {
          item = r.item;
          at = subst (λ (n : ℕ). slice_get (x ∷ xs) n ≡ Some r.item) (sym z) r.at;
          passes = r.passes;
        }

pub found : {X : Type 0} (p : X → Bool) (xs : List X) (n : ℕ) → position p xs ≡ Some n → Found p xs n
found p xs n e = by_bool (nat_lt (position_or_len p xs) (length xs))
    (λ t. let q : position_or_len p xs ≡ n =
    some_same (position_or_len p xs) n
    (sym (if_true (nat_lt (position_or_len p xs) (length xs)) (Some (position_or_len p xs)) None t)
    ∙ e) in subst (Found p xs) q (found_first p xs (less_true _ _ t)))
    (λ f. let q : None ≡ Some n = sym
    (if_false (nat_lt (position_or_len p xs) (length xs)) (Some (position_or_len p xs)) None f) ∙ e in
    absurd cc)
  where
    some_same : (a b : ℕ) → Some a ≡ Some b → a ≡ b
    some_same a b e = cc

-- ---- blocks

pub drop_head : {X : Type 0} (n : ℕ) (xs ys : List X) (y : X) → drop n xs ≡ y ∷ ys →
    (slice_get xs n ≡ Some y) × (drop (n + 1) xs ≡ ys)
drop_head zero [] ys y e = absurd cc
drop_head zero (x ∷ xs) ys y e = (cc, cc)
drop_head (suc n) [] ys y e = absurd cc
drop_head (suc n) (x ∷ xs) ys y e = let r = drop_head n xs ys y e in let q : suc n + 1 ≡ suc (n + 1) =
    omega arith in (r.0, ap (λ (k : ℕ). drop k (x ∷ xs)) q ∙ r.1)

pub around_is : (blocks : List Block) (b : Block) (n v k : ℕ) → slice_get blocks n ≡ Some b →
    items_around blocks (place n v k) ≡ picked_items b v
around_is blocks b n v k e = ap
    (λ (o : Option Block). unwrap_or (option_map (λ (block : Block). picked_items block v) o) []) e

pub begins : (variants : List Variant) → IsChoice variants → 0 < length (picked_items (Choice variants) 0)
begins [] c = let h : 1 ≤ 0 = c.shape.some in absurd (omega arith)
begins (variant ∷ variants) c = by variant.items c.shape.each.0.begins
  where
    by : (items : List Item) → BeginsWithBox items → 0 < length items
    by [] h = absurd h
    by (item ∷ items) h = omega arith

pub begins_with : (variants : List Variant) (pick : ℕ) (v : Variant) → AllByRecursion IsVariant variants →
    slice_get variants pick ≡ Some v → 0 < length (picked_items (Choice variants) pick)
begins_with variants pick v each e =
    subst (λ (o : Option Variant). 0 < length (unwrap_or (option_map (λ (x : Variant). x.items) o) []))
    (sym e) (by v.items (at variants pick each e).begins)
  where
    by : (items : List Item) → BeginsWithBox items → 0 < length items
    by [] h = absurd h
    by (item ∷ items) h = omega arith

    at : (variants : List Variant) (pick : ℕ) → AllByRecursion IsVariant variants →
        slice_get variants pick ≡ Some v → IsVariant v
    at [] pick a e = absurd cc
    at (x ∷ xs) zero a e = let q : x ≡ v = cc in subst IsVariant q a.0
    at (x ∷ xs) (suc n) a e = at xs n a.1 e

-- where each pick names a variant, the first does
pub pick_named : (variants : List Variant) (blocks : List Block) (pick : ℕ) (picks : List ℕ) →
    length (picked_variants (Choice variants ∷ blocks) (pick ∷ picks)) ≡ suc (length picks) →
    (v : Variant) × (slice_get variants pick ≡ Some v)
pick_named variants blocks pick picks h = by (slice_get variants pick) refl
  where
    by : (o : Option Variant) → o ≡ slice_get variants pick → (v : Variant) × (slice_get variants pick ≡ Some v)
    by None e = let k : length (picked_variants blocks picks) ≡ suc (length picks) =
        subst (λ (o : Option Variant). length
        (option_map_or (λ (variant : Variant). variant ∷ []) o [] ++ picked_variants blocks picks)
        ≡ suc (length picks)) (sym e) h in absurd (omega (arith, picked_few blocks picks))
    by (Some v) e = (v, sym e)

module _ (all : List Block) where
  -- a place of the galley, in a block from n on
  pub record IsFrom (n : ℕ) (at : Place) : Type 0 where
    pub place : IsPlace all at
    pub block : n ≤ at.block

  from_more : (n : ℕ) (flat_items : List FlatItem) →
      AllByRecursion (λ (flat_item : FlatItem). IsFrom (n + 1) flat_item.place) flat_items →
      AllByRecursion (λ (flat_item : FlatItem). IsFrom n flat_item.place) flat_items
  from_more n [] a = tt
  from_more n (x ∷ xs) a = let h : n + 1 ≤ x.place.block = a.0.block in
      (record { place = a.0.place; block = omega arith }, from_more n xs a.1)

  all_append : (P : FlatItem → Type 0) (xs ys : List FlatItem) → AllByRecursion P xs → AllByRecursion P ys →
      AllByRecursion P (xs ++ ys)
  all_append P [] ys a b = b
  all_append P (x ∷ xs) ys a b = (a.0, all_append P xs ys a.1 b)

  -- later in a block
  pub record IsLater (n v i : ℕ) (at : Place) : Type 0 where
    pub place : IsPlace all at
    pub variant : at.variant ≡ v
    pub block : at.block ≡ n
    pub index : i ≤ at.index

  later_are : (b : Block) (n v i : ℕ) (items : List Item) → slice_get all n ≡ Some b → 1 ≤ i →
      i + length items ≡ length (picked_items b v) →
      AllByRecursion (λ (flat_item : FlatItem). IsLater n v i flat_item.place) (later_flat_items n v i items)
  later_are b n v i [] e h l = tt
  later_are b n v i (item ∷ items) e h l =
      let inside : i < length (items_around all (place n v i)) =
      subst (λ (xs : List Item). i < length xs) (sym (around_is all b n v i e)) (omega arith) in (
        record {
          place = record { within = inr inside; front = λ z. absurd (omega arith) };
          variant =
              refl;
          block = refl;
          index = omega arith;
        },
        weaker (later_flat_items n v (i + 1) items)
            (later_are b n v (i + 1) items e (omega arith) (omega arith)),
      )
    where
      weaker : (flat_items : List FlatItem) →
          AllByRecursion (λ (flat_item : FlatItem). IsLater n v (i + 1) flat_item.place) flat_items →
          AllByRecursion (λ (flat_item : FlatItem). IsLater n v i flat_item.place) flat_items
      weaker [] a = tt
      weaker (x ∷ xs) a = let q : i + 1 ≤ x.place.index = a.0.index in (
        record { place = a.0.place; variant = a.0.variant; block = a.0.block; index = omega arith },
        weaker xs a.1,
      )

  later_from : (n v i : ℕ) (flat_items : List FlatItem) →
      AllByRecursion (λ (flat_item : FlatItem). IsLater n v i flat_item.place) flat_items →
      AllByRecursion (λ (flat_item : FlatItem). IsFrom n flat_item.place) flat_items
  later_from n v i [] a = tt
  later_from n v i (x ∷ xs) a = let e : x.place.block ≡ n = a.0.block in
      (record { place = a.0.place; block = omega arith }, later_from n v i xs a.1)

  front_place : (b : Block) (n : ℕ) → slice_get all n ≡ Some b → 0 < length (picked_items b 0) →
      IsPlace all (place n 0 0)
  front_place b n e h = record {
    within =
        inr (subst (λ (xs : List Item). 0 < length xs) (sym (around_is all b n 0 0 e)) h);
    front = λ z. refl;
  }

  variant_are : (variants : List Variant) (n v : ℕ) → slice_get all n ≡ Some (Choice variants) →
      IsChoice variants → AllByRecursion (λ (flat_item : FlatItem). IsFrom n flat_item.place)
      (variant_flat_items n v (picked_items (Choice variants) v))
  variant_are variants n v e c = by (picked_items (Choice variants) v) refl
    where
      by : (items : List Item) → items ≡ picked_items (Choice variants) v →
          AllByRecursion (λ (flat_item : FlatItem). IsFrom n flat_item.place) (variant_flat_items n v items)
      by [] q = tt
      by (item ∷ items) q = let l : suc (length items) ≡ length (picked_items (Choice variants) v) =
          ap length q in (
            record { place = front_place (Choice variants) n e (begins variants c); block = omega arith },
            later_from n v 1 (later_flat_items n v 1 items)
                (later_are (Choice variants) n v 1 items e (omega arith) (omega arith)),
          )

  pub flat_items_are : (n : ℕ) (blocks : List Block) (picks : List ℕ) → drop n all ≡ blocks →
      AllByRecursion IsBlock blocks →
      AllByRecursion (λ (flat_item : FlatItem). IsFrom n flat_item.place) (flat_items_from n blocks picks)
  flat_items_are n [] picks e a = tt
  flat_items_are n (One item ∷ blocks) picks e a =
      let r = drop_head n all blocks (One item) e in (
        record { place = front_place (One item) n r.0 (omega arith); block = omega arith },
        from_more n (flat_items_from (n + 1) blocks picks) (flat_items_are (n + 1) blocks picks r.1 a.1),
      )
  flat_items_are n (Choice variants ∷ blocks) [] e a =
      let r = drop_head n all blocks (Choice variants) e in
      all_append _ (variant_flat_items n 0 (picked_items (Choice variants) 0))
      (flat_items_from (n + 1) blocks []) (variant_are variants n 0 r.0 a.0)
      (from_more n (flat_items_from (n + 1) blocks []) (flat_items_are (n + 1) blocks [] r.1 a.1))
  flat_items_are n (Choice variants ∷ blocks) (pick ∷ picks) e a =
      let r = drop_head n all blocks (Choice variants) e in
      all_append _ (variant_flat_items n pick (picked_items (Choice variants) pick))
      (flat_items_from (n + 1) blocks picks) (variant_are variants n pick r.0 a.0)
      (from_more n (flat_items_from (n + 1) blocks picks) (flat_items_are (n + 1) blocks picks r.1 a.1))

  -- ---- the items from a place on begin there, and the others stand behind

  abbrev pub Leads : Place → List FlatItem → Type 0
  Leads from [] = from ≡ end_of all
  Leads from (x ∷ xs) = (x.place ≡ from)
      × (AllByRecursion (λ (flat_item : FlatItem). IsPast all from flat_item.place) xs
      × (from.block < length all))

  past_of_from : (from : Place) (flat_items : List FlatItem) →
      AllByRecursion (λ (flat_item : FlatItem). IsFrom (from.block + 1) flat_item.place) flat_items →
      AllByRecursion (λ (flat_item : FlatItem). IsPast all from flat_item.place) flat_items
  past_of_from from [] a = tt
  past_of_from from (x ∷ xs) a = let h : from.block + 1 ≤ x.place.block = a.0.block in
      (record { place = a.0.place; past = inl (omega arith) }, past_of_from from xs a.1)

  past_of_later : (from : Place) (v i : ℕ) (flat_items : List FlatItem) → from.index < i →
      (0 < from.index → from.variant ≡ v) →
      AllByRecursion (λ (flat_item : FlatItem). IsLater from.block v i flat_item.place) flat_items →
      AllByRecursion (λ (flat_item : FlatItem). IsPast all from flat_item.place) flat_items
  past_of_later from v i [] h t a = tt
  past_of_later from v i (x ∷ xs) h t a = let e : x.place.block ≡ from.block = a.0.block in
      let k : i ≤ x.place.index = a.0.index in (
        record {
          place = a.0.place;
          past =
              inr (record { block = sym e; index = omega arith; variant = λ p. t p ∙ sym a.0.variant });
        },
        past_of_later from v i xs h t a.1,
      )

  drop_within : {X : Type 0} (n : ℕ) (xs ys : List X) (y : X) → drop n xs ≡ y ∷ ys → n < length xs
  drop_within zero [] ys y e = absurd cc
  drop_within zero (x ∷ xs) ys y e = omega arith
  drop_within (suc n) [] ys y e = absurd cc
  drop_within (suc n) (x ∷ xs) ys y e = let h : n < length xs = drop_within n xs ys y e in omega arith

  drop_none : {X : Type 0} (n : ℕ) (xs : List X) → drop n xs ≡ [] → slice_get xs n ≡ None
  drop_none zero [] e = refl
  drop_none zero (x ∷ xs) e = absurd cc
  drop_none (suc n) [] e = refl
  drop_none (suc n) (x ∷ xs) e = drop_none n xs e

  pub none_around : (n v k : ℕ) → slice_get all n ≡ None → items_around all (place n v k) ≡ []
  none_around n v k e = ap (λ (o : Option Block). unwrap_or
      (option_map (λ (block : Block). picked_items block v) o) []) e

  pub drop_later : (n v i j : ℕ) (items : List Item) →
      drop j (later_flat_items n v i items) ≡ later_flat_items n v (i + j) (drop j items)
  drop_later n v i zero items = let e : i ≡ i + 0 = omega arith in
      ap (λ (k : ℕ). later_flat_items n v k items) e
  drop_later n v i (suc j) [] = refl
  drop_later n v i (suc j) (item ∷ items) = let e : i + 1 + j ≡ i + suc j = omega arith in
      drop_later n v (i + 1) j items ∙ ap (λ (k : ℕ). later_flat_items n v k (drop j items)) e

  -- at the front of a block
  leads_front : (n : ℕ) (blocks : List Block) (picks : List ℕ) → drop n all ≡ blocks →
      AllByRecursion IsBlock blocks → IsPlace all (place n 0 0) →
      length (picked_variants blocks picks) ≡ length picks →
      Leads (place n 0 0) (flat_items_from n blocks picks)
  leads_front n [] picks e a p h = by p.within
    where
      by : (is_same_place (place n 0 0) (end_of all) ≡ true) ⊎ (0 < length (items_around all (place n 0 0))) →
          place n 0 0 ≡ end_of all
      by (inl t) = same_place (place n 0 0) (end_of all) t
      by (inr h) = let k : 0 < 0 = subst (λ (xs : List Item). 0 < length xs)
          (none_around n 0 0 (drop_none n all e)) h in absurd (omega arith)
  leads_front n (One item ∷ blocks) picks e a p h =
      let r = drop_head n all blocks (One item) e in (
        refl,
        (
          past_of_from (place n 0 0) (flat_items_from (n + 1) blocks picks)
              (flat_items_are (n + 1) blocks picks r.1 a.1),
          drop_within n all blocks (One item) e,
        ),
      )
  leads_front n (Choice variants ∷ blocks) picks e a p named = by picks named
    where
      r : (slice_get all n ≡ Some (Choice variants)) × (drop (n + 1) all ≡ blocks)
      r = drop_head n all blocks (Choice variants) e

      with : (pick : ℕ) (rest : List ℕ) (items : List Item) → items ≡ picked_items (Choice variants) pick →
          0 < length items → Leads (place n 0 0)
          (variant_flat_items n pick items ++ flat_items_from (n + 1) blocks rest)
      with pick rest [] q h = absurd (omega arith)
      with pick rest (item ∷ items) q h =
          let l : suc (length items) ≡ length (picked_items (Choice variants) pick) = ap length q in (
            refl,
            (
              all_append _ (later_flat_items n pick 1 items) (flat_items_from (n + 1) blocks rest)
                  (past_of_later (place n 0 0) pick 1 (later_flat_items n pick 1 items) (omega arith)
                  (λ p. absurd (omega arith)) (later_are (Choice variants) n pick 1 items r.0
                  (omega arith) (omega arith)))
                  (past_of_from (place n 0 0) (flat_items_from (n + 1) blocks rest)
                  (flat_items_are (n + 1) blocks rest r.1 a.1)),
              drop_within n all blocks (Choice variants) e,
            ),
          )

      by : (picks : List ℕ) → length (picked_variants (Choice variants ∷ blocks) picks) ≡ length picks →
          Leads (place n 0 0) (flat_items_from n (Choice variants ∷ blocks) picks)
      by [] h = with 0 [] (picked_items (Choice variants) 0) refl (begins variants a.0)
      by (pick ∷ picks) h = let v = pick_named variants blocks pick picks h in
          with pick picks (picked_items (Choice variants) pick) refl
          (begins_with variants pick v.0 a.0.shape.each v.1)

  -- inside a block
  pub around_block : (from : Place) → 0 < length (items_around all from) →
      (b : Block) × (slice_get all from.block ≡ Some b)
  around_block from h = by (slice_get all from.block) refl
    where
      by : (o : Option Block) → o ≡ slice_get all from.block → (b : Block) × (slice_get all from.block ≡ Some b)
      by None e = let z : items_around all from ≡ [] =
          none_around from.block from.variant from.index (sym e) in let k : 0 < 0 =
          subst (λ (xs : List Item). 0 < length xs) z h in absurd (omega arith)
      by (Some b) e = (b, sym e)

  leads_inside : (from : Place) (j : ℕ) (picks : List ℕ) → AllByRecursion IsBlock all → from.index ≡ suc j →
      suc j < length (items_around all from) →
      Leads from (drop (suc j) (variant_flat_items from.block from.variant (items_around all from))
      ++ flat_items_from (from.block + 1) (drop (from.block + 1) all) picks)
  leads_inside from j picks a e h = by (items_around all from) refl h
    where
      block : (b : Block) × (slice_get all from.block ≡ Some b)
      block = around_block from (omega (arith, h))

      around : items_around all from ≡ picked_items block.0 from.variant
      around = around_is all block.0 from.block from.variant from.index block.1

      tail : List FlatItem
      tail = flat_items_from (from.block + 1) (drop (from.block + 1) all) picks

      later : (k : ℕ) (items : List Item) → k ≡ suc j → 0 < length items →
          k + length items ≡ length (picked_items block.0 from.variant) →
          Leads from (later_flat_items from.block from.variant k items ++ flat_items_from (from.block + 1)
          (drop (from.block + 1) all) picks)
      later k [] q l t = absurd (omega arith)
      later k (item ∷ items) q l t = (
        let i : k ≡ from.index = q ∙ sym e in ap (λ (z : ℕ). place from.block from.variant z) i,
        (
          all_append _ (later_flat_items from.block from.variant (k + 1) items)
              (flat_items_from (from.block + 1) (drop (from.block + 1) all) picks)
              (past_of_later from from.variant (k + 1)
              (later_flat_items from.block from.variant (k + 1) items) (let i : from.index ≡ suc j = e in
              omega arith) (λ p. refl) (later_are block.0 from.block from.variant (k + 1) items block.1
              (omega arith) (omega arith)))
              (past_of_from from (flat_items_from (from.block + 1) (drop (from.block + 1) all) picks)
              (flat_items_are (from.block + 1) (drop (from.block + 1) all) picks refl
              (all_drop IsBlock (from.block + 1) all a))),
          slice_get_within all from.block block.0 block.1,
        ),
      )

      by : (items : List Item) → items ≡ items_around all from → suc j < length items →
          Leads from (drop (suc j) (variant_flat_items from.block from.variant items) ++ flat_items_from
          (from.block + 1) (drop (from.block + 1) all) picks)
      by [] q l = absurd (omega arith)
      by (item ∷ items) q l =
          let cut : drop j (later_flat_items from.block from.variant 1 items) ≡ later_flat_items from.block
          from.variant (1 + j) (drop j items) = drop_later from.block from.variant 1 j items in
          let n : length (drop j items) ≡ length items - j = length-drop j items in
          let t : suc (length items) ≡ length (picked_items block.0 from.variant) = ap length (q ∙ around) in
          subst (λ (xs : List FlatItem). Leads from
          (xs ++ flat_items_from (from.block + 1) (drop (from.block + 1) all) picks)) (sym cut)
          (later (1 + j) (drop j items) (omega arith) (omega arith) (omega arith))

  pub leads : (from : Place) (picks : List ℕ) → AllByRecursion IsBlock all → IsPlace all from →
      length (picked_variants (blocks_at all from) picks) ≡ length picks →
      Leads from (flat_items_at all from picks)
  leads from picks a p h = by from.index refl
    where
      by : (i : ℕ) → i ≡ from.index → Leads from (flat_items_at all from picks)
      by zero e =
          let v : from.variant ≡ 0 = p.front (sym e) in
          let q : place from.block 0 0 ≡ from = make from.block from.variant from.index v (sym e) in
          subst (λ (at : Place). Leads at (flat_items_at all at picks)) q
          (leads_front from.block (drop from.block all) picks refl (all_drop IsBlock from.block all a)
          (subst (IsPlace all) (sym q) p)
          (subst (λ (at : Place). length (picked_variants (blocks_at all at) picks) ≡ length picks)
          (sym q) h))
        where
          make : (b v i : ℕ) → v ≡ 0 → i ≡ 0 →
              ◌≡◌ {A = Place} (record { block = b; variant = 0; index = 0 })
              (record { block = b; variant = v; index = i })
          make b v i p q = cc
      by (suc j) e =
          let f : (from.index == 0) ≡ false = subst (λ (z : ℕ). (z == 0) ≡ false) e (suc_not j) in
          let drops : drop (suc j) (variant_flat_items from.block from.variant (items_around all from))
          ≡ drop from.index (variant_flat_items from.block from.variant (items_around all from)) =
          ap (λ (k : ℕ). drop k (variant_flat_items from.block from.variant (items_around all from))) e in
          subst (Leads from) (sym (if_false (from.index == 0) _ _ f))
          (subst (λ (xs : List FlatItem). Leads from
          (xs ++ flat_items_from (from.block + 1) (drop (from.block + 1) all) picks)) drops
          (leads_inside from j picks a (sym e) (inside p.within)))
        where
          inside : (is_same_place from (end_of all) ≡ true) ⊎ (from.index < length (items_around all from)) →
              suc j < length (items_around all from)
          inside (inl t) = let z : from.index ≡ 0 =
              ap (λ (at : Place). at.index) (same_place from (end_of all) t) in absurd (omega arith)
          inside (inr k) = omega arith

  -- the end of a column: its start, or a place behind it
  pub ends_at : (from to : Place) (picks : List ℕ) (n : ℕ) → AllByRecursion IsBlock all → IsPlace all from →
      length (picked_variants (blocks_at all from) picks) ≡ length picks →
      steps_to all (flat_items_at all from picks) to ≡ Some n → (to ≡ from) ⊎ IsPast all from to
  ends_at from to picks n a p h e = by (flat_items_at all from picks) (leads from picks a p h) e
    where
      end_place : (at : Place) → is_same_place at (end_of all) ≡ true → IsPlace all at
      end_place at t = record {
        within = inl t;
        front =
            λ z. ap (λ (x : Place). x.variant) (same_place at (end_of all) t);
      }

      member : (xs : List FlatItem) (k : ℕ) (x : FlatItem) →
          AllByRecursion (λ (flat_item : FlatItem). IsPast all from flat_item.place) xs →
          slice_get xs k ≡ Some x → IsPast all from x.place
      member [] k x b q = absurd cc
      member (y ∷ ys) zero x b q = let same : y ≡ x = cc in
          subst (λ (z : FlatItem). IsPast all from z.place) same b.0
      member (y ∷ ys) (suc k) x b q = member ys k x b.1 q

      here : (xs : List FlatItem) (k : ℕ) → Leads from xs →
          Found (λ (flat_item : FlatItem). is_same_place flat_item.place to) xs k →
          (to ≡ from) ⊎ IsPast all from to
      here [] k l f = let z : slice_get {X = FlatItem} [] k ≡ Some f.item = f.at in absurd cc
      here (x ∷ xs) zero l f = let z : x ≡ f.item = some_same x f.item f.at in
          inl (sym (same_place f.item.place to f.passes) ∙ (ap (λ (y : FlatItem). y.place) (sym z) ∙ l.0))
        where
          some_same : (a b : FlatItem) → Some a ≡ Some b → a ≡ b
          some_same a b e = cc
      here (x ∷ xs) (suc k) l f = inr
          (subst (IsPast all from) (same_place f.item.place to f.passes) (member xs k f.item l.1.0 f.at))

      at_end : (xs : List FlatItem) → Leads from xs → is_same_place to (end_of all) ≡ true →
          (to ≡ from) ⊎ IsPast all from to
      at_end [] l t = inl (same_place to (end_of all) t ∙ sym l)
      at_end (x ∷ xs) l t = let q : to.block ≡ length all =
          ap (λ (z : Place). z.block) (same_place to (end_of all) t) in let k : from.block < length all =
          l.1.1 in inr (record { place = end_place to t; past = inl (omega arith) })

      by : (xs : List FlatItem) → Leads from xs → steps_to all xs to ≡ Some n → (to ≡ from) ⊎ IsPast all from to
      by xs l e = by_bool (is_same_place to (end_of all)) (λ t. at_end xs l t)
          (λ f. here xs n l (found (λ (flat_item : FlatItem). is_same_place flat_item.place to) xs n
          (sym (if_false (is_same_place to (end_of all)) (Some (length xs))
          (position (λ (flat_item : FlatItem). is_same_place flat_item.place to) xs) f) ∙ e)))
