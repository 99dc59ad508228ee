-- Where the ends along the first stretch stand, and those behind the front of a choice.
use Rattle.std.proofs.Common.{◌≡◌, refl, sym, ap, ◌∙◌, subst, ℕ, ◌+◌, ◌≤◌, ◌<◌, ◌⊎◌, inl, inr, zero, suc, List, [], ◌∷◌, ◌++◌, drop, arith, Bool, true, false, Option, Some, None, IfSome, ℤ, pos}
use Rattle.std.specs.Prelude.{◌==◌, if◌then◌else◌, is_some, option_map, slice_get, unwrap_or}
use Rattle.std.specs.Cmp.{nat_cmp_is}
use Rattle.std.specs.List.{AllByRecursion}
use Rattle.std.specs.Ordering.{nat_cmp, ordering_then}
use Rattle.std.specs.declared.cmp.Ordering.{Ordering}
use Rattle.std.specs.declared.cmp.Ordering.TheVariants.{Less, Equal, Greater}
use Rattle.std.proofs.lemmas.Cmp.{ranked}
use Rattle.pg_breaks.specs.Near.{glue_after, near_penalty, place_penalty, solid_before}
use Rattle.pg_column.specs.Passed.{Passed, nothing}
use Rattle.pg_lemmas.proofs.Bools.{both_of}
use Rattle.pg_lemmas.proofs.Lists.{all_append, all_drop, get_all}
use Rattle.pg_list.specs.Flat.{FlatItem, later_flat_items, variant_flat_items}
use Rattle.pg_list.specs.Places.{items_around, picked_items, place}
use Rattle.pg_list.specs.Shapes.{BeginsWithBox, IsBlock, is_box}
use Rattle.pg_list.specs.declared.blocks.Block.{Block}
use Rattle.pg_list.specs.declared.blocks.Block.TheVariants.{One, Choice}
use Rattle.pg_list.specs.declared.galley.Place.{Place}
use Rattle.pg_list.specs.declared.item.Item.{Item}
use Rattle.pg_list.specs.declared.variants.Variant.{Variant}
use Rattle.pg_plan.specs.Order.{place_cmp}
use Rattle.pg_rules.specs.IsState.{IsPlace}
use Rattle.pg_rules.specs.Room.{Document}
use Rattle.law_walk.specs.Best.{IsAmong}
use Rattle.law_walk.specs.Candidates.{Candidate}
use Rattle.law_walk.specs.Space.{first_ends}
use Rattle.law_walk.specs.Walk.{ends_along, first_front, first_items, next_front, picked_front, picked_stretch, singles, variants_at, variants_in}
use Rattle.law_walk.proofs.Complete.{StandsIn}
use Rattle.law_walk.proofs.Sound.{IsAlong, box_none, listed_along}
use Rattle.law_walk.proofs.Stretches.{front_behind}
use Rattle.pg_walk.specs.Reaching.{IsBetween}

-- ---- the items up to a front

-- an item of a block before the front
pub record IsBefore (b : ℕ) (x : FlatItem) : Type 0 where
  pub before : x.place.block < b

later_before : (b n v i : ℕ) (items : List Item) → n < b → AllByRecursion (IsBefore b) (later_flat_items n v i items)
later_before b n v i [] h = tt
later_before b n v i (item ∷ items) h = (record { before = h }, later_before b n v (i + 1) items h)

variant_before : (b n v : ℕ) (items : List Item) → n < b → AllByRecursion (IsBefore b) (variant_flat_items n v items)
variant_before b n v [] h = tt
variant_before b n v (item ∷ items) h = (record { before = h }, later_before b n v 1 items h)

singles_before : (n : ℕ) (blocks : List Block) → AllByRecursion (IsBefore (next_front n blocks)) (singles n blocks)
singles_before n [] = tt
singles_before n (One item ∷ blocks) =
    let m = front_behind (n + 1) blocks in (record { before = omega (arith, m) }, singles_before (n + 1) blocks)
singles_before n (Choice variants ∷ blocks) = tt

pub first_before : (blocks : List Block) (from : Place) →
    AllByRecursion (IsBefore (first_front blocks from)) (first_items blocks from)
first_before blocks from = by (from.index == 0)
  where
    behind : ℕ
    behind = next_front (from.block + 1) (drop (from.block + 1) blocks)

    own : List FlatItem
    own = variant_flat_items from.block from.variant (items_around blocks from)

    after : List FlatItem
    after = singles (from.block + 1) (drop (from.block + 1) blocks)

    by : (b : Bool) → AllByRecursion (IsBefore (if b then next_front from.block (drop from.block blocks) else behind))
        (if b then singles from.block (drop from.block blocks) else drop from.index own ++ after)
    by true = singles_before from.block (drop from.block blocks)
    by false =
        let m = front_behind (from.block + 1) (drop (from.block + 1) blocks) in
        all_append (IsBefore behind) (drop from.index own) after
        (all_drop (IsBefore behind) from.index own
        (variant_before behind from.block from.variant (items_around blocks from) (omega (arith, m))))
        (singles_before (from.block + 1) (drop (from.block + 1) blocks))

pub before_between : (b : ℕ) (xs : List FlatItem) → AllByRecursion (IsBefore b) xs →
    AllByRecursion (IsBetween 0 b) xs
before_between b [] a = tt
before_between b (x ∷ xs) a =
    let h = a.0.before in
    (record { from = omega arith; to = omega (arith, h) }, before_between b xs a.1)

-- ---- the items from a front on

-- in a later block, or inside one of the choice's variants
abbrev pub IsPast : ℕ → Place → Type 0
IsPast b at = (b < at.block) ⊎ ((b ≤ at.block) × (1 ≤ at.index))

-- the front itself, or behind it
record IsFrom (b : ℕ) (x : FlatItem) : Type 0 where
  from : (x.place ≡ place b 0 0) ⊎ IsPast b x.place

later_from : (b v i : ℕ) (items : List Item) → 1 ≤ i → AllByRecursion (IsFrom b) (later_flat_items b v i items)
later_from b v i [] h = tt
later_from b v i (item ∷ items) h =
    (record { from = inr (inr (omega arith, h)) }, later_from b v (i + 1) items (omega (arith, h)))

variant_from : (b v : ℕ) (items : List Item) → AllByRecursion (IsFrom b) (variant_flat_items b v items)
variant_from b v [] = tt
variant_from b v (item ∷ items) = (record { from = inl refl }, later_from b v 1 items (omega arith))

singles_from : (b n : ℕ) (blocks : List Block) → b < n → AllByRecursion (IsFrom b) (singles n blocks)
singles_from b n [] h = tt
singles_from b n (One item ∷ blocks) h =
    (record { from = inr (inl h) }, singles_from b (n + 1) blocks (omega (arith, h)))
singles_from b n (Choice variants ∷ blocks) h = tt

picked_from : (blocks : List Block) (b pick : ℕ) → AllByRecursion (IsFrom b) (picked_stretch blocks b pick)
picked_from blocks b pick = all_append (IsFrom b) (variant_flat_items b pick (items_around blocks (place b pick 0)))
    (singles (b + 1) (drop (b + 1) blocks)) (variant_from b pick (items_around blocks (place b pick 0)))
    (singles_from b (b + 1) (drop (b + 1) blocks) (omega arith))

-- ---- a front is no break

first_box : (o : Option Block) (pick : ℕ) (v : Variant) → IfSome o IsBlock → slice_get (variants_in o) pick ≡ Some v →
    (item : Item) × ((slice_get (unwrap_or (option_map (λ (block : Block). picked_items block 0) o) []) 0 ≡ Some item)
    × (is_box item ≡ true))
first_box None pick v a e = absurd cc
first_box (Some (One item)) pick v a e = absurd cc
first_box (Some (Choice [])) pick v a e = absurd cc
first_box (Some (Choice (w ∷ ws))) pick v a e = by w.items a.shape.each.0.begins
  where
    by : (items : List Item) → BeginsWithBox items →
        (item : Item) × ((slice_get items 0 ≡ Some item) × (is_box item ≡ true))
    by [] b = absurd b
    by (item ∷ items) b = (item, (refl, b))

block_at : (blocks : List Block) (b : ℕ) → AllByRecursion IsBlock blocks → IfSome (slice_get blocks b) IsBlock
block_at [] b a = tt
block_at (x ∷ blocks) zero a = a.0
block_at (x ∷ blocks) (suc b) a = block_at blocks b a.1

front_none : (blocks : List Block) (b pick : ℕ) (v : Variant) → AllByRecursion IsBlock blocks →
    slice_get (variants_at blocks b) pick ≡ Some v → place_penalty blocks (place b 0 0) ≡ None
front_none blocks b pick v all there =
    let first = first_box (slice_get blocks b) pick v (block_at blocks b all) there in
    ap (λ (o : Option Item). near_penalty o (solid_before blocks (place b 0 0)) (glue_after blocks (place b 0 0)))
    first.1.0 ∙ box_none first.0 _ _ first.1.1

-- ---- ends

module _ (doc : Document) (top : ℤ) (all : AllByRecursion IsBlock doc.blocks) (from : Place)
    (at : IsPlace doc.blocks from) where
  -- up to a front: in a block before it, or there
  pub up_to : (c : Candidate) → IsAmong c (first_ends doc top from) →
      (c.to.block < first_front doc.blocks from) ⊎ (c.to ≡ place (first_front doc.blocks from) 0 0)
  up_to c a = by l.stands
    where
      l : IsAlong doc top all from at [] (pos 0) (first_front doc.blocks from) nothing (first_items doc.blocks from) c
      l = listed_along doc top all from at [] (pos 0) (first_front doc.blocks from) nothing (first_items doc.blocks from) c a

      is : c.to ≡ l.to
      is = ap (λ (x : Candidate). x.to) l.is

      by : StandsIn (first_items doc.blocks from) (first_front doc.blocks from) l.k l.to →
          (c.to.block < first_front doc.blocks from) ⊎ (c.to ≡ place (first_front doc.blocks from) 0 0)
      by (inl (x, (e, s))) =
          let h = (get_all (IsBefore (first_front doc.blocks from)) (first_items doc.blocks from) l.k x
          (first_before doc.blocks from) e).before in
          let t = ap (λ (p : Place). p.block) (is ∙ sym s) in inl (omega (arith, h, t))
      by (inr (k, s)) = inr (is ∙ s)

  -- along a pick: behind the front
  pub past_front : (picks : List ℕ) (d : ℤ) (b pick : ℕ) (v : Variant) (p : Passed) (c : Candidate) →
      slice_get (variants_at doc.blocks b) pick ≡ Some v →
      IsAmong c (ends_along doc top picks d (place (picked_front doc.blocks b) 0 0) p (picked_stretch doc.blocks b pick)) →
      IsPast b c.to
  past_front picks d b pick v p c there a = by l.stands
    where
      l : IsAlong doc top all from at picks d (picked_front doc.blocks b) p (picked_stretch doc.blocks b pick) c
      l = listed_along doc top all from at picks d (picked_front doc.blocks b) p (picked_stretch doc.blocks b pick) c a

      is : c.to ≡ l.to
      is = ap (λ (x : Candidate). x.to) l.is

      no_break : l.to ≡ place b 0 0 → ⊥
      no_break e =
          let some = (both_of l.passed.totals.has_box (is_some (place_penalty doc.blocks l.to)) l.ends).1 in
          let none = ap (λ (at : Place). is_some (place_penalty doc.blocks at)) e
          ∙ ap is_some (front_none doc.blocks b pick v all there) in
          let f : true ≡ false = sym some ∙ none in cc

      cases : (x : FlatItem) → x.place ≡ l.to → (x.place ≡ place b 0 0) ⊎ IsPast b x.place → IsPast b c.to
      cases x s (inl e) = absurd (no_break (sym s ∙ e))
      cases x s (inr h) = subst (IsPast b) (s ∙ sym is) h

      by : StandsIn (picked_stretch doc.blocks b pick) (picked_front doc.blocks b) l.k l.to → IsPast b c.to
      by (inl (x, (e, s))) = cases x s (get_all (IsFrom b) (picked_stretch doc.blocks b pick) l.k x
          (picked_from doc.blocks b pick) e).from
      by (inr (k, s)) =
          let m = front_behind (b + 1) (drop (b + 1) doc.blocks) in
          let t = ap (λ (p : Place). p.block) (is ∙ s) in inl (omega (arith, m, t))

-- from a front that is no later they are behind it too
pub past_lower : (low b : ℕ) (to : Place) → low ≤ b → IsPast b to → IsPast low to
past_lower low b to h (inl l) = inl (omega (arith, h, l))
past_lower low b to h (inr (l, i)) = inr (omega (arith, h, l), i)

-- what is up to a front is before what is behind it
pub in_turn : (b : ℕ) (c d : Place) → (c.block < b) ⊎ (c ≡ place b 0 0) → IsPast b d → place_cmp c d ≡ Less
in_turn b c d (inl h) past = lower (least past)
  where
    least : IsPast b d → c.block < d.block
    least (inl l) = omega (arith, h, l)
    least (inr (l, i)) = omega (arith, h, l)

    lower : c.block < d.block → place_cmp c d ≡ Less
    lower l = ap (λ (o : Ordering). ordering_then o
        (ordering_then (nat_cmp c.variant d.variant) (nat_cmp c.index d.index))) (sym (nat_cmp_is c.block d.block Less l))
in_turn b c d (inr e) past = subst (λ (x : Place). place_cmp x d ≡ Less) (sym e) (at_front past)
  where
    later : b < d.block → place_cmp (place b 0 0) d ≡ Less
    later l = ap (λ (o : Ordering). ordering_then o (ordering_then (nat_cmp 0 d.variant) (nat_cmp 0 d.index)))
        (sym (nat_cmp_is b d.block Less l))

    inside : 1 ≤ d.index → (v : ℕ) → ordering_then (nat_cmp 0 v) (nat_cmp 0 d.index) ≡ Less
    inside i zero = sym (nat_cmp_is 0 d.index Less (omega (arith, i)))
    inside i (suc v) = ap (λ (o : Ordering). ordering_then o (nat_cmp 0 d.index))
        (sym (nat_cmp_is 0 (suc v) Less (omega arith)))

    at_front : IsPast b d → place_cmp (place b 0 0) d ≡ Less
    at_front (inl l) = later l
    at_front (inr (l, i)) = by (nat_cmp b d.block) refl
      where
        by : (o : Ordering) → nat_cmp b d.block ≡ o → place_cmp (place b 0 0) d ≡ Less
        by Less e = ap (λ (o : Ordering). ordering_then o (ordering_then (nat_cmp 0 d.variant) (nat_cmp 0 d.index))) e
        by Equal e = ap (λ (o : Ordering). ordering_then o (ordering_then (nat_cmp 0 d.variant) (nat_cmp 0 d.index))) e
            ∙ inside i d.variant
        by Greater e = let m = ranked b d.block Greater (sym e) in absurd (omega (arith, l, m))
