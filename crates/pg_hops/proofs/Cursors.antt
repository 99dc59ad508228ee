-- A cursor goes through the items of its stretch.
use Rattle.std.proofs.Common.{◌≡◌, refl, sym, ap, ◌∙◌, ℕ, zero, suc, ◌+◌, ◌≤◌, ◌<◌, ◌^◌, List, [], ◌∷◌, ◌++◌, length, drop, arith, Bool, true, false, Option, Some, None}
use Rattle.std.specs.Prelude.{◌&&◌, ◌==◌, not, if◌then◌else◌, is_none, slice_get, unwrap_or, option_map}
use Rattle.std.specs.List.{AllByRecursion}
use Rattle.std.proofs.lemmas.Option.{same_Some}
use Rattle.pg_list.specs.Counts.{item_count}
use Rattle.pg_list.specs.declared.item.Item.{Item}
use Rattle.pg_list.specs.declared.blocks.Block.{Block}
use Rattle.pg_list.specs.declared.blocks.Block.TheVariants.{One, Choice}
use Rattle.pg_list.specs.declared.galley.Place.{Place}
use Rattle.pg_list.specs.Places.{item_at, items_around, picked_items, place}
use Rattle.pg_list.specs.Ranges.{IsItemInRange}
use Rattle.pg_list.specs.Shapes.{IsBlock}
use Rattle.pg_list.specs.Flat.{FlatItem, variant_flat_items}
use Rattle.pg_breaks.proofs.Lists.{get_lt}
use Rattle.pg_column.proofs.Ahead.{at_front, drop_at, inside, none_inside}
use Rattle.pg_column.proofs.Spans.{index_small, item_range}
use Rattle.pg_lemmas.proofs.Numbers.{suc_not}
use Rattle.law_walk.specs.Walk.{first_front, first_items, next_front, singles}
use Rattle.pg_hops.specs.declared.cursor.Cursor.{Cursor}
use Rattle.pg_hops.specs.Ahead.{IsSettled, before, begun, front_ahead, is_behind, item_ahead, items_ahead, place_ahead, settled, single_in, stepped}

-- ---- the items of a variant

abbrev item_in : Cursor → Item → FlatItem
item_in c item = record { place = place_ahead c; item = item; is_front = c.is_inner && (c.index == 0) }

variant_next : (b v : ℕ) (items : List Item) (i : ℕ) (item : Item) → slice_get items i ≡ Some item →
    drop i (variant_flat_items b v items)
    ≡ item_in (record { block = b; variant = v; index = i; is_inner = true }) item
    ∷ drop (i + 1) (variant_flat_items b v items)
variant_next b v items zero item e = at_front b v items item e
variant_next b v items (suc j) item e = inside b v j items item e
    ∙ ap (λ (f : Bool). record { place = if not f then place b v (suc j) else place b 0 0; item = item; is_front = f }
    ∷ drop (suc j + 1) (variant_flat_items b v items)) (sym (suc_not j))

variant_left : (b v : ℕ) (items : List Item) (i : ℕ) → slice_get items i ≡ None →
    drop i (variant_flat_items b v items) ≡ []
variant_left b v [] zero e = refl
variant_left b v (x ∷ items) zero e = absurd cc
variant_left b v items (suc j) e = none_inside b v j items e

-- ---- blocks of one item

pub single_got : (blocks : List Block) (b : ℕ) (item : Item) → single_in (slice_get blocks b) ≡ Some item →
    slice_get blocks b ≡ Some (One item)
single_got blocks b item = by (slice_get blocks b)
  where
    by : (o : Option Block) → single_in o ≡ Some item → o ≡ Some (One item)
    by None e = absurd cc
    by (Some (One x)) e = ap (λ (y : Item). Some (One y)) (same_Some x item e)
    by (Some (Choice variants)) e = absurd cc

pub single_item : (blocks : List Block) (b : ℕ) (item : Item) → slice_get blocks b ≡ Some (One item) →
    item_at blocks (place b 0 0) ≡ Some item
single_item blocks b item e = ap (λ (o : Option Block).
    slice_get (unwrap_or (option_map (λ (block : Block). picked_items block 0) o) []) 0) e

single_none : (blocks : List Block) (b n : ℕ) → single_in (slice_get blocks b) ≡ None →
    (singles n (drop b blocks) ≡ []) × (next_front n (drop b blocks) ≡ n)
single_none [] zero n e = (refl, refl)
single_none [] (suc b) n e = (refl, refl)
single_none (One x ∷ blocks) zero n e = absurd cc
single_none (Choice variants ∷ blocks) zero n e = (refl, refl)
single_none (x ∷ blocks) (suc b) n e = single_none blocks b n e

-- ---- settled

pub is_settled : (blocks : List Block) (c : Cursor) → IsSettled blocks (settled blocks c)
is_settled blocks c = by (is_behind blocks c) refl
  where
    by : (t : Bool) → is_behind blocks c ≡ t → IsSettled blocks (if t then before (c.block + 1) else c)
    by true e = refl
    by false e = e

module _ (blocks : List Block) (b v i : ℕ) where
  abbrev within : Cursor
  within = record { block = b; variant = v; index = i; is_inner = true }

  inner_left : item_at blocks (place b v i) ≡ None → items_ahead blocks within ≡ items_ahead blocks (before (b + 1))
  inner_left e = ap (λ (xs : List FlatItem). xs ++ singles (b + 1) (drop (b + 1) blocks))
      (variant_left b v (items_around blocks (place b v 0)) i e)

  inner_next : (item : Item) → item_at blocks (place b v i) ≡ Some item →
      items_ahead blocks within ≡ item_in within item ∷ items_ahead blocks (stepped within)
  inner_next item e = ap (λ (xs : List FlatItem). xs ++ singles (b + 1) (drop (b + 1) blocks))
      (variant_next b v (items_around blocks (place b v 0)) i item e)

pub settled_items : (blocks : List Block) (c : Cursor) → items_ahead blocks (settled blocks c) ≡ items_ahead blocks c
settled_items blocks c = by c.block c.variant c.index c.is_inner
  where
    by : (b v i : ℕ) (t : Bool) →
        items_ahead blocks (settled blocks (record { block = b; variant = v; index = i; is_inner = t }))
        ≡ items_ahead blocks (record { block = b; variant = v; index = i; is_inner = t })
    by b v i false = refl
    by b v i true = left (item_at blocks (place b v i)) refl
      where
        left : (o : Option Item) → item_at blocks (place b v i) ≡ o →
            items_ahead blocks (if is_none o then before (b + 1) else within blocks b v i)
            ≡ items_ahead blocks (within blocks b v i)
        left None e = sym (inner_left blocks b v i e)
        left (Some item) e = refl

pub settled_front : (blocks : List Block) (c : Cursor) → front_ahead blocks (settled blocks c) ≡ front_ahead blocks c
settled_front blocks c = by c.block c.variant c.index c.is_inner
  where
    by : (b v i : ℕ) (t : Bool) →
        front_ahead blocks (settled blocks (record { block = b; variant = v; index = i; is_inner = t }))
        ≡ front_ahead blocks (record { block = b; variant = v; index = i; is_inner = t })
    by b v i false = refl
    by b v i true = left (is_none (item_at blocks (place b v i)))
      where
        left : (n : Bool) → front_ahead blocks (if n then before (b + 1) else within blocks b v i)
            ≡ front_ahead blocks (within blocks b v i)
        left true = refl
        left false = refl

-- ---- one item on

-- the next item is the first of those ahead
pub ahead_is : (blocks : List Block) (c : Cursor) (item : Item) → item_ahead blocks c ≡ Some item →
    items_ahead blocks c ≡ item_in c item ∷ items_ahead blocks (settled blocks (stepped c))
ahead_is blocks c item e = by c.block c.variant c.index c.is_inner e
    ∙ ap (λ xs. item_in c item ∷ xs) (sym (settled_items blocks (stepped c)))
  where
    by : (b v i : ℕ) (t : Bool) →
        item_ahead blocks (record { block = b; variant = v; index = i; is_inner = t }) ≡ Some item →
        items_ahead blocks (record { block = b; variant = v; index = i; is_inner = t })
        ≡ item_in (record { block = b; variant = v; index = i; is_inner = t }) item
        ∷ items_ahead blocks (stepped (record { block = b; variant = v; index = i; is_inner = t }))
    by b v i true e = inner_next blocks b v i item e
    by b v i false e = ap (singles b) (drop_at b blocks (One item) (single_got blocks b item e))

pub front_is : (blocks : List Block) (c : Cursor) (item : Item) → item_ahead blocks c ≡ Some item →
    front_ahead blocks (settled blocks (stepped c)) ≡ front_ahead blocks c
front_is blocks c item e = settled_front blocks (stepped c) ∙ by c.block c.variant c.index c.is_inner e
  where
    by : (b v i : ℕ) (t : Bool) →
        item_ahead blocks (record { block = b; variant = v; index = i; is_inner = t }) ≡ Some item →
        front_ahead blocks (stepped (record { block = b; variant = v; index = i; is_inner = t }))
        ≡ front_ahead blocks (record { block = b; variant = v; index = i; is_inner = t })
    by b v i true e = refl
    by b v i false e = sym (ap (next_front b) (drop_at b blocks (One item) (single_got blocks b item e)))

-- where no item is left the cursor is before the front
pub record IsDone (blocks : List Block) (c : Cursor) : Type 0 where
  pub items : items_ahead blocks c ≡ []
  pub front : front_ahead blocks c ≡ c.block
  pub here : place_ahead c ≡ place c.block 0 0

pub done : (blocks : List Block) (c : Cursor) → IsSettled blocks c → item_ahead blocks c ≡ None → IsDone blocks c
done blocks c s e = by c.block c.variant c.index c.is_inner s e
  where
    by : (b v i : ℕ) (t : Bool) → IsSettled blocks (record { block = b; variant = v; index = i; is_inner = t }) →
        item_ahead blocks (record { block = b; variant = v; index = i; is_inner = t }) ≡ None →
        IsDone blocks (record { block = b; variant = v; index = i; is_inner = t })
    by b v i true s e = absurd (let k : true ≡ false = sym (ap is_none e) ∙ s in cc)
    by b v i false s e = record {
      items = (single_none blocks b b e).0;
      front = (single_none blocks b b e).1;
      here = refl;
    }

-- ---- ranges

pub item_in_range : (blocks : List Block) → AllByRecursion IsBlock blocks → (c : Cursor) (item : Item) →
    item_ahead blocks c ≡ Some item → IsItemInRange item
item_in_range blocks all c item e = by c.block c.variant c.index c.is_inner e
  where
    by : (b v i : ℕ) (t : Bool) →
        item_ahead blocks (record { block = b; variant = v; index = i; is_inner = t }) ≡ Some item → IsItemInRange item
    by b v i true e = item_range blocks all (place b v i) item e
    by b v i false e = item_range blocks all (place b 0 0) item (single_item blocks b item (single_got blocks b item e))

pub few_blocks : (blocks : List Block) (b v i : ℕ) (item : Item) → item_at blocks (place b v i) ≡ Some item →
    b < length blocks
few_blocks blocks b v i item e = by (slice_get blocks b) refl e
  where
    by : (o : Option Block) → slice_get blocks b ≡ o →
        slice_get (unwrap_or (option_map (λ (block : Block). picked_items block v) o) []) i ≡ Some item →
        b < length blocks
    by None g f = absurd cc
    by (Some block) g f = get_lt blocks b block g

pub few : (blocks : List Block) → length blocks ≤ 2 ^ 20 → item_count blocks ≤ 2 ^ 20 → (c : Cursor) (item : Item) →
    item_ahead blocks c ≡ Some item → (c.block < 2 ^ 20) × (c.is_inner ≡ true → c.index < 2 ^ 20)
few blocks short count c item e = by c.block c.variant c.index c.is_inner e
  where
    by : (b v i : ℕ) (t : Bool) →
        item_ahead blocks (record { block = b; variant = v; index = i; is_inner = t }) ≡ Some item →
        (b < 2 ^ 20) × (t ≡ true → i < 2 ^ 20)
    by b v i true e = (
      let h = few_blocks blocks b v i item e in omega (arith, h, short),
      λ t. index_small blocks (place b v i) item count e,
    )
    by b v i false e = (
      let h = get_lt blocks b (One item) (single_got blocks b item e) in omega (arith, h, short),
      λ t. absurd cc,
    )

-- ---- from a place on

pub begun_items : (blocks : List Block) (from : Place) →
    items_ahead blocks (settled blocks (begun from)) ≡ first_items blocks from
begun_items blocks from = settled_items blocks (begun from) ∙ cases (from.index == 0)
  where
    cases : (t : Bool) → items_ahead blocks (if t then before from.block
        else record { block = from.block; variant = from.variant; index = from.index; is_inner = true })
        ≡ (if t then singles from.block (drop from.block blocks)
        else drop from.index (variant_flat_items from.block from.variant (items_around blocks from))
        ++ singles (from.block + 1) (drop (from.block + 1) blocks))
    cases true = refl
    cases false = refl
