-- What stands at a place of a flat list.
use Rattle.std.proofs.Common.{◌≡◌, refl, sym, ap, ◌∙◌, subst, ℕ, zero, suc, ◌+◌, ◌-◌, ◌<◌, ◌≤◌, List, [], ◌∷◌, ◌++◌, length, drop, arith, Bool, true, false, Option, Some, None, IsTrue, ◌⊎◌, inl, inr}
use Rattle.std.specs.Prelude.{slice_get, not, IsSomeAnd}
use Rattle.std.specs.Option.{option_map_or}
use Rattle.std.specs.List.{AllByRecursion}
use Rattle.pg_list.specs.declared.item.Item.{Item}
use Rattle.pg_list.specs.declared.variants.Variant.{Variant}
use Rattle.pg_list.specs.declared.blocks.Block.{Block}
use Rattle.pg_list.specs.declared.blocks.Block.TheVariants.{One, Choice}
use Rattle.pg_list.specs.declared.galley.Place.{Place}
use Rattle.pg_list.specs.Places.{place, picked_items, items_around}
use Rattle.pg_list.specs.Shapes.{is_box, is_discardable, BeginsWithBox, EndsSolid, IsBlock, IsVariant, IsChoice}
use Rattle.pg_list.specs.Flat.{FlatItem, flat_items_from, later_flat_items, variant_flat_items}
use Rattle.pg_breaks.proofs.Listed.{listed, ArePicks}
use Rattle.pg_list.specs.Places.{is_solid_block}
use Rattle.pg_breaks.specs.Near.{index_follows}
use Rattle.pg_breaks.proofs.Lists.{is_solid, follows, get_right, get_split, get_lt, drop_left, drop_right}
use Rattle.pg_lemmas.proofs.Lists.{get_left}

-- the items of the variant v of the block j
abbrev pub around : List Block → ℕ → ℕ → List Item
around blocks j v = items_around blocks (place j v 0)

-- what stands at an offset of the list is what stands at a place of the blocks; at the front of a choice, a box stands in either
pub data Seen (s t : Bool) (list : List Item) (k : ℕ) (blocks : List Block) (j v i : ℕ) : Type 0 where
  inside : (item : Item) (picks : List ℕ) → slice_get list k ≡ Some item →
      slice_get (around blocks j v) i ≡ Some item →
      follows s list k ≡ index_follows t blocks (around blocks j v) j i →
      drop (suc k) list ≡ drop (suc i) (around blocks j v) ++ listed (drop (suc j) blocks) picks →
      AllByRecursion IsBlock (drop (suc j) blocks) → ArePicks (drop (suc j) blocks) picks →
      Seen s t list k blocks j v i
  front : (item other : Item) → slice_get list k ≡ Some item → is_box item ≡ true →
      slice_get (around blocks j v) i ≡ Some other → is_box other ≡ true → Seen s t list k blocks j v i

-- the items of a variant that a pick names
pub picked_shape : (variants : List Variant) (v : ℕ) → AllByRecursion IsVariant variants → v < length variants →
    BeginsWithBox (picked_items (Choice variants) v) × EndsSolid (picked_items (Choice variants) v)
picked_shape [] v all h = absurd (omega (arith, h))
picked_shape (w ∷ ws) zero all h = (all.0.begins, all.0.ends)
picked_shape (w ∷ ws) (suc v) all h = picked_shape ws v all.1 (omega (arith, h))

box_first : (items : List Item) → BeginsWithBox items →
    (b : Item) × (rest : List Item) × (items ≡ b ∷ rest) × (is_box b ≡ true)
box_first [] h = elim h [ ]
box_first (b ∷ rest) h = (b, rest, refl, cc)

last_solid : (o : Option Item) → IsSomeAnd o (λ item. IsTrue (not (is_discardable item))) →
    option_map_or is_solid o false ≡ true
last_solid None h = elim h [ ]
last_solid (Some item) h = cc

-- behind items that end solid
pub follows_right : (first : Bool) (items list : List Item) (m k : ℕ) → EndsSolid items → m ≡ length items + k →
    follows first (items ++ list) m ≡ follows true list k
follows_right first [] list m k solid e = elim solid [ ]
follows_right first (x ∷ items) list zero k solid e = absurd (omega (arith, e))
follows_right first (x ∷ items) list (suc m) zero solid e =
    let at : m ≡ length (x ∷ items) - 1 = omega (arith, e) in
    let lt : m < length (x ∷ items) = omega (arith, e) in
    ap (λ o. option_map_or is_solid o false) (get_left (x ∷ items) list m lt ∙ ap (slice_get (x ∷ items)) at)
    ∙ last_solid _ solid
follows_right first (x ∷ items) list (suc m) (suc k) solid e =
    ap (λ o. option_map_or is_solid o false) (get_right (x ∷ items) list m k (omega (arith, e)))

follows_cons : (first : Bool) (item : Item) (list : List Item) (k : ℕ) →
    follows first (item ∷ list) (suc k) ≡ follows (is_solid item) list k
follows_cons first item list zero = refl
follows_cons first item list (suc k) = refl

pub index_follows_cons : (first : Bool) (b : Block) (blocks : List Block) (items : List Item) (j i : ℕ) →
    index_follows first (b ∷ blocks) items (suc j) i ≡ index_follows (is_solid_block b) blocks items j i
index_follows_cons first b blocks items zero zero = refl
index_follows_cons first b blocks items (suc j) zero = refl
index_follows_cons first b blocks items j (suc i) = refl

pub later_place : (n v i : ℕ) (items : List Item) (k : ℕ) (flat_item : FlatItem) →
    slice_get (later_flat_items n v i items) k ≡ Some flat_item →
    (flat_item.place ≡ place n v (i + k)) × (slice_get items k ≡ Some flat_item.item)
later_place n v i [] k flat_item e = absurd (cc)
later_place n v i (item ∷ items) zero flat_item e =
    let s : record { place = place n v i; item = item; is_front = false } ≡ flat_item = cc in (
      sym (ap (λ (t : FlatItem). t.place) s) ∙ ap (λ x. place n v x) (omega arith),
      ap (λ (t : FlatItem). Some t.item) s,
    )
later_place n v i (item ∷ items) (suc k) flat_item e =
    let h = later_place n v (i + 1) items k flat_item e in
    (h.0 ∙ ap (λ x. place n v x) (omega arith), h.1)

pub later_length : (n v i : ℕ) (items : List Item) → length (later_flat_items n v i items) ≡ length items
later_length n v i [] = refl
later_length n v i (item ∷ items) = ap suc (later_length n v (i + 1) items)

pub variant_length : (n v : ℕ) (items : List Item) → length (variant_flat_items n v items) ≡ length items
variant_length n v [] = refl
variant_length n v (item ∷ items) = ap suc (later_length n v 1 items)

-- the front of a choice, or a further item of the variant
pub variant_at : (n v : ℕ) (items : List Item) (k : ℕ) (flat_item : FlatItem) → BeginsWithBox items →
    slice_get (variant_flat_items n v items) k ≡ Some flat_item →
    ((item : Item) × (k ≡ 0) × (flat_item.place ≡ place n 0 0) × (slice_get items k ≡ Some item)
    × (is_box item ≡ true)) ⊎ ((m : ℕ) × (k ≡ suc m) × (flat_item.place ≡ place n v k)
    × (slice_get items k ≡ Some flat_item.item))
variant_at n v [] k flat_item box e = elim box [ ]
variant_at n v (item ∷ items) zero flat_item box e =
    let s : record { place = place n 0 0; item = item; is_front = true } ≡ flat_item = cc in
    inl (item, refl, sym (ap (λ (t : FlatItem). t.place) s), refl, cc)
variant_at n v (item ∷ items) (suc k) flat_item box e =
    let h = later_place n v 1 items k flat_item e in
    inr (k, refl, h.0 ∙ ap (λ x. place n v x) (omega arith), h.1)

-- what is seen in the blocks behind one item, or behind a choice
pub seen_one : (first : Bool) (item : Item) (list : List Item) (k : ℕ) (blocks : List Block) (j v i : ℕ) →
    Seen (is_solid item) (is_solid item) list k blocks j v i →
    Seen first first (item ∷ list) (suc k) (One item ∷ blocks) (suc j) v i
seen_one first item list k blocks j v i seen = elim seen [
  | inside it picks a b c d e f ↦
      inside it picks a b (follows_cons first item list k ∙ c
      ∙ sym (index_follows_cons first (One item) blocks (around blocks j v) j i)) d e f
  | front it other a b c d ↦ front it other a b c d
]

pub seen_choice : (first : Bool) (variants : List Variant) (items list : List Item) (m k : ℕ) (blocks : List Block)
    (j v i : ℕ) → EndsSolid items → m ≡ length items + k → Seen true true list k blocks j v i →
    Seen first first (items ++ list) m (Choice variants ∷ blocks) (suc j) v i
seen_choice first variants items list m k blocks j v i solid at seen =
    let more : suc m ≡ length items + suc k = omega (arith, at) in
    elim seen [
      | inside it picks a b c d e f ↦
          inside it picks (get_right items list m k at ∙ a) b (follows_right first items list m k solid at ∙ c
          ∙ sym (index_follows_cons first (Choice variants) blocks (around blocks j v) j i))
          (drop_right items list (suc m) (suc k) more ∙ d) e f
      | front it other a b c d ↦ front it other (get_right items list m k at ∙ a) b c d
    ]

-- within a variant, behind its front
seen_within : (first : Bool) (variants : List Variant) (v m : ℕ) (blocks : List Block) (picks : List ℕ)
    (item : Item) → slice_get (picked_items (Choice variants) v) (suc m) ≡ Some item →
    AllByRecursion IsBlock blocks → ArePicks blocks picks →
    Seen first first (picked_items (Choice variants) v ++ listed blocks picks) (suc m)
    (Choice variants ∷ blocks) 0 v (suc m)
seen_within first variants v m blocks picks item e all ok =
    let items : List Item = picked_items (Choice variants) v in
    let lt : suc m < length items = get_lt items (suc m) item e in
    let less : m < length items = omega (arith, lt) in
    let upto : suc (suc m) ≤ length items = omega (arith, lt) in
    inside item picks (get_left items (listed blocks picks) (suc m) lt ∙ e) e
    (ap (λ o. option_map_or is_solid o false) (get_left items (listed blocks picks) m less))
    (drop_left items (listed blocks picks) (suc (suc m)) upto) all ok

-- the block of a place, counted from n, and what is seen there
pub record SeenFrom (first : Bool) (list : List Item) (k n : ℕ) (blocks : List Block) (at : Place) : Type 0 where
  pub j : ℕ
  pub block : at.block ≡ n + j
  pub seen : Seen first first list k blocks j at.variant at.index

seen_in_choice : (first : Bool) (n v k : ℕ) (variants : List Variant) (blocks : List Block) (picks : List ℕ)
    (flat_item : FlatItem) → IsChoice variants → v < length variants → AllByRecursion IsBlock blocks →
    ArePicks blocks picks →
    ((m : ℕ) → slice_get (flat_items_from (n + 1) blocks picks) m ≡ Some flat_item →
    SeenFrom true (listed blocks picks) m (n + 1) blocks flat_item.place) →
    slice_get (variant_flat_items n v (picked_items (Choice variants) v) ++ flat_items_from (n + 1) blocks picks) k
    ≡ Some flat_item →
    SeenFrom first (picked_items (Choice variants) v ++ listed blocks picks) k n
    (Choice variants ∷ blocks) flat_item.place
seen_in_choice first n v k variants blocks picks flat_item choice some all ok more e =
    let items : List Item = picked_items (Choice variants) v in
    let shape = picked_shape variants v choice.shape.each some in
    let some-first : 0 < length variants = omega (arith, some) in
    let shape-first = picked_shape variants 0 choice.shape.each some-first in
    elim (get_split (variant_flat_items n v items) (flat_items_from (n + 1) blocks picks) k flat_item e) [
      | inl here ↦ elim (variant_at n v items k flat_item shape.0 here) [
        | inl (item, k-is, place-is, got, box) ↦
            let b = box_first (picked_items (Choice variants) 0) shape-first.0 in
            let P : Place → Type 0 =
            λ at. SeenFrom first (items ++ listed blocks picks) k n (Choice variants ∷ blocks) at in
            subst P (sym place-is) (record {
              j = 0;
              block = omega arith;
              seen = front item b.0 (get_left items (listed blocks picks) k (get_lt items k item got) ∙ got) box
                  (ap (λ (xs : List Item). slice_get xs 0) b.2) b.3;
            })
        | inr (m, k-is, place-is, got) ↦
            let P : Place → Type 0 =
            λ at. SeenFrom first (items ++ listed blocks picks) k n (Choice variants ∷ blocks) at in
            let Q : ℕ → Type 0 = λ m. Seen first first (items ++ listed blocks picks) m
            (Choice variants ∷ blocks) 0 v m in
            let got-at : slice_get items (suc m) ≡ Some flat_item.item = ap (slice_get items) (sym k-is) ∙ got in
            subst P (sym place-is) (record {
              j = 0;
              block = omega arith;
              seen = subst Q (sym k-is) (seen_within first variants v m blocks picks flat_item.item got-at all ok);
            })
      ]
      | inr (m, at, there) ↦
          let next = more m there in
          let at-items : k ≡ length items + m = at ∙ ap (λ x. x + m) (variant_length n v items) in
          record {
            j = suc next.j;
            block = omega (arith, next.block);
            seen = seen_choice first variants items
                (listed blocks picks) k m blocks next.j flat_item.place.variant flat_item.place.index shape.1
                at-items next.seen;
          }
    ]

pub seen_from : (first : Bool) (n k : ℕ) (blocks : List Block) (picks : List ℕ) (flat_item : FlatItem) →
    AllByRecursion IsBlock blocks → ArePicks blocks picks →
    slice_get (flat_items_from n blocks picks) k ≡ Some flat_item →
    SeenFrom first (listed blocks picks) k n blocks flat_item.place
seen_from first n k [] picks flat_item all ok e = absurd (cc)
seen_from first n zero (One item ∷ blocks) picks flat_item all ok e =
    let s : record { place = place n 0 0; item = item; is_front = false } ≡ flat_item = cc in
    let P : Place → Type 0 = λ at. SeenFrom first (item ∷ listed blocks picks) 0 n (One item ∷ blocks) at in
    subst P (ap (λ (t : FlatItem). t.place) s)
    (record { j = 0; block = omega arith; seen = inside item picks refl refl refl refl all.1 ok })
seen_from first n (suc k) (One item ∷ blocks) picks flat_item all ok e =
    let next = seen_from (is_solid item) (n + 1) k blocks picks flat_item all.1 ok e in
    record {
      j = suc next.j;
      block = omega (arith, next.block);
      seen =
          seen_one first item (listed blocks picks) k blocks next.j flat_item.place.variant flat_item.place.index
          next.seen;
    }
seen_from first n k (Choice variants ∷ blocks) [] flat_item all ok e =
    let some : 0 < length variants = omega (arith, all.0.shape.some) in
    seen_in_choice first n 0 k variants blocks [] flat_item all.0 some all.1 ok
    (λ m got. seen_from true (n + 1) m blocks [] flat_item all.1 ok got) e
seen_from first n k (Choice variants ∷ blocks) (pick ∷ picks) flat_item all ok e =
    seen_in_choice first n pick k variants blocks picks flat_item all.0 ok.0 all.1 ok.1
    (λ m got. seen_from true (n + 1) m blocks picks flat_item all.1 ok.1 got) e
