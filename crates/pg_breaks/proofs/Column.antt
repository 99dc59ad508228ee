-- What stands at a place of the items from another place on.
use Rattle.std.proofs.Common.{◌≡◌, refl, sym, ap, ◌∙◌, subst, ℕ, zero, suc, ◌+◌, ◌-◌, ◌<◌, ◌≤◌, List, [], ◌∷◌, ◌++◌, length, map, drop, arith, add-one, Bool, true, false, Option, Some, IsTrue, ◌⊎◌, inl, inr}
use Rattle.std.specs.Prelude.{slice_get, not, IsSomeAnd, ◌==◌, nat_lt, if◌then◌else◌}
use Rattle.std.specs.Option.{option_map_or}
use Rattle.std.specs.List.{AllByRecursion}
use Rattle.std.proofs.lemmas.Bool.Decides.{nat_tests}
use Rattle.std.proofs.lemmas.List.{map-append}
use Rattle.pg_list.specs.declared.item.Item.{Item}
use Rattle.pg_list.specs.declared.variants.Variant.{Variant}
use Rattle.pg_list.specs.declared.blocks.Block.{Block}
use Rattle.pg_list.specs.declared.blocks.Block.TheVariants.{One, Choice}
use Rattle.pg_list.specs.declared.galley.Place.{Place}
use Rattle.pg_list.specs.Places.{place, picked_items, is_solid_block}
use Rattle.pg_list.specs.Shapes.{is_discardable, EndsSolid, IsBlock}
use Rattle.pg_list.specs.Break.{has_at}
use Rattle.pg_list.specs.Flat.{FlatItem, flat_items_from, variant_flat_items, flat_items_at, blocks_at}
use Rattle.pg_breaks.specs.Near.{front_follows}
use Rattle.pg_breaks.specs.Read.{items_at}
use Rattle.pg_breaks.proofs.Listed.{listed, ArePicks, shown, variant_shown, blocks_shown}
use Rattle.pg_breaks.proofs.Lists.{is_solid, follows, get_right, get_split, get_lt, drop_left, drop_right}
use Rattle.pg_breaks.proofs.Walk.{Seen, inside, front, around, picked_shape, seen_from, later_place, follows_right, index_follows_cons}
use Rattle.pg_lemmas.proofs.Numbers.{suc_not}
use Rattle.pg_lemmas.proofs.Lists.{drop_past, get_left}

-- ---- lists

get_drop : {X : Type 0} (n : ℕ) (xs : List X) (k : ℕ) → slice_get (drop n xs) k ≡ slice_get xs (n + k)
get_drop zero xs k = ap (slice_get xs) (omega arith)
get_drop (suc n) [] k = refl
get_drop (suc n) (x ∷ xs) k = get_drop n xs k ∙ sym (ap (slice_get (x ∷ xs)) (more n k))
  where
    more : (n k : ℕ) → suc n + k ≡ suc (n + k)
    more n k = omega arith

drop_twice : {X : Type 0} (n m : ℕ) (xs : List X) → drop m (drop n xs) ≡ drop (n + m) xs
drop_twice zero m xs = ap (λ k. drop k xs) (omega arith)
drop_twice (suc n) m [] = drop-nil m ∙ sym (drop-nil (suc n + m))
  where
    drop-nil : {X : Type 0} (i : ℕ) → ◌≡◌ {A = List X} (drop i []) []
    drop-nil zero = refl
    drop-nil (suc i) = refl
drop_twice (suc n) m (x ∷ xs) = drop_twice n m xs ∙ sym (ap (λ k. drop k (x ∷ xs)) (more n m))
  where
    more : (n k : ℕ) → suc n + k ≡ suc (n + k)
    more n k = omega arith

map_drop : {X Y : Type 0} (f : X → Y) (n : ℕ) (xs : List X) → map f (drop n xs) ≡ drop n (map f xs)
map_drop f zero xs = refl
map_drop f (suc n) [] = refl
map_drop f (suc n) (x ∷ xs) = map_drop f n xs

pub all_drop : (P : Block → Type 0) (n : ℕ) (blocks : List Block) → AllByRecursion P blocks →
    AllByRecursion P (drop n blocks)
all_drop P zero blocks a = a
all_drop P (suc n) [] a = tt
all_drop P (suc n) (x ∷ xs) a = all_drop P n xs a.1

solid_drop : (items : List Item) (n : ℕ) → n < length items → EndsSolid items → EndsSolid (drop n items)
solid_drop items n h solid =
    let P : Option Item → Type 0 = λ o. IsSomeAnd o (λ item. IsTrue (not (is_discardable item))) in
    let long : length (drop n items) ≡ length items - n = length-dropped n items in
    let at : n + (length (drop n items) - 1) ≡ length items - 1 = omega (arith, long, h) in
    subst P (sym (get_drop n items (length (drop n items) - 1) ∙ ap (slice_get items) at)) solid
  where
    length-dropped : (n : ℕ) (xs : List Item) → length (drop n xs) ≡ length xs - n
    length-dropped zero xs = omega arith
    length-dropped (suc n) [] = omega arith
    length-dropped (suc n) (x ∷ xs) = length-dropped n xs ∙ omega arith

-- ---- blocks in front

seen_behind : (s t : Bool) (b : Block) (list : List Item) (k : ℕ) (blocks : List Block) (j v i : ℕ) →
    Seen s (is_solid_block b) list k blocks j v i → Seen s t list k (b ∷ blocks) (suc j) v i
seen_behind s t b list k blocks j v i seen = elim seen [
  | inside it picks a got c d e f ↦
      inside it picks a got (c ∙ sym (index_follows_cons t b blocks (around blocks j v) j i)) d e f
  | front it other a box c d ↦ front it other a box c d
]

front_follows_front : (t : Bool) (b : Block) (blocks : List Block) (n : ℕ) →
    front_follows t (b ∷ blocks) (suc n) ≡ front_follows (is_solid_block b) blocks n
front_follows_front t b blocks zero = refl
front_follows_front t b blocks (suc n) = refl

nothing_seen : (s t : Bool) (list : List Item) (k j v i : ℕ) → Seen s t list k [] j v i → ⊥
nothing_seen s t list k j v i seen = elim seen [
  | inside it picks a got c d e f ↦ cc
  | front it other a box c d ↦ cc
]

pub seen_all : (s t : Bool) (n : ℕ) (list : List Item) (k : ℕ) (blocks : List Block) (j v i : ℕ) →
    Seen s (front_follows t blocks n) list k (drop n blocks) j v i → Seen s t list k blocks (n + j) v i
seen_all s t zero list k blocks j v i seen =
    let P : ℕ → Type 0 = λ m. Seen s t list k blocks m v i in
    let e : j ≡ 0 + j = omega arith in
    subst P e seen
seen_all s t (suc n) list k [] j v i seen = absurd (nothing_seen s _ list k j v i seen)
seen_all s t (suc n) list k (b ∷ blocks) j v i seen =
    let P : ℕ → Type 0 = λ m. Seen s t list k (b ∷ blocks) m v i in
    let Q : Bool → Type 0 = λ u. Seen s u list k (drop n blocks) j v i in
    let e : suc (n + j) ≡ suc n + j = omega arith in
    subst P e (seen_behind s t b list k blocks (n + j) v i
    (seen_all s (is_solid_block b) n list k blocks j v i (subst Q (front_follows_front t b blocks n) seen)))

-- ---- from a place on

-- what is seen at a place of the blocks, whatever stands before the list
pub record SeenAt (list : List Item) (k : ℕ) (blocks : List Block) (at : Place) : Type 0 where
  pub s : Bool
  pub seen : Seen s false list k blocks at.block at.variant at.index

seen_from_block : (n : ℕ) (blocks : List Block) (picks : List ℕ) (k : ℕ) (flat_item : FlatItem) →
    AllByRecursion IsBlock (drop n blocks) → ArePicks (drop n blocks) picks →
    slice_get (flat_items_from n (drop n blocks) picks) k ≡ Some flat_item →
    Seen (front_follows false blocks n) false
    (listed (drop n blocks) picks) k blocks flat_item.place.block flat_item.place.variant flat_item.place.index
seen_from_block n blocks picks k flat_item all ok e =
    let first = front_follows false blocks n in
    let there = seen_from first n k (drop n blocks) picks flat_item all ok e in
    let P : ℕ → Type 0 = λ b. Seen first false
    (listed (drop n blocks) picks) k blocks b flat_item.place.variant flat_item.place.index in
    subst P (sym there.block)
    (seen_all first false n
    (listed (drop n blocks) picks) k blocks there.j flat_item.place.variant flat_item.place.index there.seen)

variant_later : (b v : ℕ) (items : List Item) (m : ℕ) (flat_item : FlatItem) →
    slice_get (variant_flat_items b v items) (suc m) ≡ Some flat_item →
    (flat_item.place ≡ place b v (suc m)) × (slice_get items (suc m) ≡ Some flat_item.item)
variant_later b v [] m flat_item e = absurd (cc)
variant_later b v (item ∷ items) m flat_item e =
    let h = later_place b v 1 items m flat_item e in
    (h.0 ∙ ap (λ x. place b v x) (omega arith), h.1)

-- the rest of the variant at a place is empty, or ends solid as its block does
rest_ends : (blocks : List Block) (b v i : ℕ) → AllByRecursion IsBlock blocks →
    (drop (suc i) (around blocks b v) ≡ []) ⊎ (EndsSolid (drop (suc i) (around blocks b v))
    × (front_follows false blocks (suc b) ≡ true))
rest_ends [] b v i all = inl refl
rest_ends (One item ∷ blocks) zero v i all = inl (one-rest (v == 0))
  where
    one-rest : (t : Bool) → drop (suc i) (if t then item ∷ [] else []) ≡ []
    one-rest true = drop-nil i
      where
        drop-nil : (i : ℕ) → ◌≡◌ {A = List Item} (drop i []) []
        drop-nil zero = refl
        drop-nil (suc i) = refl
    one-rest false = refl
rest_ends (Choice variants ∷ blocks) zero v i all =
    by (nat_lt (suc i) (length (picked_items (Choice variants) v))) refl
  where
    named : (variants : List Variant) (v : ℕ) → 0 < length (picked_items (Choice variants) v) → v < length variants
    named [] v h = absurd (omega arith)
    named (w ∷ ws) zero h = omega arith
    named (w ∷ ws) (suc v) h = let r : v < length ws = named ws v h in omega arith

    less : (m n : ℕ) → nat_lt m n ≡ true → m < n
    less m n e = grind (arith, nat_tests)

    more : (m n : ℕ) → nat_lt m n ≡ false → n ≤ m
    more m n e = grind (arith, nat_tests)

    by : (t : Bool) → nat_lt (suc i) (length (picked_items (Choice variants) v)) ≡ t →
        (drop (suc i) (picked_items (Choice variants) v) ≡ []) ⊎
        (EndsSolid (drop (suc i) (picked_items (Choice variants) v)) × (true ≡ true))
    by true e =
        let h : suc i < length (picked_items (Choice variants) v) = less _ _ e in
        let some : v < length variants = named variants v (omega (arith, h)) in
        inr (
          solid_drop (picked_items (Choice variants) v) (suc i) h
              (picked_shape variants v all.0.shape.each some).1,
          refl,
        )
    by false e = inl (drop_past (suc i) (picked_items (Choice variants) v) (more _ _ e))
rest_ends (block ∷ blocks) (suc b) v i all = rest_ends blocks b v i all.1

-- items in front that are none, or end solid
seen_prefixed : (t : Bool) (xs list : List Item) (m k : ℕ) (blocks : List Block) (at : Place) →
    (xs ≡ []) ⊎ (EndsSolid xs × (t ≡ true)) → k ≡ length xs + m →
    Seen t false list m blocks at.block at.variant at.index → SeenAt (xs ++ list) k blocks at
seen_prefixed t xs list m k blocks at (inl none) e seen =
    let here : length xs ≡ 0 = ap length none in
    let same : m ≡ k = omega (arith, e, here) in
    let P : ℕ → Type 0 = λ n. Seen t false list n blocks at.block at.variant at.index in
    let Q : List Item → Type 0 = λ ys. Seen t false (ys ++ list) k blocks at.block at.variant at.index in
    record { s = t; seen = subst Q (sym none) (subst P same seen) }
seen_prefixed t xs list m k blocks at (inr (solid, is)) e seen =
    let more : suc k ≡ length xs + suc m = omega (arith, e) in
    elim seen [
      | inside it picks a got c d f g ↦
          record {
            s = true;
            seen =
                inside it picks (get_right xs list k m e ∙ a) got (follows_right true xs list k m solid e
                ∙ (ap (λ u. follows u list m) (sym is) ∙ c)) (drop_right xs list (suc k) (suc m) more ∙ d) f g;
          }
      | front it other a box c d ↦ record { s = true; seen = front it other (get_right xs list k m e ∙ a) box c d }
    ]

module _ (blocks : List Block) (b v i : ℕ) (picks : List ℕ) (all : AllByRecursion IsBlock blocks) where
  abbrev items : List Item
  items = around blocks b v

  abbrev rest : List Item
  rest = listed (drop (b + 1) blocks) picks

  -- within the variant
  seen_within : (k : ℕ) (item : Item) → slice_get items (suc i + k) ≡ Some item → k < length (drop (suc i) items) →
      AllByRecursion IsBlock (drop (b + 1) blocks) → ArePicks (drop (b + 1) blocks) picks →
      SeenAt (drop (suc i) items ++ rest) k blocks (place b v (suc (i + k)))
  seen_within k item e h each ok =
      let xs : List Item = drop (suc i) items in
      let at : suc i + k ≡ suc (i + k) = omega arith in
      let got : slice_get items (suc (i + k)) ≡ Some item = ap (slice_get items) (sym at) ∙ e in
      let upto : suc k ≤ length xs = omega (arith, h) in
      let next : suc i + suc k ≡ suc (suc (i + k)) = omega arith in
      record {
        s = has_at is_solid items i;
        seen = inside item picks
            (get_left xs rest k h ∙ (get_drop (suc i) items k ∙ e))
            got
            (follows-here k h)
            (drop_left xs rest (suc k) upto
            ∙ (ap (λ ys. ys ++ rest) (drop_twice (suc i) (suc k) items ∙ ap (λ n. drop n items) next)
            ∙ ap (λ n. drop (suc (suc (i + k))) items ++ listed (drop n blocks) picks) (add-one b)))
            (subst (λ n. AllByRecursion IsBlock (drop n blocks)) (add-one b) each)
            (subst (λ n. ArePicks (drop n blocks) picks) (add-one b) ok);
      }
    where
      follows-here : (k : ℕ) → k < length (drop (suc i) items) →
          follows (has_at is_solid items i) (drop (suc i) items ++ rest) k ≡ has_at is_solid items (i + k)
      follows-here zero h = ap (has_at is_solid items) (omega arith)
      follows-here (suc k) h =
          let less : k < length (drop (suc i) items) = omega (arith, h) in
          let at : suc i + k ≡ i + suc k = omega arith in
          ap (λ o. option_map_or is_solid o false) (get_left (drop (suc i) items) rest k less
          ∙ (get_drop (suc i) items k ∙ ap (slice_get items) at))

  shown-inside : map shown (drop (suc i) (variant_flat_items b v items)
      ++ flat_items_from (b + 1) (drop (b + 1) blocks) picks) ≡ drop (suc i) items ++ rest
  shown-inside =
      map-append shown (drop (suc i) (variant_flat_items b v items))
      (flat_items_from (b + 1) (drop (b + 1) blocks) picks)
      ∙ (ap (λ xs. xs ++ map shown (flat_items_from (b + 1) (drop (b + 1) blocks) picks))
      (map_drop shown (suc i) (variant_flat_items b v items) ∙ ap (drop (suc i)) (variant_shown b v items))
      ∙ ap (λ xs. drop (suc i) items ++ xs) (blocks_shown (b + 1) (drop (b + 1) blocks) picks))

  variant-long : (n : ℕ) (items : List Item) →
      length (drop n (variant_flat_items b v items)) ≡ length (drop n items)
  variant-long n items =
      sym (length-mapped shown (drop n (variant_flat_items b v items)))
      ∙ ap length (map_drop shown n (variant_flat_items b v items) ∙ ap (drop n) (variant_shown b v items))
    where
      length-mapped : {X Y : Type 0} (f : X → Y) (xs : List X) → length (map f xs) ≡ length xs
      length-mapped f [] = refl
      length-mapped f (x ∷ xs) = ap suc (length-mapped f xs)

  seen-inside : (k : ℕ) (flat_item : FlatItem) → ArePicks (drop (b + 1) blocks) picks →
      slice_get (drop (suc i) (variant_flat_items b v items)
      ++ flat_items_from (b + 1) (drop (b + 1) blocks) picks) k ≡ Some flat_item →
      SeenAt (drop (suc i) items ++ rest) k blocks flat_item.place
  seen-inside k flat_item ok e =
      let each : AllByRecursion IsBlock (drop (b + 1) blocks) = all_drop IsBlock (b + 1) blocks all in
      elim (get_split (drop (suc i) (variant_flat_items b v items))
      (flat_items_from (b + 1) (drop (b + 1) blocks) picks) k flat_item e) [
        | inl here ↦
            let at : suc i + k ≡ suc (i + k) = omega arith in
            let h = variant_later b v items (i + k) flat_item
            (ap (slice_get (variant_flat_items b v items)) (sym at)
            ∙ (sym (get_drop (suc i) (variant_flat_items b v items) k) ∙ here)) in
            let less : k < length (drop (suc i) items) =
            omega (
              arith,
              get_lt (drop (suc i) (variant_flat_items b v items)) k flat_item here,
              variant-long (suc i) items,
            ) in
            subst (SeenAt (drop (suc i) items ++ rest) k blocks) (sym h.0)
            (seen_within k flat_item.item (ap (slice_get items) at ∙ h.1) less each ok)
        | inr (m, at, there) ↦
            let long : k ≡ length (drop (suc i) items) + m = at ∙ ap (λ n. n + m) (variant-long (suc i) items) in
            let t = front_follows false blocks (b + 1) in
            let t-is : front_follows false blocks (suc b) ≡ t = ap (front_follows false blocks) (sym (add-one b)) in
            let Q : Bool → Type 0 =
            λ u. (drop (suc i) items ≡ []) ⊎ (EndsSolid (drop (suc i) items) × (u ≡ true)) in
            seen_prefixed t (drop (suc i) items) rest m k blocks flat_item.place
            (subst Q t-is (rest_ends blocks b v i all)) long
            (seen_from_block (b + 1) blocks picks m flat_item each ok there)
      ]

column_index : (blocks : List Block) (b v i : ℕ) (picks : List ℕ) (k : ℕ) (flat_item : FlatItem) →
    AllByRecursion IsBlock blocks →
    ArePicks (blocks_at blocks (place b v i)) picks →
    slice_get (flat_items_at blocks (place b v i) picks) k ≡ Some flat_item →
    SeenAt (items_at blocks (place b v i) picks) k blocks flat_item.place
column_index blocks b v zero picks k flat_item all ok e =
    let P : List Item → Type 0 = λ list. SeenAt list k blocks flat_item.place in
    subst P (sym (blocks_shown b (drop b blocks) picks)) (record {
      s = front_follows false blocks b;
      seen = seen_from_block b blocks picks k flat_item (all_drop IsBlock b blocks all) ok e;
    })
column_index blocks b v (suc i) picks k flat_item all ok e =
    let inner : List FlatItem =
    drop (suc i) (variant_flat_items b v (around blocks b v))
    ++ flat_items_from (b + 1) (drop (b + 1) blocks) picks in
    let T : Bool → List FlatItem = λ t. if t then flat_items_from b (drop b blocks) picks else inner in
    let is : flat_items_at blocks (place b v (suc i)) picks ≡ inner = ap T (suc_not i) in
    let U : Bool → List Block = λ t. drop (if t then b else b + 1) blocks in
    let named : ArePicks (drop (b + 1) blocks) picks = subst (λ t. ArePicks (U t) picks) (suc_not i) ok in
    let P : List Item → Type 0 = λ list. SeenAt list k blocks flat_item.place in
    subst P (sym (ap (map shown) is ∙ shown-inside blocks b v i picks all))
    (seen-inside blocks b v i picks all k flat_item named (ap (λ xs. slice_get xs k) (sym is) ∙ e))

pub column_seen : (blocks : List Block) (from : Place) (picks : List ℕ) (k : ℕ) (flat_item : FlatItem) →
    AllByRecursion IsBlock blocks →
    ArePicks (blocks_at blocks from) picks → slice_get (flat_items_at blocks from picks) k ≡ Some flat_item →
    SeenAt (items_at blocks from picks) k blocks flat_item.place
column_seen blocks from picks k flat_item all ok e =
    column_index blocks from.block from.variant from.index picks k flat_item all ok e
