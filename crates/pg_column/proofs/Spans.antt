-- Along a span, one item after another.
use Rattle.std.proofs.Common.{◌≡◌, refl, sym, ap, ◌∙◌, subst, ℕ, zero, suc, ◌+◌, ◌-◌, ◌≤◌, ◌<◌, ◌^◌, List, [], ◌∷◌, ◌++◌, length, length-append, length-drop, drop, arith, ℤ, Bool, true, false, Some, None}
use Rattle.std.specs.Prelude.{◌==◌, ◌&&◌, not, nat_lt, if◌then◌else◌, slice_get}
use Rattle.std.specs.List.{AllByRecursion}
use Rattle.std.proofs.lemmas.Bool.Decides.{nat_tests}
use Rattle.pg_list.specs.Counts.{block_size, item_count}
use Rattle.pg_list.specs.Ranges.{IsItemInRange}
use Rattle.pg_list.specs.declared.blocks.Block.TheVariants.{One, Choice}
use Rattle.pg_list.specs.declared.variants.Variant.{Variant}
use Rattle.pg_rules.specs.Room.{Document}
use Rattle.pg_column.specs.declared.cost.TextRoom.{TextRoom}
use Rattle.pg_column.specs.Judged.{Walked, walk_item, walk_to}
use Rattle.pg_column.proofs.Passing.{around_ranges}
use Rattle.pg_list.specs.declared.item.Item.{Item}
use Rattle.pg_list.specs.declared.blocks.Block.{Block}
use Rattle.pg_list.specs.declared.galley.Place.{Place}
use Rattle.pg_list.specs.Places.{item_at, items_around, picked_items, place}
use Rattle.pg_list.specs.Shapes.{IsBlock}
use Rattle.pg_list.proofs.Sizes.{item_count_cons, items_around_le, picked_le}
use Rattle.pg_breaks.proofs.Lists.{get_lt}
use Rattle.pg_list.specs.Flat.{FlatItem, end_of, flat_items_at, flat_items_from, is_same_place, variant_flat_items}
use Rattle.pg_column.specs.Ahead.{IsStep, item_place, is_front, leads_to, next_index, picks_behind, settled}
use Rattle.pg_column.proofs.Ahead.{IsSettled, Named, is_settled, named_on, named_settled, settle, step, stop}
use Rattle.pg_lemmas.proofs.Bools.{by_bool, if_false, if_true}
use Rattle.pg_lemmas.proofs.Lists.{drop_past}
use Rattle.pg_breaks.proofs.Walk.{variant_length}

pub index_small : (blocks : List Block) (at : Place) (item : Item) → item_count blocks ≤ 2 ^ 20 →
    item_at blocks at ≡ Some item → at.index < 2 ^ 20
index_small blocks at item few e =
    let h : at.index < length (items_around blocks at) = get_lt (items_around blocks at) at.index item e in
    let k : length (items_around blocks at) ≤ item_count blocks = items_around_le blocks at in
    omega (arith, h, k, few)

length_behind : (f : Bool) (picks : List ℕ) → (f ≡ true → 0 < length picks) →
    length (if f then drop 1 picks else picks) ≡ (if f then length picks - 1 else length picks)
length_behind true [] h = let k : 0 < 0 = h refl in absurd (omega (arith, k))
length_behind true (p ∷ ps) h = omega arith
length_behind false picks h = refl

module _ (blocks : List Block) (all : AllByRecursion IsBlock blocks) (at : Place) (picks : List ℕ)
    (is : IsSettled blocks at) (named : Named blocks at picks) where
  abbrev pub ahead : List FlatItem
  ahead = flat_items_at blocks at picks

  abbrev pub next_at : Place
  next_at = settled blocks (next_index (item_place blocks at picks))

  abbrev pub next_picks : List ℕ
  next_picks = picks_behind blocks at picks

  abbrev pub behind : List FlatItem
  behind = flat_items_at blocks next_at next_picks

  abbrev pub here : Item → FlatItem
  here item = record { place = at; item = item; is_front = is_front blocks at }

  module _ (item : Item) (e : item_at blocks (item_place blocks at picks) ≡ Some item) where
    pub opened : ahead ≡ here item ∷ behind
    opened = step blocks at picks item is.front e
        ∙ ap (λ (xs : List FlatItem). here item ∷ xs) (sym (settle blocks (next_index (item_place blocks at picks))
        next_picks))

    pub next_named : Named blocks next_at next_picks
    next_named = named_settled blocks (next_index (item_place blocks at picks)) next_picks
        (named_on blocks at picks item e named)

    pub next_settled : IsSettled blocks next_at
    next_settled = is_settled blocks (next_index (item_place blocks at picks))

    pub shorter : length ahead ≡ suc (length behind)
    shorter = ap length opened

  -- ---- by a step over the next item

  module _ (item : Item) (next : Place) (left : List ℕ) (step : IsStep blocks at picks item next left) where
    pub step_lists : flat_items_at blocks next left ≡ behind
    step_lists = ap (λ (q : Place). flat_items_at blocks q left) step.next_is
        ∙ ap (flat_items_at blocks next_at) step.left_is

    pub step_shorter : length (flat_items_at blocks next left) < length ahead
    step_shorter = let same = ap length step_lists in let less = shorter item step.item_is in omega (arith, same, less)

    pub step_settled : IsSettled blocks next
    step_settled = subst (IsSettled blocks) (sym step.next_is) (next_settled item step.item_is)

    pub step_named : Named blocks next left
    step_named = subst (λ (ps : List ℕ). Named blocks next ps) (sym step.left_is)
        (subst (λ (q : Place). Named blocks q next_picks) (sym step.next_is) (next_named item step.item_is))

  -- ---- whether it leads to a place

  module _ (is_end : Bool) (to : Place) where
    abbrev pub leads : Bool
    leads = leads_to is_end to ahead (length picks)

    pub leads_none : item_at blocks (item_place blocks at picks) ≡ None → (is_end && (length picks == 0)) ≡ leads
    leads_none e = sym (ap (λ (xs : List FlatItem). leads_to is_end to xs (length picks))
        (stop blocks at picks all is named e))

    module _ (item : Item) (e : item_at blocks (item_place blocks at picks) ≡ Some item) where
      whole : leads ≡ (if not is_end && is_same_place at to then length picks == 0
          else (if is_front blocks at then nat_lt 0 (length picks) && leads_to is_end to behind (length picks - 1)
          else leads_to is_end to behind (length picks)))
      whole = ap (λ (xs : List FlatItem). leads_to is_end to xs (length picks)) (opened item e)

      pub leads_here : (not is_end && is_same_place at to) ≡ true → (length picks == 0) ≡ leads
      leads_here t = sym (whole ∙ if_true (not is_end && is_same_place at to) _ _ t)

      pub leads_short : (not is_end && is_same_place at to) ≡ false →
          (is_front blocks at && (length picks == 0)) ≡ true → false ≡ leads
      leads_short f t = sym (whole ∙ (if_false (not is_end && is_same_place at to) _ _ f
          ∙ by (is_front blocks at) (length picks) t _ _))
        where
          by : (f : Bool) (n : ℕ) → (f && (n == 0)) ≡ true → (a b : Bool) → (if f then nat_lt 0 n && a else b) ≡ false
          by true zero t a b = refl
          by true (suc n) t a b = absurd (let k : (suc n == 0) ≡ false = grind (arith, nat_tests) in
              let q : true ≡ false = sym t ∙ k in cc)
          by false n t a b = absurd cc

      pub leads_on : (not is_end && is_same_place at to) ≡ false →
          (is_front blocks at && (length picks == 0)) ≡ false →
          leads_to is_end to behind (length next_picks) ≡ leads
      leads_on f g = sym (whole ∙ (if_false (not is_end && is_same_place at to) _ _ f
          ∙ (by (is_front blocks at) (length picks) g (leads_to is_end to behind)
          ∙ ap (leads_to is_end to behind) (sym (length_behind (is_front blocks at) picks
          (some (is_front blocks at) (length picks) g))))))
        where
          by : (f : Bool) (n : ℕ) → (f && (n == 0)) ≡ false → (a : ℕ → Bool) →
              (if f then nat_lt 0 n && a (n - 1) else a n) ≡ a (if f then n - 1 else n)
          by true zero t a = absurd cc
          by true (suc n) t a = let k : nat_lt 0 (suc n) ≡ true = grind (arith, nat_tests) in
              ap (λ (b : Bool). b && a (suc n - 1)) k
          by false n t a = refl

          some : (f : Bool) (n : ℕ) → (f && (n == 0)) ≡ false → f ≡ true → 0 < n
          some true zero t e = absurd cc
          some true (suc n) t e = omega arith
          some false n t e = absurd cc

-- ---- what is kept along it

module _ (blocks : List Block) (all : AllByRecursion IsBlock blocks) (at : Place) (picks : List ℕ)
    (is : IsSettled blocks at) (named : Named blocks at picks) (doc : Document) (room : TextRoom) (is_end : Bool) (to : Place)
    (w : Walked) where
  abbrev whole_walk : Walked
  whole_walk = walk_to doc room is_end to w (flat_items_at blocks at picks)

  pub walk_none : item_at blocks (item_place blocks at picks) ≡ None → w ≡ whole_walk
  walk_none e = sym (ap (walk_to doc room is_end to w) (stop blocks at picks all is named e))

  module _ (item : Item) (e : item_at blocks (item_place blocks at picks) ≡ Some item) where
    pub walk_here : (not is_end && is_same_place at to) ≡ true → w ≡ whole_walk
    walk_here t = sym (ap (walk_to doc room is_end to w) (opened blocks all at picks is named item e)
        ∙ if_true (not is_end && is_same_place at to) w _ t)

    pub walk_on : (not is_end && is_same_place at to) ≡ false → (v : Walked) →
        v ≡ walk_item doc room w (here blocks all at picks is named item) →
        walk_to doc room is_end to v (behind blocks all at picks is named) ≡ whole_walk
    walk_on f v s = ap (λ (u : Walked). walk_to doc room is_end to u (behind blocks all at picks is named)) s
        ∙ sym (ap (walk_to doc room is_end to w) (opened blocks all at picks is named item e)
        ∙ if_false (not is_end && is_same_place at to) w _ f)

pub item_range : (blocks : List Block) (all : AllByRecursion IsBlock blocks) (at : Place) (item : Item) →
    item_at blocks at ≡ Some item → IsItemInRange item
item_range blocks all at item e = by (items_around blocks at) at.index (around_ranges blocks at.block at.variant all) e
  where
    by : (items : List Item) (n : ℕ) → AllByRecursion IsItemInRange items → slice_get items n
        ≡ Some item → IsItemInRange item
    by [] n a f = absurd cc
    by (x ∷ items) zero a f = let s : x ≡ item = cc in subst IsItemInRange s a.0
    by (x ∷ items) (suc n) a f = by items n a.1 f

-- ---- no more items than the galley has

pub from_few : (n : ℕ) (blocks : List Block) (picks : List ℕ) → length (flat_items_from n blocks picks) ≤ item_count blocks
from_few n [] picks = omega arith
from_few n (One item ∷ blocks) picks =
    let k = from_few (n + 1) blocks picks in
    let c = item_count_cons (One item) blocks in
    let s : block_size (One item) ≡ 1 = refl in
    omega (arith, k, c, s)
from_few n (Choice variants ∷ blocks) [] = joined n variants blocks 0 (flat_items_from (n + 1) blocks [])
    (from_few (n + 1) blocks [])
  where
    joined : (n : ℕ) (variants : List Variant) (blocks : List Block) (v : ℕ) (xs : List FlatItem) → length xs ≤
        item_count blocks →
        length (variant_flat_items n v (picked_items (Choice variants) v) ++ xs) ≤ item_count (Choice variants ∷ blocks)
    joined n variants blocks v xs h =
        let a = length-append (variant_flat_items n v (picked_items (Choice variants) v)) xs in
        let l = variant_length n v (picked_items (Choice variants) v) in
        let s = picked_le (Choice variants) v in
        let c = item_count_cons (Choice variants) blocks in
        omega (arith, a, l, s, c, h)
from_few n (Choice variants ∷ blocks) (pick ∷ picks) = joined n variants blocks pick
    (flat_items_from (n + 1) blocks picks)
    (from_few (n + 1) blocks picks)
  where
    joined : (n : ℕ) (variants : List Variant) (blocks : List Block) (v : ℕ) (xs : List FlatItem) → length xs ≤
        item_count blocks →
        length (variant_flat_items n v (picked_items (Choice variants) v) ++ xs) ≤ item_count (Choice variants ∷ blocks)
    joined n variants blocks v xs h =
        let a = length-append (variant_flat_items n v (picked_items (Choice variants) v)) xs in
        let l = variant_length n v (picked_items (Choice variants) v) in
        let s = picked_le (Choice variants) v in
        let c = item_count_cons (Choice variants) blocks in
        omega (arith, a, l, s, c, h)

split_few : (blocks : List Block) (b v : ℕ) → length (items_around blocks (place b v 0)) + item_count
    (drop (b + 1) blocks)
    ≤ item_count blocks
split_few [] b v = none (drop (b + 1) []) (drop_past (b + 1) [] (omega arith))
  where
    none : (bs : List Block) → bs ≡ [] → length (items_around [] (place b v 0)) + item_count bs ≤ item_count []
    none bs e = let k : item_count bs ≡ item_count [] = ap item_count e in
        let z : length (items_around [] (place b v 0)) ≡ 0 = refl in omega (arith, k, z)
split_few (block ∷ blocks) zero v =
    let c = item_count_cons block blocks in
    let s = picked_le block v in
    omega (arith, c, s)
split_few (block ∷ blocks) (suc b) v =
    let c = item_count_cons block blocks in
    let r = split_few blocks b v in
    let q : suc b + 1 ≡ suc (b + 1) = omega arith in
    let d = ap (λ (k : ℕ). item_count (drop k (block ∷ blocks))) q in
    omega (arith, c, r, d)

pub drop_few : (n : ℕ) (blocks : List Block) → item_count (drop n blocks) ≤ item_count blocks
drop_few zero blocks = omega arith
drop_few (suc n) [] = omega arith
drop_few (suc n) (block ∷ blocks) = let c = item_count_cons block blocks in let r = drop_few n blocks in omega
    (arith, c, r)

pub ahead_few : (blocks : List Block) (at : Place) (picks : List ℕ) → length (flat_items_at blocks at picks) ≤
    item_count blocks
ahead_few blocks at picks = by_bool (at.index == 0)
    (λ t. let e = ap length (if_true (at.index == 0) (flat_items_from at.block (drop at.block blocks) picks)
    (drop at.index (variant_flat_items at.block at.variant (items_around blocks at))
    ++ flat_items_from (at.block + 1) (drop (at.block + 1) blocks) picks) t) in
    let k = from_few at.block (drop at.block blocks) picks in
    let d = drop_few at.block blocks in omega (arith, e, k, d))
    (λ f. let e = ap length (if_false (at.index == 0) (flat_items_from at.block (drop at.block blocks) picks)
    (drop at.index (variant_flat_items at.block at.variant (items_around blocks at))
    ++ flat_items_from (at.block + 1) (drop (at.block + 1) blocks) picks) f) in
    let a = length-append (drop at.index (variant_flat_items at.block at.variant (items_around blocks at)))
    (flat_items_from (at.block + 1) (drop (at.block + 1) blocks) picks) in
    let l = length-drop at.index (variant_flat_items at.block at.variant (items_around blocks at)) in
    let v = variant_length at.block at.variant (items_around blocks at) in
    let k = from_few (at.block + 1) (drop (at.block + 1) blocks) picks in
    let s = split_few blocks at.block at.variant in
    omega (arith, e, a, l, v, k, s))

pub leads_whole : (bs blocks : List Block) → bs ≡ blocks → (is_end : Bool) (to from : Place) (picks : List ℕ) →
    is_end ≡ is_same_place to (end_of bs) →
    leads_to is_end to (flat_items_at bs from picks) (length picks)
    ≡ leads_to (is_same_place to (end_of blocks)) to (flat_items_at blocks from picks) (length picks)
leads_whole bs blocks same is_end to from picks e = rw (e, same) refl
