-- The flat list of blocks that begin with others: the items of the front, and what stands behind it.
use Rattle.std.proofs.Common.{◌≡◌, refl, sym, ap, subst, ◌∙◌, ℕ, suc, ◌+◌, ◌≤◌, ◌<◌, List, [], ◌∷◌, ◌++◌, length, length-append, append_assoc, length-drop, drop, Bool, true, false, Option, arith}
use Rattle.std.specs.Prelude.{◌==◌, if◌then◌else◌, slice_get, unwrap_or, option_map}
use Rattle.std.specs.List.{AllByRecursion}
use Rattle.std.specs.Option.{option_map_or}
use Rattle.std.proofs.lemmas.List.{append-nil, drop-append-le}
use Rattle.pg_list.specs.Places.{items_around, picked_items, place}
use Rattle.pg_list.specs.declared.blocks.Block.{Block}
use Rattle.pg_list.specs.declared.blocks.Block.TheVariants.{One, Choice}
use Rattle.pg_list.specs.declared.galley.Place.{Place}
use Rattle.pg_list.specs.declared.item.Item.{Item}
use Rattle.pg_list.specs.declared.variants.Variant.{Variant}
use Rattle.pg_list.specs.Flat.{FlatItem, blocks_at, flat_items_at, flat_items_from, later_flat_items, picked_variants, variant_flat_items}
use Rattle.pg_list.proofs.Places.{picked_few}
use Rattle.pg_lemmas.proofs.Lists.{all_append, all_drop, no_items}
use Rattle.law_space.proofs.Picks.{named}
use Rattle.pg_column.proofs.Picks.{none_picked}
use Rattle.law_texts.proofs.Picks.{choices, choices_cons}
use Rattle.law_edits.proofs.Items.{slice_front}

-- ---- picks

-- the picks that are read by the choices of blocks
abbrev pub read_by : List Block → List ℕ → List ℕ
read_by [] picks = []
read_by (One item ∷ blocks) picks = read_by blocks picks
read_by (Choice variants ∷ blocks) [] = []
read_by (Choice variants ∷ blocks) (pick ∷ picks) = pick ∷ read_by blocks picks

-- the picks that a front leaves to the blocks behind it
abbrev pub left_by : (front : List Block) (picks : List ℕ) → List ℕ
left_by [] picks = picks
left_by (One item ∷ blocks) picks = left_by blocks picks
left_by (Choice variants ∷ blocks) [] = left_by blocks []
left_by (Choice variants ∷ blocks) (pick ∷ picks) = left_by blocks picks

-- picks that are no more than the choices are all read
pub none_left : (blocks : List Block) (picks : List ℕ) → length picks ≤ choices blocks → left_by blocks picks ≡ []
none_left [] picks h = no_items picks (omega arith)
none_left (One item ∷ blocks) picks h = let c = choices_cons (One item) blocks in
    none_left blocks picks (omega (arith, c, h))
none_left (Choice variants ∷ blocks) [] h = none_left blocks [] (omega arith)
none_left (Choice variants ∷ blocks) (pick ∷ picks) h = let c = choices_cons (Choice variants) blocks in
    none_left blocks picks (omega (arith, c, h))

pub picks_parted : (blocks : List Block) (picks : List ℕ) →
    length picks ≡ length (read_by blocks picks) + length (left_by blocks picks)
picks_parted [] picks = omega arith
picks_parted (One item ∷ blocks) picks = picks_parted blocks picks
picks_parted (Choice variants ∷ blocks) [] =
    let e : length (left_by blocks []) ≡ 0 = ap length (none_left blocks [] (omega arith)) in omega (arith, e)
picks_parted (Choice variants ∷ blocks) (pick ∷ picks) = let e = picks_parted blocks picks in omega (arith, e)

-- the variants of the first blocks, and then those of the others
pub variants_cut : (front blocks : List Block) (picks : List ℕ) → picked_variants (front ++ blocks) picks
    ≡ picked_variants front picks ++ picked_variants blocks (left_by front picks)
variants_cut [] blocks picks = refl
variants_cut (One item ∷ front) blocks picks = variants_cut front blocks picks
variants_cut (Choice variants ∷ front) blocks [] = sym (ap (picked_variants blocks)
    (none_left front [] (omega arith)) ∙ none_picked blocks)
variants_cut (Choice variants ∷ front) blocks (pick ∷ picks) =
    ap (λ (more : List Variant). option_map_or (λ (v : Variant). v ∷ []) (slice_get variants pick) [] ++ more)
    (variants_cut front blocks picks)
    ∙ sym (append_assoc (option_map_or (λ (v : Variant). v ∷ []) (slice_get variants pick) [])
    (picked_variants front picks) (picked_variants blocks (left_by front picks)))

-- where no picks are left, those of the first blocks alone
pub variants_front : (front blocks : List Block) (picks : List ℕ) → left_by front picks ≡ [] →
    picked_variants (front ++ blocks) picks ≡ picked_variants front picks
variants_front front blocks picks none = variants_cut front blocks picks
    ∙ (ap (λ (vs : List Variant). picked_variants front picks ++ vs)
    (ap (picked_variants blocks) none ∙ none_picked blocks) ∙ append-nil (picked_variants front picks))

pub variants_read : (blocks : List Block) (picks : List ℕ) →
    picked_variants blocks (read_by blocks picks) ≡ picked_variants blocks picks
variants_read [] picks = refl
variants_read (One item ∷ blocks) picks = variants_read blocks picks
variants_read (Choice variants ∷ blocks) [] = refl
variants_read (Choice variants ∷ blocks) (pick ∷ picks) =
    ap (λ (more : List Variant). option_map_or (λ (v : Variant). v ∷ []) (slice_get variants pick) [] ++ more)
    (variants_read blocks picks)

-- where each pick names a variant, so does each that is read, and each that is left
pub named_parts : (front blocks : List Block) (picks : List ℕ) → named (front ++ blocks) picks ≡ length picks →
    (named front (read_by front picks) ≡ length (read_by front picks))
    × (named blocks (left_by front picks) ≡ length (left_by front picks))
named_parts front blocks picks h =
    let cut : named (front ++ blocks) picks ≡ named front picks + named blocks (left_by front picks) =
    ap length (variants_cut front blocks picks)
    ∙ length-append (picked_variants front picks) (picked_variants blocks (left_by front picks)) in
    let own : named front (read_by front picks) ≡ named front picks = ap length (variants_read front picks) in
    let few = picked_few front (read_by front picks) in
    let others = picked_few blocks (left_by front picks) in
    let parts = picks_parted front picks in
    (omega (arith, h, cut, own, few, others, parts), omega (arith, h, cut, own, few, others, parts))

-- ---- items from the front of a block

-- the items of the first blocks, and then those of the others, with the picks that the first leave
pub cut_from : (n : ℕ) (front blocks : List Block) (picks : List ℕ) → flat_items_from n (front ++ blocks) picks
    ≡ flat_items_from n front picks ++ flat_items_from (n + length front) blocks (left_by front picks)
cut_from n [] blocks picks = let e : n ≡ n + 0 = omega arith in ap (λ (k : ℕ). flat_items_from k blocks picks) e
cut_from n (One item ∷ front) blocks picks =
    let e : n + 1 + length front ≡ n + suc (length front) = omega arith in
    ap (λ (xs : List FlatItem). record { place = place n 0 0; item = item; is_front = false } ∷ xs)
    (cut_from (n + 1) front blocks picks
    ∙ ap (λ (k : ℕ). flat_items_from (n + 1) front picks ++ flat_items_from k blocks (left_by front picks)) e)
cut_from n (Choice variants ∷ front) blocks [] =
    let e : n + 1 + length front ≡ n + suc (length front) = omega arith in
    ap (λ (xs : List FlatItem). variant_flat_items n 0 (picked_items (Choice variants) 0) ++ xs)
    (cut_from (n + 1) front blocks []
    ∙ ap (λ (k : ℕ). flat_items_from (n + 1) front [] ++ flat_items_from k blocks (left_by front [])) e)
    ∙ sym (append_assoc (variant_flat_items n 0 (picked_items (Choice variants) 0))
    (flat_items_from (n + 1) front []) (flat_items_from (n + suc (length front)) blocks (left_by front [])))
cut_from n (Choice variants ∷ front) blocks (pick ∷ picks) =
    let e : n + 1 + length front ≡ n + suc (length front) = omega arith in
    ap (λ (xs : List FlatItem). variant_flat_items n pick (picked_items (Choice variants) pick) ++ xs)
    (cut_from (n + 1) front blocks picks
    ∙ ap (λ (k : ℕ). flat_items_from (n + 1) front picks ++ flat_items_from k blocks (left_by front picks)) e)
    ∙ sym (append_assoc (variant_flat_items n pick (picked_items (Choice variants) pick))
    (flat_items_from (n + 1) front picks)
    (flat_items_from (n + suc (length front)) blocks (left_by front picks)))

-- picks that are not read make no difference
read_from : (n : ℕ) (blocks : List Block) (picks : List ℕ) →
    flat_items_from n blocks (read_by blocks picks) ≡ flat_items_from n blocks picks
read_from n [] picks = refl
read_from n (One item ∷ blocks) picks =
    ap (λ (xs : List FlatItem). record { place = place n 0 0; item = item; is_front = false } ∷ xs)
    (read_from (n + 1) blocks picks)
read_from n (Choice variants ∷ blocks) [] = refl
read_from n (Choice variants ∷ blocks) (pick ∷ picks) =
    ap (λ (xs : List FlatItem). variant_flat_items n pick (picked_items (Choice variants) pick) ++ xs)
    (read_from (n + 1) blocks picks)

-- ---- the blocks in which items stand

-- from the one block on, and before the other
abbrev pub AreWithin : ℕ → ℕ → List FlatItem → Type 0
AreWithin low high xs = AllByRecursion (λ (x : FlatItem). (low ≤ x.place.block) × (x.place.block < high)) xs

module _ (low high : ℕ) where
  later_within : (n v i : ℕ) (items : List Item) → low ≤ n → n < high →
      AreWithin low high (later_flat_items n v i items)
  later_within n v i [] h k = tt
  later_within n v i (item ∷ items) h k = ((h, k), later_within n v (i + 1) items h k)

  variant_within : (n v : ℕ) (items : List Item) → low ≤ n → n < high →
      AreWithin low high (variant_flat_items n v items)
  variant_within n v [] h k = tt
  variant_within n v (item ∷ items) h k = ((h, k), later_within n v 1 items h k)

  pub from_within : (n : ℕ) (blocks : List Block) (picks : List ℕ) → low ≤ n → n + length blocks ≤ high →
      AreWithin low high (flat_items_from n blocks picks)
  from_within n [] picks h k = tt
  from_within n (One item ∷ blocks) picks h k =
      ((h, omega arith), from_within (n + 1) blocks picks (omega arith) (omega arith))
  from_within n (Choice variants ∷ blocks) [] h k =
      all_append _ (variant_flat_items n 0 (picked_items (Choice variants) 0)) (flat_items_from (n + 1) blocks [])
      (variant_within n 0 (picked_items (Choice variants) 0) h (omega arith))
      (from_within (n + 1) blocks [] (omega arith) (omega arith))
  from_within n (Choice variants ∷ blocks) (pick ∷ picks) h k =
      all_append _ (variant_flat_items n pick (picked_items (Choice variants) pick))
      (flat_items_from (n + 1) blocks picks)
      (variant_within n pick (picked_items (Choice variants) pick) h (omega arith))
      (from_within (n + 1) blocks picks (omega arith) (omega arith))

-- ---- items from any place in the front

module _ (from : Place) where
  -- the first block whose front is met
  abbrev pub start : ℕ
  start = if from.index == 0 then from.block else from.block + 1

  -- what is left of a variant
  abbrev pub begun : List Block → List FlatItem
  begun blocks = if from.index == 0 then [] else drop from.index
      (variant_flat_items from.block from.variant (items_around blocks from))

  pub at_is : (blocks : List Block) (picks : List ℕ) →
      flat_items_at blocks from picks ≡ begun blocks ++ flat_items_from start (blocks_at blocks from) picks
  at_is blocks picks = by (from.index == 0)
    where
      by : (b : Bool) → (if b then flat_items_from from.block (drop from.block blocks) picks else drop from.index
          (variant_flat_items from.block from.variant (items_around blocks from)) ++ flat_items_from
          (from.block + 1) (drop (from.block + 1) blocks) picks)
          ≡ (if b then [] else drop from.index (variant_flat_items from.block from.variant (items_around blocks from)))
          ++ flat_items_from (if b then from.block else from.block + 1)
          (drop (if b then from.block else from.block + 1) blocks) picks
      by true = refl
      by false = refl

  module _ (front : List Block) (inside : from.block < length front) where
    start_in : start ≤ length front
    start_in = by (from.index == 0)
      where
        by : (b : Bool) → (if b then from.block else from.block + 1) ≤ length front
        by true = omega arith
        by false = omega arith

    pub blocks_cut : (blocks : List Block) → blocks_at (front ++ blocks) from ≡ blocks_at front from ++ blocks
    blocks_cut blocks = drop-append-le start front blocks start_in

    pub around_cut : (blocks : List Block) → items_around (front ++ blocks) from ≡ items_around front from
    around_cut blocks = ap (λ (o : Option Block). unwrap_or (option_map (λ (block : Block).
        picked_items block from.variant) o) []) (slice_front from.block front blocks inside)

    begun_cut : (blocks : List Block) → begun (front ++ blocks) ≡ begun front
    begun_cut blocks = ap (λ (items : List Item). if from.index == 0 then [] else drop from.index
        (variant_flat_items from.block from.variant items)) (around_cut blocks)

    ends : start + length (blocks_at front from) ≡ length front
    ends = let l = length-drop start front in omega (arith, start_in, l)

    -- the items of the front, and then those behind it, with the picks that the front leaves
    pub cut_at : (blocks : List Block) (picks : List ℕ) → flat_items_at (front ++ blocks) from picks
        ≡ flat_items_at front from picks
        ++ flat_items_from (length front) blocks (left_by (blocks_at front from) picks)
    cut_at blocks picks =
        at_is (front ++ blocks) picks
        ∙ (ap (λ (xs : List FlatItem). xs ++ flat_items_from start (blocks_at (front ++ blocks) from) picks)
        (begun_cut blocks)
        ∙ (ap (λ (bs : List Block). begun front ++ flat_items_from start bs picks) (blocks_cut blocks)
        ∙ (ap (λ (xs : List FlatItem). begun front ++ xs) (cut_from start (blocks_at front from) blocks picks)
        ∙ (ap (λ (k : ℕ). begun front ++ (flat_items_from start (blocks_at front from) picks
        ++ flat_items_from k blocks (left_by (blocks_at front from) picks))) ends
        ∙ (sym (append_assoc (begun front) (flat_items_from start (blocks_at front from) picks)
        (flat_items_from (length front) blocks (left_by (blocks_at front from) picks)))
        ∙ ap (λ (xs : List FlatItem). xs
        ++ flat_items_from (length front) blocks (left_by (blocks_at front from) picks))
        (sym (at_is front picks)))))))

    pub read_at : (picks : List ℕ) →
        flat_items_at front from (read_by (blocks_at front from) picks) ≡ flat_items_at front from picks
    read_at picks =
        at_is front (read_by (blocks_at front from) picks)
        ∙ (ap (λ (xs : List FlatItem). begun front ++ xs) (read_from start (blocks_at front from) picks)
        ∙ sym (at_is front picks))

    pub at_within : (picks : List ℕ) → AreWithin 0 (length front) (flat_items_at front from picks)
    at_within picks = subst (AreWithin 0 (length front)) (sym (at_is front picks))
        (all_append _ (begun front) (flat_items_from start (blocks_at front from) picks) (by (from.index == 0))
        (from_within 0 (length front) start (blocks_at front from) picks (omega arith) (omega (arith, ends))))
      where
        by : (b : Bool) → AreWithin 0 (length front) (if b then [] else drop from.index
            (variant_flat_items from.block from.variant (items_around front from)))
        by true = tt
        by false = all_drop _ from.index (variant_flat_items from.block from.variant (items_around front from))
            (variant_within 0 (length front) from.block from.variant (items_around front from) (omega arith) inside)
