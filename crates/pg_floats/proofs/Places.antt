-- The inserts before a place in its variant, counted in the places of all inserts of their class.
use Rattle.std.proofs.Common.{◌≡◌, refl, sym, ap, ◌∙◌, subst, ℕ, zero, suc, ◌+◌, ◌<◌, ◌≤◌, List, [], ◌∷◌, ◌++◌}
use Rattle.std.proofs.Common.{length, length-append}
use Rattle.std.proofs.Common.{take, drop, append_assoc, append-nil, arith, Bool, true, false, Option, Some, None, ℤ}
use Rattle.std.specs.Prelude.{◌==◌, if◌then◌else◌, slice_get, is_some, option_map, unwrap_or}
use Rattle.std.specs.List.{AllByRecursion, cons_option, sum_by}
use Rattle.std.specs.List.Sorted.{IsPartitionedBy, IsPartitionPoint}
use Rattle.std.proofs.lemmas.Bool.Decides.{nat_tests}
use Rattle.std.proofs.lemmas.List.Sums.{sum_by-cons}
use Rattle.pg_list.specs.declared.item.Item.{Item}
use Rattle.pg_list.specs.declared.variants.Variant.{Variant}
use Rattle.pg_list.specs.declared.blocks.Block.{Block}
use Rattle.pg_list.specs.declared.blocks.Block.TheVariants.{One, Choice}
use Rattle.pg_list.specs.declared.galley.Place.{Place}
use Rattle.pg_list.specs.Counts.{item_count, block_size}
use Rattle.pg_list.specs.Places.{place, picked_items, items_around}
use Rattle.pg_rules.specs.Floats.{sizes_of, insert_size}
use Rattle.pg_floats.specs.Places.{is_before, places_in, places_among, places_of_block, places_from}
use Rattle.pg_floats.proofs.Parts.{found, drop_front, take_short}
use Rattle.pg_lemmas.proofs.Lists.{all_append}

-- ---- the order of places

less_block : (b v i : ℕ) (to : Place) → b < to.block → is_before (place b v i) to ≡ true
less_block b v i to h = grind (arith, nat_tests)

more_block : (b v i : ℕ) (to : Place) → to.block < b → is_before (place b v i) to ≡ false
more_block b v i to h = grind (arith, nat_tests)

less_variant : (b v w i j : ℕ) → v < w → is_before (place b v i) (place b w j) ≡ true
less_variant b v w i j h = grind (arith, nat_tests)

more_variant : (b v w i j : ℕ) → w < v → is_before (place b v i) (place b w j) ≡ false
more_variant b v w i j h = grind (arith, nat_tests)

less_index : (b v i j : ℕ) → i < j → is_before (place b v i) (place b v j) ≡ true
less_index b v i j h = grind (arith, nat_tests)

more_index : (b v i j : ℕ) → j ≤ i → is_before (place b v i) (place b v j) ≡ false
more_index b v i j h = grind (arith, nat_tests)

-- ---- what holds of all places of a part

module _ (P : Place → Type 0) (number : ℕ) where
  all-in : (b v i : ℕ) (items : List Item) → ((j : ℕ) → i ≤ j → j < i + length items → P (place b v j)) →
      AllByRecursion P (places_in number b v i items)
  all-in b v i [] h = tt
  all-in b v i (item ∷ items) h =
      by (is_some (insert_size number item)) (places_in number b v (i + 1) items)
      (all-in b v (i + 1) items (λ j le lt. h j (omega (arith, le)) (omega (arith, lt))))
    where
      by : (t : Bool) (ps : List Place) → AllByRecursion P ps →
          AllByRecursion P ((if t then place b v i ∷ [] else []) ++ ps)
      by true ps a = (h i (omega arith) (omega arith), a)
      by false ps a = a

  all-among : (b w : ℕ) (variants : List Variant) → ((v j : ℕ) → w ≤ v → P (place b v j)) →
      AllByRecursion P (places_among number b w variants)
  all-among b w [] h = tt
  all-among b w (variant ∷ variants) h =
      all_append P (places_in number b w 0 variant.items) (places_among number b (w + 1) variants)
      (all-in b w 0 variant.items (λ j le lt. h w j (omega arith)))
      (all-among b (w + 1) variants (λ v j le. h v j (omega (arith, le))))

  all-of-block : (b : ℕ) (block : Block) → ((v j : ℕ) → P (place b v j)) →
      AllByRecursion P (places_of_block number b block)
  all-of-block b (One item) h = all-in b 0 0 (item ∷ []) (λ j le lt. h 0 j)
  all-of-block b (Choice variants) h = all-among b 0 variants (λ v j le. h v j)

  all-from : (n : ℕ) (blocks : List Block) → ((b v j : ℕ) → n ≤ b → P (place b v j)) →
      AllByRecursion P (places_from number n blocks)
  all-from n [] h = tt
  all-from n (block ∷ blocks) h =
      all_append P (places_of_block number n block) (places_from number (n + 1) blocks)
      (all-of-block n block (λ v j. h n v j (omega arith)))
      (all-from (n + 1) blocks (λ b v j le. h b v j (omega (arith, le))))

-- ---- the places before a variant, those of its items, and those behind it

record Around (number b v : ℕ) (items : List Item) (places : List Place) : Type 0 where
  pre : List Place
  post : List Place
  is : places ≡ pre ++ (places_in number b v 0 items ++ post)
  below : AllByRecursion (λ (at : Place). is_before at (place b v 0) ≡ true) pre
  above : (i : ℕ) → AllByRecursion (λ (at : Place). is_before at (place b v i) ≡ false) post

module _ (number b v : ℕ) where
  none-below : (places : List Place) →
      AllByRecursion (λ (at : Place). is_before at (place b v 0) ≡ true) places → Around number b v [] places
  none-below places a = record {
    pre = places;
    post = [];
    is = sym (append-nil places);
    below = a;
    above = λ i. tt;
  }

  itself : (n w : ℕ) (items : List Item) → b ≡ n → v ≡ w → Around number b v items (places_in number n w 0 items)
  itself n w items e f = record {
    pre = [];
    post = [];
    is = ap (λ m. places_in number m w 0 items) (sym e)
        ∙ (ap (λ m. places_in number b m 0 items) (sym f) ∙ sym (append-nil (places_in number b v 0 items)));
    below = tt;
    above = λ i. tt;
  }

  behind : (xs ys : List Place) (items : List Item) →
      AllByRecursion (λ (at : Place). is_before at (place b v 0) ≡ true) xs →
      Around number b v items ys → Around number b v items (xs ++ ys)
  behind xs ys items a r = record {
    pre = xs ++ r.pre;
    post = r.post;
    is = ap (λ zs. xs ++ zs) r.is ∙ sym (append_assoc xs r.pre (places_in number b v 0 items ++ r.post));
    below = all_append _ xs r.pre a r.below;
    above = r.above;
  }

  ahead : (xs ys : List Place) (items : List Item) → Around number b v items xs →
      ((i : ℕ) → AllByRecursion (λ (at : Place). is_before at (place b v i) ≡ false) ys) →
      Around number b v items (xs ++ ys)
  ahead xs ys items r a = record {
    pre = r.pre;
    post = r.post ++ ys;
    is = ap (λ zs. zs ++ ys) r.is
        ∙ (append_assoc r.pre (places_in number b v 0 items ++ r.post) ys
        ∙ ap (λ zs. r.pre ++ zs) (append_assoc (places_in number b v 0 items) r.post ys));
    below = r.below;
    above = λ i. all_append _ r.post ys (r.above i) (a i);
  }

  around-among : (w k : ℕ) (variants : List Variant) → v ≡ w + k →
      Around number b v (unwrap_or (option_map (λ (u : Variant). u.items) (slice_get variants k)) [])
      (places_among number b w variants)
  around-among w k [] e = none-below [] tt
  around-among w zero (variant ∷ variants) e =
      ahead (places_in number b w 0 variant.items) (places_among number b (w + 1) variants) variant.items
      (itself b w variant.items refl (omega (arith, e)))
      (λ i. all-among _ number b (w + 1) variants (λ u j le. more_variant b u v j i (omega (arith, e, le))))
  around-among w (suc k) (variant ∷ variants) e =
      behind (places_in number b w 0 variant.items) (places_among number b (w + 1) variants)
      (unwrap_or (option_map (λ (u : Variant). u.items) (slice_get variants k)) [])
      (all-in _ number b w 0 variant.items (λ j le lt. less_variant b w v j 0 (omega (arith, e))))
      (around-among (w + 1) k variants (omega (arith, e)))

  around-block : (n : ℕ) (block : Block) → b ≡ n →
      Around number b v (picked_items block v) (places_of_block number n block)
  around-block n (One item) e = by (v == 0) refl
    where
      by : (t : Bool) → (v == 0) ≡ t →
          Around number b v (if t then item ∷ [] else []) (places_in number n 0 0 (item ∷ []))
      by true h = let zero-is : v ≡ 0 = grind (arith, nat_tests) in itself n 0 (item ∷ []) e zero-is
      by false h =
          let some : 0 < v = grind (arith, nat_tests) in
          none-below (places_in number n 0 0 (item ∷ []))
          (subst (λ m. AllByRecursion (λ (at : Place). is_before at (place b v 0) ≡ true)
          (places_in number m 0 0 (item ∷ []))) e
          (all-in _ number b 0 0 (item ∷ []) (λ j le lt. less_variant b 0 v j 0 some)))
  around-block n (Choice variants) e =
      subst (λ m. Around number b v (picked_items (Choice variants) v) (places_among number m 0 variants)) e
      (around-among 0 v variants (omega arith))

  around-from : (n k : ℕ) (blocks : List Block) → b ≡ n + k →
      Around number b v (unwrap_or (option_map (λ (block : Block). picked_items block v) (slice_get blocks k)) [])
      (places_from number n blocks)
  around-from n k [] e = none-below [] tt
  around-from n zero (block ∷ blocks) e =
      ahead (places_of_block number n block) (places_from number (n + 1) blocks) (picked_items block v)
      (around-block n block (omega (arith, e)))
      (λ i. all-from _ number (n + 1) blocks
      (λ c u j le. more_block c u j (place b v i) (omega (arith, e, le))))
  around-from n (suc k) (block ∷ blocks) e =
      behind (places_of_block number n block) (places_from number (n + 1) blocks)
      (unwrap_or (option_map (λ (block : Block). picked_items block v) (slice_get blocks k)) [])
      (all-of-block _ number n block (λ u j. less_block n u j (place b v 0) (omega (arith, e))))
      (around-from (n + 1) k blocks (omega (arith, e)))

-- ---- the items of a variant before an index, and those from it on

cut_in : (number b v j i : ℕ) (items : List Item) →
    places_in number b v j items ≡ places_in number b v j (take i items) ++ places_in number b v (j + i) (drop i items)
cut_in number b v j zero items = ap (λ m. places_in number b v m items) (omega arith)
cut_in number b v j (suc i) [] = refl
cut_in number b v j (suc i) (item ∷ items) =
    let one : List Place = if is_some (insert_size number item) then place b v j ∷ [] else [] in
    let e : j + 1 + i ≡ j + suc i = omega arith in
    ap (λ ps. one ++ ps) (cut_in number b v (j + 1) i items
    ∙ ap (λ m. places_in number b v (j + 1) (take i items) ++ places_in number b v m (drop i items)) e)
    ∙ sym (append_assoc one (places_in number b v (j + 1) (take i items))
    (places_in number b v (j + suc i) (drop i items)))

length_in : (number b v j : ℕ) (items : List Item) →
    length (places_in number b v j items) ≡ length (sizes_of number items)
length_in number b v j [] = refl
length_in number b v j (item ∷ items) =
    by (insert_size number item) (places_in number b v (j + 1) items) (sizes_of number items)
    (length_in number b v (j + 1) items)
  where
    by : (o : Option ℤ) (ps : List Place) (zs : List ℤ) → length ps ≡ length zs →
        length ((if is_some o then place b v j ∷ [] else []) ++ ps) ≡ length (cons_option o zs)
    by None ps zs e = e
    by (Some z) ps zs e = ap suc e

-- the first search finds the variant, and the second, in what is left, the place in it
counted : (number b v i : ℕ) (items : List Item) (places rest : List Place) (first n : ℕ) →
    Around number b v items places → rest ≡ drop first places →
    first ≤ length places →
    (IsPartitionedBy (λ (at : Place). is_before at (place b v 0)) places →
    IsPartitionPoint (λ (at : Place). is_before at (place b v 0) ≡ true)
    (λ (at : Place). is_before at (place b v 0) ≡ false) places first) →
    n ≤ length rest →
    (IsPartitionedBy (λ (at : Place). is_before at (place b v i)) rest →
    IsPartitionPoint (λ (at : Place). is_before at (place b v i) ≡ true)
    (λ (at : Place). is_before at (place b v i) ≡ false) rest n) →
    n ≡ length (sizes_of number (take i items))
counted number b v i items places rest first n r is le point le' point' =
    let own : List Place = places_in number b v 0 items in
    let early : List Place = places_in number b v 0 (take i items) in
    let late : List Place = places_in number b v (0 + i) (drop i items) in
    let own-not = all-in (λ (at : Place). is_before at (place b v 0) ≡ false) number b v 0 items
    (λ j ge lt. more_index b v j 0 (omega arith)) in
    let first_is : first ≡ length r.pre = found (λ (at : Place). is_before at (place b v 0)) (place 0 0 0) r.pre
    (own ++ r.post) places first r.is r.below (all_append _ own r.post own-not (r.above 0)) le point in
    let left : rest ≡ own ++ r.post = is ∙ (ap (λ m. drop m places) first_is
    ∙ (ap (λ ps. drop (length r.pre) ps) r.is ∙ drop_front r.pre (own ++ r.post))) in
    let parts : rest ≡ early ++ (late ++ r.post) = left
    ∙ (ap (λ ps. ps ++ r.post) (cut_in number b v 0 i items) ∙ append_assoc early late r.post) in
    let early-before = all-in (λ (at : Place). is_before at (place b v i) ≡ true) number b v 0 (take i items)
    (λ j ge lt. less_index b v j i (omega (arith, lt, take_short i items))) in
    let late-not = all-in (λ (at : Place). is_before at (place b v i) ≡ false) number b v (0 + i) (drop i items)
    (λ j ge lt. more_index b v j i (omega (arith, ge))) in
    found (λ (at : Place). is_before at (place b v i)) (place 0 0 0) early (late ++ r.post) rest n
    parts early-before (all_append _ late r.post late-not (r.above i)) le' point'
    ∙ length_in number b v 0 (take i items)

pub within_is : (number : ℕ) (blocks : List Block) (to : Place) (places rest : List Place) (first n : ℕ) →
    places ≡ places_from number 0 blocks → rest ≡ drop first places →
    first ≤ length places →
    (IsPartitionedBy (λ (at : Place). is_before at (place to.block to.variant 0)) places →
    IsPartitionPoint (λ (at : Place). is_before at (place to.block to.variant 0) ≡ true)
    (λ (at : Place). is_before at (place to.block to.variant 0) ≡ false) places first) →
    n ≤ length rest →
    (IsPartitionedBy (λ (at : Place). is_before at to) rest →
    IsPartitionPoint (λ (at : Place). is_before at to ≡ true) (λ (at : Place). is_before at to ≡ false) rest n) →
    n ≡ length (sizes_of number (take to.index (items_around blocks to)))
within_is number blocks to places rest first n e is le point le' point' =
    counted number to.block to.variant to.index (items_around blocks to) places rest first n
    (subst (Around number to.block to.variant (items_around blocks to)) (sym e)
    (around-from number to.block to.variant 0 to.block blocks (omega arith)))
    is le point le' point'

-- ---- how many

few_in : (number b v j : ℕ) (items : List Item) → length (places_in number b v j items) ≤ length items
few_in number b v j [] = omega arith
few_in number b v j (item ∷ items) =
    by (is_some (insert_size number item)) (places_in number b v (j + 1) items) (few_in number b v (j + 1) items)
  where
    by : (t : Bool) (ps : List Place) → length ps ≤ length items →
        length ((if t then place b v j ∷ [] else []) ++ ps) ≤ suc (length items)
    by true ps h = omega (arith, h)
    by false ps h = omega (arith, h)

few_among : (number b w : ℕ) (variants : List Variant) →
    length (places_among number b w variants) ≤ sum_by (λ (variant : Variant). length variant.items) variants
few_among number b w [] = omega arith
few_among number b w (variant ∷ variants) =
    omega (
      arith,
      few_in number b w 0 variant.items,
      few_among number b (w + 1) variants,
      length-append (places_in number b w 0 variant.items) (places_among number b (w + 1) variants),
      sum_by-cons (λ (variant : Variant). length variant.items) variant variants,
    )

few_of_block : (number n : ℕ) (block : Block) → length (places_of_block number n block) ≤ block_size block
few_of_block number n (One item) = few_in number n 0 0 (item ∷ [])
few_of_block number n (Choice variants) = few_among number n 0 variants

pub places_few : (number n : ℕ) (blocks : List Block) → length (places_from number n blocks) ≤ item_count blocks
places_few number n [] = omega arith
places_few number n (block ∷ blocks) =
    omega (
      arith,
      few_of_block number n block,
      places_few number (n + 1) blocks,
      length-append (places_of_block number n block) (places_from number (n + 1) blocks),
      sum_by-cons block_size block blocks,
    )
