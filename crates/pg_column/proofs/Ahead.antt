-- The items ahead of a place, one after another.
use Rattle.std.proofs.Common.{◌≡◌, refl, sym, ap, ◌∙◌, subst, ℕ, zero, suc, ◌+◌, ◌≤◌, ◌<◌, List, [], ◌∷◌, ◌++◌, length, length-append, drop, arith, Bool, true, false, Option, Some, None}
use Rattle.std.specs.Prelude.{◌==◌, ◌&&◌, nat_lt, if◌then◌else◌, is_some, slice_get, option_map, unwrap_or}
use Rattle.std.specs.List.{AllByRecursion}
use Rattle.std.specs.Option.{option_map_or}
use Rattle.pg_list.specs.declared.item.Item.{Item}
use Rattle.pg_list.specs.declared.variants.Variant.{Variant}
use Rattle.pg_list.specs.declared.blocks.Block.{Block}
use Rattle.pg_list.specs.declared.blocks.Block.TheVariants.{One, Choice}
use Rattle.pg_list.specs.declared.galley.Place.{Place}
use Rattle.pg_list.specs.Places.{item_at, items_around, picked_items, place}
use Rattle.pg_list.specs.Shapes.{IsBlock}
use Rattle.pg_list.specs.Flat.{FlatItem, blocks_at, flat_items_at, flat_items_from, later_flat_items, picked_variants, variant_flat_items}
use Rattle.law_places.proofs.Places.{around_is, begins, begins_with, drop_later, pick_named}
use Rattle.pg_column.specs.Ahead.{first_pick, item_place, is_choice, is_front, next_index, picks_behind, settled}
use Rattle.pg_lemmas.proofs.Bools.{by_bool, if_false, if_true}
use Rattle.pg_list.proofs.Places.{picked_few}
use Rattle.pg_lemmas.proofs.Numbers.{suc_not, not_less}
use Rattle.pg_lemmas.proofs.Lists.{drop_past}

-- ---- lists

pub drop_at : {X : Type 0} (n : ℕ) (xs : List X) (x : X) → slice_get xs n ≡ Some x → drop n xs ≡ x ∷ drop (n + 1) xs
drop_at n [] x e = absurd cc
drop_at zero (y ∷ ys) x e = let s : y ≡ x = cc in ap (λ z. z ∷ ys) s
drop_at (suc n) (y ∷ ys) x e = let q : suc n + 1 ≡ suc (n + 1) = omega arith in
    drop_at n ys x e ∙ ap (λ (k : ℕ). x ∷ drop k (y ∷ ys)) (sym q)

pub drop_none : {X : Type 0} (n : ℕ) (xs : List X) → slice_get xs n ≡ None → drop n xs ≡ []
drop_none zero [] e = refl
drop_none (suc n) [] e = refl
drop_none zero (y ∷ ys) e = absurd cc
drop_none (suc n) (y ∷ ys) e = drop_none n ys e

-- ---- inside a block

-- the items of a variant from an index on that is not 0
pub inside : (b v j : ℕ) (items : List Item) (item : Item) → slice_get items (suc j) ≡ Some item →
    drop (suc j) (variant_flat_items b v items)
    ≡ record { place = place b v (suc j); item = item; is_front = false }
    ∷ drop (suc j + 1) (variant_flat_items b v items)
inside b v j [] item e = absurd cc
inside b v j (x ∷ items) item e =
    let n : 1 + j ≡ suc j = omega arith in
    let m : 1 + (j + 1) ≡ suc j + 1 = omega arith in
    let q : suc j + 1 ≡ suc (j + 1) = omega arith in
    drop_later [] b v 1 j items
    ∙ (ap (later_flat_items b v (1 + j)) (drop_at j items item e)
    ∙ (ap (λ (k : ℕ). later_flat_items b v k (item ∷ drop (j + 1) items)) n
    ∙ ap (λ (ys : List FlatItem). record { place = place b v (suc j); item = item; is_front = false } ∷ ys)
    (sym (ap (λ (k : ℕ). drop k (variant_flat_items b v (x ∷ items))) q ∙ drop_later [] b v 1 (j + 1) items
    ∙ ap (λ (k : ℕ). later_flat_items b v k (drop (j + 1) items)) m))))

pub none_inside : (b v j : ℕ) (items : List Item) → slice_get items (suc j) ≡ None →
    drop (suc j) (variant_flat_items b v items) ≡ []
none_inside b v j [] e = refl
none_inside b v j (x ∷ items) e = drop_later [] b v 1 j items ∙ ap (later_flat_items b v (1 + j)) (drop_none j items e)

pub at_front : (b v : ℕ) (items : List Item) (item : Item) → slice_get items 0 ≡ Some item →
    variant_flat_items b v items
    ≡ record { place = place b 0 0; item = item; is_front = true } ∷ drop 1 (variant_flat_items b v items)
at_front b v [] item e = absurd cc
at_front b v (x ∷ items) item e = let s : x ≡ item = cc in
    ap (λ (y : Item). record { place = place b 0 0; item = y; is_front = true } ∷ later_flat_items b v 1 items) s

module _ (blocks : List Block) where
  -- ---- from a place on

  later_is : (b v i : ℕ) (picks : List ℕ) → (i == 0) ≡ false →
      flat_items_at blocks (place b v i) picks
      ≡ drop i (variant_flat_items b v (items_around blocks (place b v i)))
      ++ flat_items_from (b + 1) (drop (b + 1) blocks) picks
  later_is b v i picks e = if_false (i == 0) _ _ e

  -- the next place after an item
  next_is : (b v i : ℕ) (picks : List ℕ) →
      flat_items_at blocks (next_index (place b v i)) picks
      ≡ drop (i + 1) (variant_flat_items b v (items_around blocks (place b v i)))
      ++ flat_items_from (b + 1) (drop (b + 1) blocks) picks
  next_is b v i picks = let n : i + 1 ≡ suc i = omega arith in
      later_is b v (i + 1) picks (ap (λ (k : ℕ). k == 0) n ∙ suc_not i)

  block_there : (at : Place) (item : Item) → item_at blocks at ≡ Some item →
      (block : Block) × (slice_get blocks at.block ≡ Some block)
  block_there at item e = by (slice_get blocks at.block) refl e
    where
      by : (o : Option Block) → slice_get blocks at.block ≡ o →
          slice_get (unwrap_or (option_map (λ (block : Block). picked_items block at.variant) o) []) at.index
          ≡ Some item →
          (block : Block) × (slice_get blocks at.block ≡ Some block)
      by None h f = absurd cc
      by (Some block) h f = (block, h)

  abbrev pub Step : Place → List ℕ → Item → Type 0
  Step at picks item = flat_items_at blocks at picks
      ≡ record { place = at; item = item; is_front = is_front blocks at }
      ∷ flat_items_at blocks (next_index (item_place blocks at picks)) (picks_behind blocks at picks)

  abbrev Stepped : ℕ → ℕ → ℕ → List ℕ → Item → Bool → Type 0
  Stepped b v i picks item f = flat_items_at blocks (place b v i) picks
      ≡ record { place = place b v i; item = item; is_front = f }
      ∷ flat_items_at blocks (next_index (place b (if f then first_pick picks else v) i))
      (if f then drop 1 picks else picks)

  step_at : (b v i : ℕ) (picks : List ℕ) (item : Item) → (i ≡ 0 → v ≡ 0) →
      item_at blocks (item_place blocks (place b v i) picks) ≡ Some item → Step (place b v i) picks item
  step_at b v (suc j) picks item w e =
      subst (Stepped b v (suc j) picks item) (sym no)
      (later_is b v (suc j) picks (suc_not j)
      ∙ (ap (λ (xs : List FlatItem). xs ++ flat_items_from (b + 1) (drop (b + 1) blocks) picks)
      (inside b v j (items_around blocks (place b v (suc j))) item got)
      ∙ ap (λ (xs : List FlatItem). record { place = place b v (suc j); item = item; is_front = false } ∷ xs)
      (sym (next_is b v (suc j) picks))))
    where
      no : is_front blocks (place b v (suc j)) ≡ false
      no = ap (λ (f : Bool). f && is_choice (slice_get blocks b)) (suc_not j)

      got : slice_get (items_around blocks (place b v (suc j))) (suc j) ≡ Some item
      got = subst (λ (f : Bool). item_at blocks (place b (if f then first_pick picks else v) (suc j)) ≡ Some item) no e
  step_at b v zero picks item w e =
      let there = block_there (item_place blocks (place b v zero) picks) item e in by there.0 there.1
    where
      by : (block : Block) → slice_get blocks b ≡ Some block → Step (place b v zero) picks item
      by (One x) h =
          let no : is_front blocks (place b v zero) ≡ false = ap is_choice h in
          let got : item_at blocks (place b v 0) ≡ Some item =
          subst (λ (f : Bool). item_at blocks (place b (if f then first_pick picks else v) 0) ≡ Some item) no e in
          let zeroed : v ≡ 0 = w refl in
          let around : items_around blocks (place b v 0) ≡ x ∷ [] =
          around_is blocks (One x) b v 0 h ∙ ap (picked_items (One x)) zeroed in
          let s : Some x ≡ Some item = sym (ap (λ (xs : List Item). slice_get xs 0) around) ∙ got in
          let y : x ≡ item = cc in
          subst (Stepped b v 0 picks item) (sym no)
          (ap (λ (xs : List Block). flat_items_from b xs picks) (drop_at b blocks (One x) h)
          ∙ (two (place b 0 0) (place b v 0) x item (flat_items_from (b + 1) (drop (b + 1) blocks) picks)
          (ap (λ (k : ℕ). place b k 0) (sym zeroed)) y
          ∙ ap (λ (xs : List FlatItem). record { place = place b v 0; item = item; is_front = false } ∷ xs)
          (sym (next_is b v 0 picks
          ∙ ap (λ (xs : List Item). drop 1 (variant_flat_items b v xs)
          ++ flat_items_from (b + 1) (drop (b + 1) blocks) picks) around))))
        where
          two : (p q : Place) (x y : Item) (xs : List FlatItem) → p ≡ q → x ≡ y →
              ◌≡◌ {A = List FlatItem} (record { place = p; item = x; is_front = false } ∷ xs)
              (record { place = q; item = y; is_front = false } ∷ xs)
          two p q x y xs g k = rw (g, k) refl
      by (Choice variants) h =
          let yes : is_front blocks (place b v zero) ≡ true = ap is_choice h in
          let got : item_at blocks (place b (first_pick picks) 0) ≡ Some item =
          subst (λ (f : Bool). item_at blocks (place b (if f then first_pick picks else v) 0) ≡ Some item) yes e in
          subst (Stepped b v 0 picks item) (sym yes)
          (ap (λ (xs : List Block). flat_items_from b xs picks) (drop_at b blocks (Choice variants) h)
          ∙ (front picks
          ∙ (ap (λ (xs : List FlatItem). xs ++ flat_items_from (b + 1) (drop (b + 1) blocks) (drop 1 picks))
          (ap (variant_flat_items b (first_pick picks)) (sym (around_is blocks (Choice variants) b
          (first_pick picks) 0 h))
          ∙ at_front b (first_pick picks) (items_around blocks (place b (first_pick picks) 0)) item got)
          ∙ (ap (λ (q : Place). record { place = q; item = item; is_front = true }
          ∷ (drop 1 (variant_flat_items b (first_pick picks) (items_around blocks (place b (first_pick picks) 0)))
          ++ flat_items_from (b + 1) (drop (b + 1) blocks) (drop 1 picks)))
          (ap (λ (k : ℕ). place b k 0) (sym (w refl)))
          ∙ ap (λ (xs : List FlatItem). record { place = place b v 0; item = item; is_front = true } ∷ xs)
          (sym (next_is b (first_pick picks) 0 (drop 1 picks)))))))
        where
          front : (ps : List ℕ) → flat_items_from b (Choice variants ∷ drop (b + 1) blocks) ps
              ≡ variant_flat_items b (first_pick ps) (picked_items (Choice variants) (first_pick ps))
              ++ flat_items_from (b + 1) (drop (b + 1) blocks) (drop 1 ps)
          front [] = refl
          front (p ∷ ps) = refl

  pub step : (at : Place) (picks : List ℕ) (item : Item) → (at.index ≡ 0 → at.variant ≡ 0) →
      item_at blocks (item_place blocks at picks) ≡ Some item → Step at picks item
  step at picks item w e = step_at at.block at.variant at.index picks item w e

  -- ---- settled places

  pub settle : (at : Place) (picks : List ℕ) →
      flat_items_at blocks (settled blocks at) picks ≡ flat_items_at blocks at picks
  settle at picks = by at.index refl
    where
      By : ℕ → Type 0
      By i = flat_items_at blocks (settled blocks (place at.block at.variant i)) picks
          ≡ flat_items_at blocks (place at.block at.variant i) picks

      later : (j : ℕ) → By (suc j)
      later j = one (item_at blocks (place at.block at.variant (suc j))) refl
        where
          start : settled blocks (place at.block at.variant (suc j))
              ≡ (if is_some (item_at blocks (place at.block at.variant (suc j))) then place at.block at.variant (suc j)
              else place (if nat_lt at.block (length blocks) then at.block + 1 else at.block) 0 0)
          start = if_false (suc j == 0) _ _ (suc_not j)

          one : (o : Option Item) → item_at blocks (place at.block at.variant (suc j)) ≡ o → By (suc j)
          one (Some item) e = ap (λ (q : Place). flat_items_at blocks q picks)
              (start ∙ if_true (is_some (item_at blocks (place at.block at.variant (suc j)))) _ _ (ap is_some e))
          one None e = ap (λ (q : Place). flat_items_at blocks q picks)
              (start ∙ if_false (is_some (item_at blocks (place at.block at.variant (suc j)))) _ _ (ap is_some e))
              ∙ (by_bool (nat_lt at.block (length blocks)) more none
              ∙ sym (later_is at.block at.variant (suc j) picks (suc_not j)
              ∙ ap (λ (xs : List FlatItem). xs ++ flat_items_from (at.block + 1) (drop (at.block + 1) blocks) picks)
              (none_inside at.block at.variant j _ e)))
            where
              Behind : Type 0
              Behind = flat_items_at blocks
                  (place (if nat_lt at.block (length blocks) then at.block + 1 else at.block) 0 0) picks
                  ≡ flat_items_from (at.block + 1) (drop (at.block + 1) blocks) picks

              more : nat_lt at.block (length blocks) ≡ true → Behind
              more t = ap (λ (k : ℕ). flat_items_at blocks (place k 0 0) picks)
                  (if_true (nat_lt at.block (length blocks)) (at.block + 1) at.block t)

              none : nat_lt at.block (length blocks) ≡ false → Behind
              none f =
                  let h : length blocks ≤ at.block = not_less at.block (length blocks) f in
                  ap (λ (k : ℕ). flat_items_at blocks (place k 0 0) picks)
                  (if_false (nat_lt at.block (length blocks)) (at.block + 1) at.block f)
                  ∙ (ap (λ (xs : List Block). flat_items_from at.block xs picks) (drop_past at.block blocks h)
                  ∙ sym (ap (λ (xs : List Block). flat_items_from (at.block + 1) xs picks)
                  (drop_past (at.block + 1) blocks (omega (arith, h)))))

      by : (i : ℕ) → at.index ≡ i → By i
      by zero e = refl
      by (suc j) e = later j

  -- ---- where nothing is ahead

  pub record IsSettled (at : Place) : Type 0 where
    pub front : at.index ≡ 0 → at.variant ≡ 0
    pub there : (at.index == 0) ≡ false → is_some (item_at blocks at) ≡ true

  pub is_settled : (at : Place) → IsSettled (settled blocks at)
  is_settled at = by_bool (at.index == 0)
      (λ t. subst IsSettled (sym (if_true (at.index == 0) _ _ t)) (front at.block))
      (λ f. subst IsSettled (sym (if_false (at.index == 0) _ _ f))
      (by_bool (is_some (item_at blocks at))
      (λ t. subst IsSettled (sym (if_true (is_some (item_at blocks at)) _ _ t))
      (record {
        front = λ e. absurd (let k : (at.index == 0) ≡ true = ap (λ (n : ℕ). n == 0) e in
            let q : true ≡ false = sym k ∙ f in cc);
        there = λ e. t;
      }))
      (λ g. subst IsSettled (sym (if_false (is_some (item_at blocks at)) _ _ g))
      (front (if nat_lt at.block (length blocks) then at.block + 1 else at.block)))))
    where
      front : (b : ℕ) → IsSettled (place b 0 0)
      front b = record { front = λ e. refl; there = λ e. absurd cc }

  some_item : (items : List Item) → 0 < length items → (item : Item) × (slice_get items 0 ≡ Some item)
  some_item [] h = absurd (omega arith)
  some_item (item ∷ items) h = (item, refl)

  pub stop : (at : Place) (picks : List ℕ) → AllByRecursion IsBlock blocks → IsSettled at →
      length (picked_variants (blocks_at blocks at) picks) ≡ length picks →
      item_at blocks (item_place blocks at picks) ≡ None → flat_items_at blocks at picks ≡ []
  stop at picks all is named e = stopped at.block at.variant at.index picks is named e
    where
      no_both : (o : Option Item) → is_some o ≡ true → o ≡ None → ⊥
      no_both None e f = cc
      no_both (Some x) e f = cc

      block_at : (n : ℕ) (bs : List Block) (b : Block) → AllByRecursion IsBlock bs → slice_get bs n ≡ Some b → IsBlock b
      block_at n [] b a e = absurd cc
      block_at zero (x ∷ bs) b a e = let s : x ≡ b = cc in subst IsBlock s a.0
      block_at (suc n) (x ∷ bs) b a e = block_at n bs b a.1 e

      stopped : (b v i : ℕ) (picks : List ℕ) → IsSettled (place b v i) →
          length (picked_variants (blocks_at blocks (place b v i)) picks) ≡ length picks →
          item_at blocks (item_place blocks (place b v i) picks) ≡ None → flat_items_at blocks (place b v i) picks ≡ []
      stopped b v (suc j) picks is named e = absurd (no_both (item_at blocks (place b v (suc j))) (is.there (suc_not j))
          (subst (λ (f : Bool). item_at blocks (place b (if f then first_pick picks else v) (suc j)) ≡ None)
          (ap (λ (f : Bool). f && is_choice (slice_get blocks b)) (suc_not j)) e))
      stopped b v zero picks is named e = by (slice_get blocks b) refl
        where
          by : (o : Option Block) → slice_get blocks b ≡ o → flat_items_at blocks (place b v zero) picks ≡ []
          by None h = ap (λ (xs : List Block). flat_items_from b xs picks) (drop_none b blocks h)
          by (Some (One x)) h =
              let no : is_front blocks (place b v zero) ≡ false = ap is_choice h in
              let got : item_at blocks (place b v 0) ≡ None =
              subst (λ (f : Bool). item_at blocks (place b (if f then first_pick picks else v) 0) ≡ None) no e in
              let around : items_around blocks (place b v 0) ≡ x ∷ [] =
              around_is blocks (One x) b v 0 h ∙ ap (picked_items (One x)) (is.front refl) in
              absurd (no_both _ (ap (λ (xs : List Item). is_some (slice_get xs 0)) around) got)
          by (Some (Choice variants)) h =
              let yes : is_front blocks (place b v zero) ≡ true = ap is_choice h in
              let got : item_at blocks (place b (first_pick picks) 0) ≡ None =
              subst (λ (f : Bool). item_at blocks (place b (if f then first_pick picks else v) 0) ≡ None) yes e in
              let some = some_item (picked_items (Choice variants) (first_pick picks)) (long picks
              (sym (ap (λ (bs : List Block). length (picked_variants bs picks))
              (drop_at b blocks (Choice variants) h)) ∙ named)) in
              absurd (no_both _ (ap is_some (ap (λ (xs : List Item). slice_get xs 0)
              (around_is blocks (Choice variants) b (first_pick picks) 0 h) ∙ some.1)) got)
            where
              long : (ps : List ℕ) → length (picked_variants (Choice variants ∷ drop (b + 1) blocks) ps) ≡ length ps →
                  0 < length (picked_items (Choice variants) (first_pick ps))
              long [] n = begins variants (block_at b blocks (Choice variants) all h)
              long (p ∷ ps) n = let v = pick_named variants (drop (b + 1) blocks) p ps n in
                  begins_with variants p v.0 (block_at b blocks (Choice variants) all h).shape.each v.1

  -- ---- the picks that are left name variants of what is ahead

  abbrev pub Named : Place → List ℕ → Type 0
  Named at picks = length (picked_variants (blocks_at blocks at) picks) ≡ length picks

  rest_named : (variants : List Variant) (bs : List Block) (picks : List ℕ) →
      length (picked_variants (Choice variants ∷ bs) picks) ≡ length picks →
      length (picked_variants bs (drop 1 picks)) ≡ length (drop 1 picks)
  rest_named variants bs [] h = let k : length (picked_variants bs []) ≤ 0 = picked_few bs [] in omega (arith, k)
  rest_named variants bs (p ∷ ps) h =
      let one : length (option_map_or (λ (variant : Variant). variant ∷ []) (slice_get variants p) []) ≤ 1 =
      at_most (slice_get variants p) in
      let k : length (picked_variants bs ps) ≤ length ps = picked_few bs ps in
      let sum : length (option_map_or (λ (variant : Variant). variant ∷ []) (slice_get variants p) [] ++
      picked_variants bs ps)
      ≡ suc (length ps) = h in
      omega (
        arith,
        one,
        k,
        sum,
        length-append (option_map_or (λ (variant : Variant). variant ∷ []) (slice_get variants p) [])
            (picked_variants bs ps),
      )
    where
      at_most : (o : Option Variant) → length (option_map_or (λ (variant : Variant). variant ∷ []) o []) ≤ 1
      at_most None = omega arith
      at_most (Some v) = omega arith

  behind_is : (b v i : ℕ) → blocks_at blocks (next_index (place b v i)) ≡ drop (b + 1) blocks
  behind_is b v i = let n : i + 1 ≡ suc i = omega arith in
      ap (λ (t : Bool). drop (if t then b else b + 1) blocks) (ap (λ (k : ℕ). k == 0) n ∙ suc_not i)

  pub named_on : (at : Place) (picks : List ℕ) (item : Item) →
      item_at blocks (item_place blocks at picks) ≡ Some item → Named at picks →
      Named (next_index (item_place blocks at picks)) (picks_behind blocks at picks)
  named_on at picks item e named =
      subst (λ (bs : List Block). length (picked_variants bs (picks_behind blocks at picks))
      ≡ length (picks_behind blocks at picks)) (sym (behind_is at.block (item_place blocks at picks).variant at.index))
      (on at.block at.variant at.index (block_there (item_place blocks at picks) item e) named)
    where
      on : (b v i : ℕ) → ((block : Block) × (slice_get blocks b ≡ Some block)) →
          length (picked_variants (blocks_at blocks (place b v i)) picks) ≡ length picks →
          length (picked_variants (drop (b + 1) blocks) (picks_behind blocks (place b v i) picks))
          ≡ length (picks_behind blocks (place b v i) picks)
      on b v (suc j) there n =
          subst (λ (f : Bool). length (picked_variants (drop (b + 1) blocks) (if f then drop 1 picks else picks))
          ≡ length (if f then drop 1 picks else picks))
          (sym (ap (λ (f : Bool). f && is_choice (slice_get blocks b)) (suc_not j)))
          (subst (λ (bs : List Block). length (picked_variants bs picks) ≡ length picks)
          (ap (λ (t : Bool). drop (if t then b else b + 1) blocks) (suc_not j)) n)
      on b v zero (One x, h) n =
          subst (λ (f : Bool). length (picked_variants (drop (b + 1) blocks) (if f then drop 1 picks else picks))
          ≡ length (if f then drop 1 picks else picks)) (sym (ap is_choice h))
          (subst (λ (bs : List Block). length (picked_variants bs picks) ≡ length picks) (drop_at b blocks (One x) h) n)
      on b v zero (Choice variants, h) n =
          subst (λ (f : Bool). length (picked_variants (drop (b + 1) blocks) (if f then drop 1 picks else picks))
          ≡ length (if f then drop 1 picks else picks)) (sym (ap is_choice h))
          (rest_named variants (drop (b + 1) blocks) picks
          (subst (λ (bs : List Block). length (picked_variants bs picks) ≡ length picks)
          (drop_at b blocks (Choice variants) h) n))

  pub named_settled : (at : Place) (picks : List ℕ) → Named at picks → Named (settled blocks at) picks
  named_settled at picks n = subst (λ (bs : List Block). length (picked_variants bs picks) ≡ length picks)
      (sym (by at.index)) n
    where
      By : ℕ → Type 0
      By i = blocks_at blocks (settled blocks (place at.block at.variant i))
          ≡ blocks_at blocks (place at.block at.variant i)

      later : (j : ℕ) → By (suc j)
      later j = one (is_some (item_at blocks (place at.block at.variant (suc j)))) refl
        where
          start : settled blocks (place at.block at.variant (suc j))
              ≡ (if is_some (item_at blocks (place at.block at.variant (suc j))) then place at.block at.variant (suc j)
              else place (if nat_lt at.block (length blocks) then at.block + 1 else at.block) 0 0)
          start = if_false (suc j == 0) _ _ (suc_not j)

          here : blocks_at blocks (place at.block at.variant (suc j)) ≡ drop (at.block + 1) blocks
          here = ap (λ (t : Bool). drop (if t then at.block else at.block + 1) blocks) (suc_not j)

          one : (t : Bool) → is_some (item_at blocks (place at.block at.variant (suc j))) ≡ t → By (suc j)
          one true e = ap (blocks_at blocks)
              (start ∙ if_true (is_some (item_at blocks (place at.block at.variant (suc j)))) _ _ e)
          one false e = ap (blocks_at blocks)
              (start ∙ if_false (is_some (item_at blocks (place at.block at.variant (suc j)))) _ _ e)
              ∙ (by_bool (nat_lt at.block (length blocks))
              (λ t. ap (λ (k : ℕ). drop k blocks) (if_true (nat_lt at.block (length blocks)) (at.block + 1) at.block t))
              (λ f. let h : length blocks ≤ at.block = not_less at.block (length blocks) f in
              ap (λ (k : ℕ). drop k blocks) (if_false (nat_lt at.block (length blocks)) (at.block + 1) at.block f)
              ∙ (drop_past at.block blocks h ∙ sym (drop_past (at.block + 1) blocks (omega (arith, h)))))
              ∙ sym here)

      by : (i : ℕ) → By i
      by zero = refl
      by (suc j) = later j
