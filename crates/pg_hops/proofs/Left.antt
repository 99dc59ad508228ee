-- A stretch has no more items than stand ahead of it up to its front.
use Rattle.std.proofs.Common.{◌≡◌, refl, ap, ◌∙◌, ℕ, zero, suc, ◌+◌, ◌≤◌, List, [], ◌∷◌, ◌++◌, length, length-append, drop, arith, Bool, true, false, Option, Some, None}
use Rattle.std.specs.Prelude.{◌==◌, if◌then◌else◌, slice_get, unwrap_or, option_map}
use Rattle.std.proofs.lemmas.List.{length-drop}
use Rattle.pg_list.specs.Counts.{item_count}
use Rattle.pg_list.specs.declared.blocks.Block.{Block}
use Rattle.pg_list.specs.declared.blocks.Block.TheVariants.{One, Choice}
use Rattle.pg_list.specs.declared.galley.Place.{Place}
use Rattle.pg_list.specs.Places.{items_around, picked_items, place}
use Rattle.pg_list.proofs.Sizes.{item_count_cons, picked_le}
use Rattle.pg_list.specs.Flat.{variant_flat_items}
use Rattle.pg_breaks.proofs.Walk.{variant_length}
use Rattle.pg_column.proofs.Ahead.{drop_at, drop_none}
use Rattle.law_walk.specs.Walk.{first_front, first_items, next_front, picked_front, picked_stretch, singles}

pub singles_left : (blocks : List Block) (n : ℕ) →
    length (singles n (drop n blocks)) + item_count (drop (next_front n (drop n blocks)) blocks)
    ≤ item_count (drop n blocks)
singles_left blocks n = by (drop n blocks) n refl
  where
    by : (rest : List Block) (m : ℕ) → drop m blocks ≡ rest →
        length (singles m rest) + item_count (drop (next_front m rest) blocks) ≤ item_count rest
    by [] m e = let same = ap item_count e in omega (arith, same)
    by (Choice variants ∷ rest) m e = let same = ap item_count e in omega (arith, same)
    by (One item ∷ rest) m e =
        let more = by rest (m + 1) (next_drop blocks m (One item) rest e) in
        let size = item_count_cons (One item) rest in omega (arith, more, size)
      where
        next_drop : (bs : List Block) (k : ℕ) (x : Block) (xs : List Block) → drop k bs ≡ x ∷ xs → drop (k + 1) bs ≡ xs
        next_drop [] zero x xs f = absurd cc
        next_drop [] (suc k) x xs f = absurd cc
        next_drop (y ∷ bs) zero x xs f = ap (drop 1) f
        next_drop (y ∷ bs) (suc k) x xs f = let q : suc k + 1 ≡ suc (k + 1) = omega arith in
            ap (λ (j : ℕ). drop j (y ∷ bs)) q ∙ next_drop bs k x xs f

-- the items of a variant from an index on, and the single blocks behind it
pub inner_left : (blocks : List Block) (b v i : ℕ) →
    length (drop i (variant_flat_items b v (items_around blocks (place b v 0)))
    ++ singles (b + 1) (drop (b + 1) blocks))
    + item_count (drop (next_front (b + 1) (drop (b + 1) blocks)) blocks) ≤ item_count (drop b blocks)
inner_left blocks b v i =
    let behind = singles_left blocks (b + 1) in
    let both = length-append (drop i (variant_flat_items b v (items_around blocks (place b v 0))))
    (singles (b + 1) (drop (b + 1) blocks)) in
    let own = length-drop i (variant_flat_items b v (items_around blocks (place b v 0))) in
    let long = variant_length b v (items_around blocks (place b v 0)) in
    let here : length (items_around blocks (place b v 0)) + item_count (drop (b + 1) blocks) ≤ item_count (drop b blocks) =
    at (slice_get blocks b) refl in
    omega (arith, behind, both, own, long, here)
  where
    at : (o : Option Block) → slice_get blocks b ≡ o →
        length (unwrap_or (option_map (λ (block : Block). picked_items block v) o) []) + item_count (drop (b + 1) blocks)
        ≤ item_count (drop b blocks)
    at None e =
        let none = ap item_count (drop_none (b + 1) blocks (past blocks b e)) in omega (arith, none)
      where
        past : (bs : List Block) (k : ℕ) → slice_get bs k ≡ None → slice_get bs (k + 1) ≡ None
        past [] zero f = refl
        past [] (suc k) f = refl
        past (x ∷ bs) zero f = absurd cc
        past (x ∷ bs) (suc k) f = let q : suc k + 1 ≡ suc (k + 1) = omega arith in
            ap (slice_get (x ∷ bs)) q ∙ past bs k f
    at (Some block) e =
        let cut = ap item_count (drop_at b blocks block e) in
        let size = item_count_cons block (drop (b + 1) blocks) in
        let few = picked_le block v in omega (arith, cut, size, few)

pub picked_left : (blocks : List Block) (b pick : ℕ) →
    length (picked_stretch blocks b pick) + item_count (drop (picked_front blocks b) blocks) ≤ item_count (drop b blocks)
picked_left blocks b pick = inner_left blocks b pick 0

fewer_left : (blocks : List Block) (n : ℕ) → item_count (drop n blocks) ≤ item_count blocks
fewer_left blocks zero = omega arith
fewer_left [] (suc n) = omega arith
fewer_left (x ∷ blocks) (suc n) =
    let more = fewer_left blocks n in let size = item_count_cons x blocks in omega (arith, more, size)

pub first_left : (blocks : List Block) (from : Place) →
    length (first_items blocks from) + item_count (drop (first_front blocks from) blocks) ≤ item_count blocks
first_left blocks from = by (from.index == 0)
  where
    by : (t : Bool) → length (if t then singles from.block (drop from.block blocks)
        else drop from.index (variant_flat_items from.block from.variant (items_around blocks from))
        ++ singles (from.block + 1) (drop (from.block + 1) blocks))
        + item_count (drop (if t then next_front from.block (drop from.block blocks)
        else next_front (from.block + 1) (drop (from.block + 1) blocks)) blocks) ≤ item_count blocks
    by true = let one = singles_left blocks from.block in omega (arith, one, fewer_left blocks from.block)
    by false = let one = inner_left blocks from.block from.variant from.index in
        omega (arith, one, fewer_left blocks from.block)
