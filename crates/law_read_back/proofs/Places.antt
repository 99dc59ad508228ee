-- The places of a galley are in range.
use Rattle.std.proofs.Common.{◌≡◌, refl, sym, ap, subst, ◌<◌, ◌≤◌, ℕ, zero, suc, Bool, true, false, List, [], ◌∷◌, length, arith, inl, inr}
use Rattle.std.proofs.lemmas.List.Sums.{sum_by-cons}
use Rattle.std.specs.Prelude.{◌==◌, is_some, slice_get, unwrap_or, option_map, Option, Some, None, if◌then◌else◌}
use Rattle.std.specs.List.{AllByRecursion, sum_by}
use Rattle.pg_list.proofs.Places.{same_place}
use Rattle.std.proofs.lemmas.Bool.{eqb-true}
use Rattle.pg_list.specs.declared.galley.Place.{Place}
use Rattle.pg_list.specs.declared.blocks.Block.{Block}
use Rattle.pg_list.specs.declared.blocks.Block.TheVariants.{One, Choice}
use Rattle.pg_list.specs.declared.variants.Variant.{Variant}
use Rattle.pg_list.specs.Counts.{block_size, item_count, item_limit}
use Rattle.pg_list.specs.Places.{picked_items, items_around}
use Rattle.pg_list.specs.Shapes.{IsBlock}
use Rattle.pg_list.specs.Flat.{end_of}
use Rattle.pg_rules.specs.IsState.{IsPlace}
use Rattle.law_words.specs.Ranges.{IsPrintedPlace}
use Rattle.law_read_back.proofs.Ranges.{some_within}
use Rattle.pg_lemmas.proofs.Lists.{get_all}
use Rattle.pg_list.proofs.Sizes.{blocks_le}

pub sum_at : {X : Type 0} (f : X → ℕ) (xs : List X) (n : ℕ) (x : X) → slice_get xs n ≡ Some x → f x ≤ sum_by f xs
sum_at f [] n x e = absurd cc
sum_at f (y ∷ ys) zero x e = let s : y ≡ x = same y x e in
    let t : f y ≡ f x = ap f s in
    let c = sum_by-cons f y ys in omega (arith, t, c)
  where
    same : {X : Type 0} (a b : X) → Some a ≡ Some b → a ≡ b
    same a b e = cc
sum_at f (y ∷ ys) (suc n) x e = let r = sum_at f ys n x e in let c = sum_by-cons f y ys in omega (arith, r, c)

-- the items of a variant of a block
around : (block : Block) (variant index : ℕ) → IsBlock block → index < length (picked_items block variant) →
    (variant < 5) × (index < block_size block)
around (One item) variant index a h = by (variant == 0) refl h
  where
    by : (b : Bool) → b ≡ (variant == 0) → index < length (if b then item ∷ [] else []) → (variant < 5) × (index < 1)
    by true e k = let z : variant ≡ 0 = eqb-true variant 0 (sym e) in (omega (arith, z), omega arith)
    by false e k = absurd (omega arith)
around (Choice variants) variant index a h = by (slice_get variants variant) refl h
  where
    by : (o : Option Variant) → o ≡ slice_get variants variant →
        index < length (unwrap_or (option_map (λ (v : Variant). v.items) o) []) →
        (variant < 5) × (index < sum_by (λ (v : Variant). length v.items) variants)
    by None e k = absurd (omega arith)
    by (Some v) e k =
        let w = some_within variants variant (ap is_some (sym e)) in
        let f : length variants ≤ 5 = a.shape.few in
        let s = sum_at (λ (v : Variant). length v.items) variants variant v (sym e) in
        (omega (arith, w, f), omega (arith, s))

within_place : (blocks : List Block) (at : Place) → AllByRecursion IsBlock blocks → item_count blocks ≤ item_limit →
    at.index < length (items_around blocks at) → IsPrintedPlace at
within_place blocks at a limit h = by (slice_get blocks at.block) refl h
  where
    by : (o : Option Block) → o ≡ slice_get blocks at.block →
        at.index < length (unwrap_or (option_map (λ (block : Block). picked_items block at.variant) o) []) →
        IsPrintedPlace at
    by None e k = absurd (omega arith)
    by (Some b) e k =
        let w = some_within blocks at.block (ap is_some (sym e)) in
        let few = blocks_le blocks a in
        let r = around b at.variant at.index (get_all IsBlock blocks at.block b a (sym e)) k in
        let s = sum_at block_size blocks at.block b (sym e) in
        record {
          block = omega (arith, w, few, limit);
          variant = omega (arith, r.0);
          index = omega
              (arith, r.1, s, limit);
        }

pub place_printed : (blocks : List Block) (at : Place) → AllByRecursion IsBlock blocks →
    item_count blocks ≤ item_limit →
    IsPlace blocks at → IsPrintedPlace at
place_printed blocks at a limit h = elim h.within [
  | inl e ↦ (let few = blocks_le blocks a in
      subst IsPrintedPlace (sym (same_place at (end_of blocks) e))
      (record { block = omega (arith, few, limit); variant = omega arith; index = omega arith }))
  | inr w ↦ within_place blocks at a limit w
]
