-- Places and picks.
use Rattle.std.proofs.Common.{◌≡◌, ◌≤◌, ◌+◌, ℕ, suc, take, List, [], ◌∷◌, length, arith, true}
use Rattle.std.specs.Prelude.{◌==◌, ◌&&◌, Option, Some, None, cond, slice_get}
use Rattle.std.specs.Option.{option_map_or}
use Rattle.std.proofs.lemmas.Bool.{eqb-true}
use Rattle.std.proofs.Common.{length-append}
use Rattle.pg_lemmas.proofs.Bools.{both_of}
use Rattle.pg_list.specs.declared.blocks.Block.{Block}
use Rattle.pg_list.specs.declared.blocks.Block.TheVariants.{One, Choice}
use Rattle.pg_list.specs.declared.galley.Place.{Place}
use Rattle.pg_list.specs.declared.variants.Variant.{Variant}
use Rattle.std.proofs.lemmas.List.Sums.{sum_by-cons}
use Rattle.pg_list.specs.Flat.{FlatItem, fronts, is_same_place, picked_variants}

-- places that a test finds alike are one
pub same_place : (a b : Place) → is_same_place a b ≡ true → a ≡ b
same_place a b h =
    let t = both_of ((a.block == b.block) && (a.variant == b.variant)) (a.index == b.index) h in
    let s = both_of (a.block == b.block) (a.variant == b.variant) t.0 in
    let p : a.block ≡ b.block = eqb-true a.block b.block s.0 in
    let q : a.variant ≡ b.variant = eqb-true a.variant b.variant s.1 in
    let r : a.index ≡ b.index = eqb-true a.index b.index t.1 in
    make a.block a.variant a.index b.block b.variant b.index p q r
  where
    make : (b v i b' v' i' : ℕ) → b ≡ b' → v ≡ v' → i ≡ i' →
        ◌≡◌ {A = Place} (record { block = b; variant = v; index = i })
        (record { block = b'; variant = v'; index = i' })
    make b v i b' v' i' p q r = cc

-- picks name no more variants than they are
pub picked_few : (blocks : List Block) (picks : List ℕ) → length (picked_variants blocks picks) ≤ length picks
picked_few [] picks = omega arith
picked_few (One item ∷ blocks) picks = picked_few blocks picks
picked_few (Choice variants ∷ blocks) [] = omega arith
picked_few (Choice variants ∷ blocks) (pick ∷ picks) =
    let one : length (option_map_or (λ (variant : Variant). variant ∷ []) (slice_get variants pick) []) ≤ 1 =
    at_most (slice_get variants pick) in
    let rest : length (picked_variants blocks picks) ≤ length picks = picked_few blocks picks in
    omega (
      arith,
      length-append (option_map_or (λ (variant : Variant). variant ∷ []) (slice_get variants pick)
          []) (picked_variants blocks picks),
    )
  where
    at_most : (o : Option Variant) → length (option_map_or (λ (variant : Variant). variant ∷ []) o []) ≤ 1
    at_most None = omega arith
    at_most (Some v) = omega arith

-- one front more, where the next item is one
pub fronts_cons : (x : FlatItem) (xs : List FlatItem) (k : ℕ) →
    fronts (x ∷ xs) (suc k) ≡ cond x.is_front 1 0 + fronts xs k
fronts_cons x xs k = sum_by-cons (λ (flat_item : FlatItem). cond flat_item.is_front 1 0) x (take k xs)
