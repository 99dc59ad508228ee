-- Picks that name variants.
use Rattle.std.proofs.Common.{◌≡◌, subst, ℕ, suc, List, [], ◌∷◌, ◌++◌, length, Option, arith}
use Rattle.std.specs.Option.{option_map_or}
use Rattle.pg_list.specs.declared.blocks.Block.{Block}
use Rattle.pg_list.specs.declared.blocks.Block.TheVariants.{Choice}
use Rattle.pg_list.specs.declared.variants.Variant.{Variant}
use Rattle.pg_list.specs.Flat.{picked_variants}
use Rattle.law_places.proofs.Places.{pick_named}

-- how many of the picks name a variant
abbrev pub named : List Block → List ℕ → ℕ
named blocks picks = length (picked_variants blocks picks)

-- the rest of picks of which each names a variant
pub rest_named : (variants : List Variant) (blocks : List Block) (y : ℕ) (p : List ℕ) →
    named (Choice variants ∷ blocks) (y ∷ p) ≡ suc (length p) → named blocks p ≡ length p
rest_named variants blocks y p h =
    let v = pick_named variants blocks y p h in
    let l : suc (length (picked_variants blocks p)) ≡ suc (length p) =
    subst (λ (o : Option Variant). length
    (option_map_or (λ (variant : Variant). variant ∷ []) o [] ++ picked_variants blocks p)
    ≡ suc (length p)) v.1 h in
    omega arith
