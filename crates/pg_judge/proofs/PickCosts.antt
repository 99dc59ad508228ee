-- What picks cost is the sum over the variants that they name.
use Rattle.std.proofs.Common.{◌≡◌, refl, ap, ◌∙◌, ℕ, ◌+◌, arith, List, [], ◌∷◌, ◌++◌, Option, Some, None, ℤ, pos, ◌+ℤ◌}
use Rattle.std.specs.Prelude.{slice_get}
use Rattle.std.specs.Option.{option_map_or}
use Rattle.std.proofs.lemmas.Int.{ints}
use Rattle.pg_list.specs.declared.blocks.Block.{Block}
use Rattle.pg_list.specs.declared.blocks.Block.TheVariants.{One, Choice}
use Rattle.pg_list.specs.declared.variants.Variant.{Variant}
use Rattle.pg_list.specs.Flat.{picked_variants}
use Rattle.pg_list.specs.Whole.{whole_sum_by}
use Rattle.pg_judge.specs.Picks.{pick_cost}

abbrev pub variants_cost : List Variant → ℤ
variants_cost variants = whole_sum_by (λ (variant : Variant). pos variant.demerits) variants

pub no_picks : (blocks : List Block) → pick_cost blocks [] ≡ 0
no_picks [] = refl
no_picks (One item ∷ blocks) = let r = no_picks blocks in omega (arith, r)
no_picks (Choice variants ∷ blocks) = let r = no_picks blocks in omega (arith, r)

pub costs_are : (blocks : List Block) (picks : List ℕ) → pos (pick_cost blocks picks) ≡ variants_cost (picked_variants blocks picks)
costs_are [] picks = refl
costs_are (One item ∷ blocks) picks =
    (let e : 0 + pick_cost blocks picks ≡ pick_cost blocks picks = omega arith in ap pos e) ∙ costs_are blocks picks
costs_are (Choice variants ∷ blocks) [] = ap pos (no_picks (Choice variants ∷ blocks))
costs_are (Choice variants ∷ blocks) (pick ∷ picks) =
    by (slice_get variants pick) (pick_cost blocks picks) (costs_are blocks picks)
  where
    by : (o : Option Variant) (n : ℕ) → pos n ≡ variants_cost (picked_variants blocks picks) →
        pos (option_map_or (λ (variant : Variant). variant.demerits) o 0 + n)
        ≡ variants_cost (option_map_or (λ (variant : Variant). variant ∷ []) o [] ++ picked_variants blocks picks)
    by None n e = (let z : 0 + n ≡ n = omega arith in ap pos z) ∙ e
    by (Some v) n e = (let s : pos (v.demerits + n) ≡ pos v.demerits +ℤ pos n = omega (arith, ints) in s)
        ∙ ap (λ (z : ℤ). pos v.demerits +ℤ z) e
