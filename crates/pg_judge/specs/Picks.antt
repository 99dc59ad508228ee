-- What picks cost, block by block.
use Rattle.std.specs.Prelude.{ℕ, ◌+◌, List, [], ◌∷◌}
use Rattle.std.specs.Option.{option_map_or}
use Rattle.pg_list.specs.declared.blocks.Block.{Block}
use Rattle.pg_list.specs.declared.variants.Variant.{Variant}
use Rattle.pg_column.specs.Ahead.{first_variant, picks_after}

-- the demerits of the variants that picks name
abbrev pub pick_cost : List Block → List ℕ → ℕ
pick_cost [] picks = 0
pick_cost (block ∷ blocks) picks =
    option_map_or (λ (variant : Variant). variant.demerits) (first_variant block picks) 0
    + pick_cost blocks (picks_after block picks)
