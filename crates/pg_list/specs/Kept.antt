-- The numbers that a galley keeps.
use Rattle.std.specs.Prelude.{◌≡◌, ◌≤◌, ℕ, ℤ, List}
use Rattle.pg_list.specs.declared.blocks.Block.{Block}
use Rattle.pg_scaled.specs.Ranges.{IsScaled}
use Rattle.pg_list.specs.Counts.{item_count, item_limit}
use Rattle.pg_list.specs.Places.{tail, solid}

-- the width is in range, there are not too many items, and the numbers are those of the blocks
pub record IsKept (width : ℤ) (blocks : List Block) (count tail_count solid_count : ℕ) : Type 0 where
  pub width_in : IsScaled width
  pub few : item_count blocks ≤ item_limit
  pub count_is : count ≡ item_count blocks
  pub tail_is : tail_count ≡ tail blocks
  pub solid_is : solid_count ≡ solid blocks
