-- What is known of a list of floats, and how high an area may be.
use Rattle.std.specs.Prelude.{◌≤◌, ◌^◌, List, Option, Some, None, ℤ, pos, nat_abs, ◌≤ℤ◌}
use Rattle.pg_list.specs.declared.blocks.Block.{Block}
use Rattle.pg_style.specs.Values.{StyleValue}
use Rattle.pg_floats.specs.AreFloats.{AreFloats, float_total}
use Rattle.pg_floats.specs.FloatsValue.{ClassFloatsValue}

-- the list of the floats of blocks, which are at most 2^12
pub record IsListOf (blocks : List Block) (style : StyleValue) (list : List ClassFloatsValue) : Type 0 where
  pub floats : AreFloats blocks style list
  pub few : float_total blocks style ≤ 2 ^ 12

-- from 0 to four floats, three separators and a gap
pub record IsAreaHeight (height : ℤ) : Type 0 where
  pub from : pos 0 ≤ℤ height
  pub to : nat_abs height ≤ 8589934584

abbrev pub IsWideHeight : Option ℤ → Type 0
IsWideHeight None = Unit {0}
IsWideHeight (Some height) = IsAreaHeight height
