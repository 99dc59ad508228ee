-- The ranges in which what is written reads back.
use Rattle.std.specs.Prelude.{◌<◌, ◌^◌, ◌-◌, ◌&&◌, ℕ, Bool, List, ℤ, pos, negsuc, int_le, int_lt}
use Rattle.std.specs.List.{AllByRecursion}
use Rattle.pg_list.specs.declared.galley.Place.{Place}

-- within 128 bits
abbrev pub is_wide : ℤ → Bool
is_wide z = int_le (negsuc (2 ^ 127 - 1)) z && int_lt z (pos (2 ^ 127))

-- each number is below the bound
abbrev pub AllBelow : ℕ → List ℕ → Type 0
AllBelow bound ns = AllByRecursion (λ (n : ℕ). n < bound) ns

-- of 32 bits each
pub record IsPrintedPlace (at : Place) : Type 0 where
  pub block : at.block < 2 ^ 32
  pub variant : at.variant < 2 ^ 32
  pub index : at.index < 2 ^ 32
