-- The places of a galley, and which stand behind which.
use Rattle.std.specs.Prelude.{◌≡◌, ℕ, ◌+◌, ◌<◌, ◌⊎◌, List, take}
use Rattle.pg_list.specs.declared.blocks.Block.{Block}
use Rattle.pg_list.specs.declared.galley.Place.{Place}
use Rattle.pg_list.specs.Counts.{item_count}
use Rattle.pg_rules.specs.IsState.{IsPlace}

-- how many items stand before a place, those of all variants counted
abbrev pub far : List Block → Place → ℕ
far blocks at = item_count (take at.block blocks) + at.index

-- later in the block, and in its variant where it is inside one
pub record LaterIn (from at : Place) : Type 0 where
  pub block : from.block ≡ at.block
  pub index : from.index < at.index
  pub variant : 0 < from.index → from.variant ≡ at.variant

-- in a later block, or later in the block
abbrev pub Past : Place → Place → Type 0
Past from at = (from.block < at.block) ⊎ LaterIn from at

-- a place of the galley that stands behind
pub record IsPast (blocks : List Block) (from at : Place) : Type 0 where
  pub place : IsPlace blocks at
  pub past : Past from at
