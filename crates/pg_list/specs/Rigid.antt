-- Galleys of boxes and glue that neither stretches nor shrinks.
use Rattle.std.specs.Prelude.{◌≡◌, List, pos}
use Rattle.std.specs.List.{AllByRecursion}
use Rattle.pg_list.specs.declared.item.Item.{Item}
use Rattle.pg_list.specs.declared.item.Item.TheVariants.{BoxItem, Glue}
use Rattle.pg_list.specs.declared.blocks.Block.{Block}
use Rattle.pg_list.specs.declared.blocks.Block.TheVariants.{One, Choice}

-- a box, or glue that neither stretches nor shrinks
abbrev pub IsRigid : Item → Type 0
IsRigid (BoxItem height depth body) = Unit {0}
IsRigid (Glue width stretch order shrink body) = (stretch ≡ pos 0) × (shrink ≡ pos 0)
IsRigid _ = ⊥

-- the same of a block, which is no choice
abbrev pub IsRigidBlock : Block → Type 0
IsRigidBlock (One item) = IsRigid item
IsRigidBlock (Choice variants) = ⊥

-- the same of all blocks
abbrev pub AreRigid : List Block → Type 0
AreRigid blocks = AllByRecursion IsRigidBlock blocks
