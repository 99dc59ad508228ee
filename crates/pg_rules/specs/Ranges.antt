-- What the types of a galley and of a style keep.
use Rattle.std.specs.Prelude.{◌≤◌}
use Rattle.std.specs.List.{AllByRecursion}
use Rattle.pg_list.specs.Counts.{item_count, item_limit}
use Rattle.pg_list.specs.GalleyValue.{GalleyValue}
use Rattle.pg_list.specs.Shapes.{IsBlock}
use Rattle.std.proofs.Props.{props}
use Rattle.pg_list.specs.OneProof.{IsBlock_prop}
use Rattle.pg_style.specs.OneProof.{IsStyle_prop}
use Rattle.pg_style.specs.Ranges.{IsStyle}
use Rattle.pg_style.specs.Values.{StyleValue}

-- each block and each number of the style is within its range, and the galley within its limit
pub record AreInRange (galley : GalleyValue) (style : StyleValue) : Type 0 where
  pub blocks : AllByRecursion IsBlock galley.blocks
  pub limit : item_count galley.blocks ≤ item_limit
  pub style_in : IsStyle style

-- this has one proof at most
pub AreInRange_prop : (galley : GalleyValue) (style : StyleValue) → IsProp (AreInRange galley style)
AreInRange_prop galley style = hlevel (props, IsBlock_prop, IsStyle_prop)
