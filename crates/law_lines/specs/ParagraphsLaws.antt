-- What the galley of paragraphs keeps, in the words of its contracts.
use Rattle.std.specs.Prelude.{◌≤◌, ◌^◌, List, Ok, pos, ◌<ℤ◌}
use Rattle.std.specs.List.{AllByRecursion}
use Rattle.pg_list.specs.GalleyValue.{GalleyValue}
use Rattle.pg_list.specs.Shapes.{IsBlock}
use Rattle.pg_hlist.specs.declared.item.HItem.{HItem}
use Rattle.law_lines.specs.declared.rule.LineRule.{LineRule}
use Rattle.law_lines.specs.Galleys.{Broken}

-- the ranges of the numbers of a rule
pub record IsRule (rule : LineRule) : Type 0 where
  pub some : pos 0 <ℤ rule.width
  pub low : rule.width <ℤ pos (2 ^ 30)
  pub tolerance : rule.tolerance ≤ 10000
  pub around : rule.around ≤ 2

-- each block of the galley is an item in range or a choice
abbrev pub MakesBlocks : LineRule → List (List HItem) → Type 0
MakesBlocks rule paras = (galley : GalleyValue) → Broken rule paras (Ok galley) → AllByRecursion IsBlock galley.blocks
