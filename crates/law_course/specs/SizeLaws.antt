-- How large legal paginations and first fits are.
use Rattle.std.specs.Prelude.{◌<◌, ◌≤◌, ◌^◌, length}
use Rattle.pg_list.specs.GalleyValue.{GalleyValue}
use Rattle.pg_plan.specs.Order.{columns}
use Rattle.pg_plan.specs.declared.pages.Pagination.{Pagination}
use Rattle.pg_style.specs.Values.{StyleValue}
use Rattle.pg_rules.specs.Cost.{cost}
use Rattle.pg_rules.specs.Legal.{Legal}
use Rattle.pg_floats.specs.AreFloats.{float_total}
use Rattle.pg_table.specs.Space.{Small}
use Rattle.pg_greedy.specs.FirstFit.{IsFirstFit}

-- few pages, and fewer where a list may have all floats; and a cost below 2^60 in size
pub record IsSmallPlan (galley : GalleyValue) (style : StyleValue) (plan : Pagination) : Type 0 where
  pub pages : length plan.pages < 2 ^ 30
  pub few : float_total galley.blocks style ≤ 2 ^ 12 → length plan.pages < 2 ^ 21
  pub cost : Small (cost galley style plan)

abbrev pub LegalAreSmall : GalleyValue → StyleValue → Type 0
LegalAreSmall galley style = (plan : Pagination) → Legal galley style plan → IsSmallPlan galley style plan

-- no more pages than items, and no more columns
pub record IsShortPlan (plan : Pagination) : Type 0 where
  pub pages : length plan.pages ≤ 2 ^ 20
  pub columns : length (columns plan) ≤ 2 ^ 20

abbrev pub FirstFitsAreShort : GalleyValue → StyleValue → Type 0
FirstFitsAreShort galley style = (plan : Pagination) → IsFirstFit galley style plan → IsShortPlan plan
