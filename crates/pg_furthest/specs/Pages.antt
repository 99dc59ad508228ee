-- The best pagination that labels tell, with what its columns add to the cost.
use Rattle.std.specs.Prelude.{◌≡◌, ◌<◌, ◌^◌, ℕ, Bool, true, false, List, length, reverse, slice_get, Option, Some, None}
use Rattle.pg_list.specs.GalleyValue.{GalleyValue}
use Rattle.pg_plan.specs.Order.{columns}
use Rattle.pg_plan.specs.declared.pages.PageMove.{PageMove}
use Rattle.pg_plan.specs.declared.pages.Pagination.{Pagination}
use Rattle.pg_plan.specs.declared.states.State.{State}
use Rattle.pg_style.specs.Values.{StyleValue}
use Rattle.law_columns.specs.Pages.{plan_of}
use Rattle.law_columns.specs.Stands.{Stand}
use Rattle.pg_rules.specs.Best.{Best}
use Rattle.pg_rules.specs.Cost.{cost}
use Rattle.pg_rules.specs.Legal.{Legal, document}
use Rattle.pg_table.specs.Label.{RunOf}
use Rattle.pg_table.specs.declared.table.Entry.{Entry}
use Rattle.pg_parts.specs.Priced.{ArePriced}
use Rattle.pg_furthest.specs.declared.best.BestPages.{BestPages}

-- the columns of a label's run: they fill the pages of their pagination, each stands behind those before it, and they
-- are few
pub record AreColumns (galley : GalleyValue) (style : StyleValue) (ms : List PageMove) : Type 0 where
  pub columns : columns (plan_of style ms) ≡ ms
  pub stand : Stand (document galley style) ms
  pub few : length ms < 2 ^ 31

-- the columns of this label's run are the best pagination, at its cost
pub record IsBestLabel (galley : GalleyValue) (style : StyleValue) (labels : List (Entry State PageMove)) (at : ℕ) :
    Type 0 where
  pub within : at < length labels
  pub best : (label : Entry State PageMove) (ms : List PageMove) → slice_get labels at ≡ Some label →
      RunOf labels label ms → Best galley style (plan_of style ms) × (cost galley style (plan_of style ms) ≡ label.cost)

-- the label of the best pagination, or none where no pagination is legal
abbrev pub TellsBest : GalleyValue → StyleValue → List (Entry State PageMove) → Option ℕ → Type 0
TellsBest galley style labels None = (plan : Pagination) → Legal galley style plan → ⊥
TellsBest galley style labels (Some at) = IsBestLabel galley style labels at

-- the best pagination with its cost, and what each of its columns adds to it
pub record IsBestPages (galley : GalleyValue) (style : StyleValue) (pages : BestPages) : Type 0 where
  pub best : Best galley style pages.plan
  pub cost : cost galley style pages.plan ≡ pages.cost
  pub priced : ArePriced (document galley style) (columns pages.plan) (reverse pages.pricing.columns.items)
  pub few : length pages.pricing.columns.items < 2 ^ 31

-- the same, or nothing where no pagination is legal
abbrev pub TellsBestPages : GalleyValue → StyleValue → Option BestPages → Type 0
TellsBestPages galley style None = (plan : Pagination) → Legal galley style plan → ⊥
TellsBestPages galley style (Some pages) = IsBestPages galley style pages

-- whether some pagination is legal
abbrev pub TellsLegal : GalleyValue → StyleValue → Bool → Type 0
TellsLegal galley style true = (plan : Pagination) × Legal galley style plan
TellsLegal galley style false = (plan : Pagination) → Legal galley style plan → ⊥
