-- What solving a galley under a style tells.
use Rattle.std.specs.Prelude.{◌≡◌, ℕ, List, length}
use Rattle.pg_list.specs.GalleyValue.{GalleyValue}
use Rattle.pg_plan.specs.declared.pages.Pagination.{Pagination}
use Rattle.pg_plan.specs.declared.states.Label.{Label}
use Rattle.pg_style.specs.Values.{StyleValue}
use Rattle.pg_rules.specs.Best.{Best}
use Rattle.pg_rules.specs.Cost.{cost}
use Rattle.pg_rules.specs.Frontier.{Frontier}
use Rattle.pg_rules.specs.Legal.{Legal}
use Rattle.pg_space.specs.declared.solving.Outcome.{Outcome}
use Rattle.pg_space.specs.declared.solving.Outcome.TheVariants.{Best as BestIs, NoLegal}

-- the best pagination with its cost, or that none is legal
abbrev pub Solves : GalleyValue → StyleValue → Outcome → Type 0
Solves galley style (BestIs plan total) = Best galley style plan × (cost galley style plan ≡ total)
Solves galley style NoLegal = (plan : Pagination) → Legal galley style plan → ⊥

-- the frontier of the galley has so many labels
pub record HasFrontier (galley : GalleyValue) (style : StyleValue) (count : ℕ) : Type 0 where
  pub labels : List Label
  pub frontier : Frontier galley style labels
  pub counted : length labels ≡ count
