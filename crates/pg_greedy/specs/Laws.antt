-- The laws of first fit.
use Rattle.std.specs.Prelude.{◌≡◌, ◌⊎◌, pos, ◌-ℤ◌, ◌≤ℤ◌}
use Rattle.pg_list.specs.GalleyValue.{GalleyValue}
use Rattle.pg_plan.specs.declared.pages.Pagination.{Pagination}
use Rattle.pg_style.specs.Values.{StyleValue}
use Rattle.pg_rules.specs.Best.{Best}
use Rattle.pg_rules.specs.Cost.{cost}
use Rattle.pg_rules.specs.Legal.{Legal}
use Rattle.pg_greedy.specs.Ahead.{first_fit}
use Rattle.pg_greedy.specs.FirstFit.{IsFirstFit}

-- the computed pagination is a first fit, and no other is
pub record FirstFitIsOne (galley : GalleyValue) (style : StyleValue) : Type 0 where
  pub is : IsFirstFit galley style (first_fit galley style)
  pub only : (plan : Pagination) → IsFirstFit galley style plan → plan ≡ first_fit galley style

-- what a search answers: a best pagination, or that none is legal
abbrev pub Solved : GalleyValue → StyleValue → Type 0
Solved galley style =
    ((best : Pagination) × Best galley style best) ⊎ ((plan : Pagination) → Legal galley style plan → ⊥)

-- a best pagination that costs no more
pub record IsSaved (galley : GalleyValue) (style : StyleValue) (plan : Pagination) : Type 0 where
  pub plan_best : Pagination
  pub best : Best galley style plan_best
  pub saved : pos 0 ≤ℤ (cost galley style plan -ℤ cost galley style plan_best)

abbrev pub SavingIsNotNegative : GalleyValue → StyleValue → Type 0
SavingIsNotNegative galley style =
    (plan : Pagination) → Legal galley style plan → Solved galley style → IsSaved galley style plan
