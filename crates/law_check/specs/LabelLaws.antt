-- What closed labels say of all paginations.
use Rattle.std.specs.Prelude.{◌↔◌, List, ℤ, ◌≤ℤ◌}
use Rattle.pg_list.specs.GalleyValue.{GalleyValue}
use Rattle.pg_list.specs.declared.galley.Place.{Place}
use Rattle.pg_plan.specs.declared.pages.Pagination.{Pagination}
use Rattle.pg_plan.specs.declared.states.Label.{Label}
use Rattle.pg_style.specs.Values.{StyleValue}
use Rattle.pg_rules.specs.Best.{Best}
use Rattle.pg_rules.specs.Closed.{Closed}
use Rattle.pg_rules.specs.Cost.{cost}
use Rattle.pg_rules.specs.Follow.{Follow}
use Rattle.pg_rules.specs.Frontier.{Frontier}
use Rattle.pg_rules.specs.Legal.{Legal, document}
use Rattle.law_space.specs.PageSpace.{FollowBest}
use Rattle.law_check.specs.Gaps.{ClosedByBest, Gap, NoneCheaper, NoneFinished}

-- no legal pagination costs less than what no finished label costs less than
abbrev pub ClosedBound : GalleyValue → StyleValue → Type 0
ClosedBound galley style = (labels : List Label) (n : ℤ) (plan : Pagination) → Closed galley style labels →
    NoneCheaper (document galley style) labels n → Legal galley style plan → n ≤ℤ cost galley style plan

-- where no label is finished, no pagination is legal
abbrev pub ClosedNone : GalleyValue → StyleValue → Type 0
ClosedNone galley style = (labels : List Label) (plan : Pagination) → Closed galley style labels →
    NoneFinished (document galley style) labels → Legal galley style plan → ⊥

-- labels are closed exactly where they are with best picks alone
abbrev pub BestPicksClose : GalleyValue → StyleValue → Type 0
BestPicksClose galley style = (labels : List Label) → Closed galley style labels ↔ ClosedByBest galley style labels

-- a column that is not covered ends here exactly where one with best picks does
abbrev pub BestPicksGap : GalleyValue → StyleValue → Type 0
BestPicksGap galley style = (labels : List Label) (label : Label) (to : Place) →
    Gap (Follow (document galley style)) labels label to ↔ Gap (FollowBest (document galley style)) labels label to

-- ---- the frontier

-- the frontier is closed
abbrev pub FrontierCloses : GalleyValue → StyleValue → Type 0
FrontierCloses galley style = (labels : List Label) → Frontier galley style labels → Closed galley style labels

-- none of the frontier's finished labels costs less than a best pagination
abbrev pub FrontierBounds : GalleyValue → StyleValue → Type 0
FrontierBounds galley style = (labels : List Label) (plan : Pagination) → Frontier galley style labels →
    Best galley style plan → NoneCheaper (document galley style) labels (cost galley style plan)

-- where no pagination is legal, none of the frontier's labels is finished
abbrev pub FrontierNone : GalleyValue → StyleValue → Type 0
FrontierNone galley style = (labels : List Label) → Frontier galley style labels →
    ((plan : Pagination) → Legal galley style plan → ⊥) → NoneFinished (document galley style) labels
