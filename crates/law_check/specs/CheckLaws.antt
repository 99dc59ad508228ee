-- What the tests of an output text say of all paginations, in the words of the contracts.
use Rattle.std.specs.Prelude.{◌≡◌, ◌↔◌, ◌⊎◌, ℕ, List, Option, Some, None, ℤ, ◌≤ℤ◌}
use Rattle.pg_list.specs.GalleyValue.{GalleyValue}
use Rattle.pg_list.specs.declared.galley.Place.{Place}
use Rattle.pg_plan.specs.declared.pages.Pagination.{Pagination}
use Rattle.pg_plan.specs.declared.states.Label.{Label}
use Rattle.pg_style.specs.Values.{StyleValue}
use Rattle.pg_rules.specs.Best.{Best}
use Rattle.pg_rules.specs.Cost.{cost}
use Rattle.pg_rules.specs.Follow.{Follow}
use Rattle.pg_rules.specs.Frontier.{Frontier}
use Rattle.pg_rules.specs.Legal.{Legal, document}
use Rattle.law_space.specs.PageSpace.{FollowBest}
use Rattle.pg_pages.specs.PageText.{page_text}
use Rattle.pg_labels.specs.declared.output.Output.{Output}
use Rattle.pg_labels.specs.declared.output.Shown.TheVariants.{Pages, NoLegal}
use Rattle.law_check.specs.Faults.{IsFirstFault, IsOpen, shown_cost}
use Rattle.law_check.specs.Tests.{CoversSteps, PassesAll}
use Rattle.law_check.specs.declared.answers.No.{No}

-- ---- what a yes says

-- the output shows a legal pagination of this cost with its page text, and no legal pagination costs less
pub record ShowsLeast (galley : GalleyValue) (style : StyleValue) (output : Output) (n : ℤ) : Type 0 where
  pub plan : Pagination
  pub shown : output.shown ≡ Pages plan n
  pub legal : Legal galley style plan
  pub pays : cost galley style plan ≡ n
  pub text : output.page_text ≡ page_text galley style plan n
  pub least : (other : Pagination) → Legal galley style other → n ≤ℤ cost galley style other

-- no pagination is legal
abbrev pub NoneIsLegal : GalleyValue → StyleValue → Type 0
NoneIsLegal galley style = (plan : Pagination) → Legal galley style plan → ⊥

-- the cost is that of what is shown and the least, or none is legal where there is no cost
abbrev pub ShowsTruth : GalleyValue → StyleValue → Output → Option ℤ → Type 0
ShowsTruth galley style output (Some n) = ShowsLeast galley style output n
ShowsTruth galley style output None = NoneIsLegal galley style

-- what passes all tests shows the truth
abbrev pub PassedTestsProve : GalleyValue → StyleValue → Type 0
PassedTestsProve galley style = (output : Output) → PassesAll galley style output →
    ShowsTruth galley style output (shown_cost output.shown)

-- ---- what is shown by solving passes

-- the output shows a best pagination with its cost and its page text, and has the labels of the frontier
pub record ShowsBest (galley : GalleyValue) (style : StyleValue) (output : Output) : Type 0 where
  pub plan : Pagination
  pub best : Best galley style plan
  pub shown : output.shown ≡ Pages plan (cost galley style plan)
  pub text : output.page_text ≡ page_text galley style plan (cost galley style plan)
  pub frontier : Frontier galley style output.labels

-- the output shows that none is legal, where none is, and has the labels of the frontier
pub record ShowsNone (galley : GalleyValue) (style : StyleValue) (output : Output) : Type 0 where
  pub none : NoneIsLegal galley style
  pub shown : output.shown ≡ NoLegal
  pub frontier : Frontier galley style output.labels

-- the output shows what solving the galley tells, with the labels of the frontier
abbrev pub ShowsSolution : GalleyValue → StyleValue → Output → Type 0
ShowsSolution galley style output = ShowsBest galley style output ⊎ ShowsNone galley style output

-- what shows a best pagination with the frontier passes
abbrev pub BestShownPasses : GalleyValue → StyleValue → Type 0
BestShownPasses galley style = (output : Output) → ShowsBest galley style output → PassesAll galley style output

-- what shows with the frontier that none is legal passes
abbrev pub NoneShownPasses : GalleyValue → StyleValue → Type 0
NoneShownPasses galley style = (output : Output) → ShowsNone galley style output → PassesAll galley style output

-- where a test is the first that fails, not all pass
abbrev pub FaultsFail : GalleyValue → StyleValue → Type 0
FaultsFail galley style = (output : Output) (fault : No) → IsFirstFault galley style output fault →
    PassesAll galley style output → ⊥

-- of the faults one at most is the first
abbrev pub FirstFaultIsOne : GalleyValue → StyleValue → Type 0
FirstFaultIsOne galley style = (output : Output) (one other : No) → IsFirstFault galley style output one →
    IsFirstFault galley style output other → one ≡ other

-- ---- best picks

-- the test of closure passes with all columns exactly where it passes with best picks alone
abbrev pub BestPicksPass : GalleyValue → StyleValue → Type 0
BestPicksPass galley style = (labels : List Label) →
    CoversSteps (Follow (document galley style)) labels ↔ CoversSteps (FollowBest (document galley style)) labels

-- it fails with the same label and the same place
abbrev pub BestPicksFault : GalleyValue → StyleValue → Type 0
BestPicksFault galley style = (labels : List Label) (number : ℕ) (to : Place) →
    IsOpen (Follow (document galley style)) labels number to
    ↔ IsOpen (FollowBest (document galley style)) labels number to
