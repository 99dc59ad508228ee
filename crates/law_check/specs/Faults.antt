-- How each test of an output text fails, which fails first, and what a check answers.
use Rattle.std.specs.Prelude.{◌≡◌, ◌≢◌, ⊤, ℕ, ◌+◌, ◌<◌, if◌then◌else◌, List, [], ◌∷◌, length, Option, Some, None, Result, Ok, Err, slice_get, ℤ, ◌<ℤ◌}
use Rattle.std.specs.Str.{bytes_eq}
use Rattle.std.specs.declared.cmp.Ordering.TheVariants.{Less}
use Rattle.pg_list.specs.GalleyValue.{GalleyValue}
use Rattle.pg_list.specs.declared.galley.Place.{Place}
use Rattle.pg_plan.specs.Order.{place_cmp}
use Rattle.pg_plan.specs.declared.states.Label.{Label}
use Rattle.pg_style.specs.Values.{StyleValue}
use Rattle.pg_scan.specs.Parts.{parts_of}
use Rattle.pg_rules.specs.Cost.{cost}
use Rattle.pg_rules.specs.Follow.{Follow}
use Rattle.pg_rules.specs.IsState.{IsState}
use Rattle.pg_rules.specs.Legal.{breach, document}
use Rattle.pg_rules.specs.Room.{Document}
use Rattle.pg_pages.specs.PageText.{page_text}
use Rattle.law_check.specs.Gaps.{Gap, is_finished}
use Rattle.pg_labels.specs.declared.output.Output.{Output}
use Rattle.pg_labels.specs.declared.output.Shown.{Shown}
use Rattle.pg_labels.specs.declared.output.Shown.TheVariants.{Pages, NoLegal}
use Rattle.law_check.specs.Tests.{CoversStart, PassesAll, PassesBound, PassesCost, PassesRules, PassesStart, PassesStates, PassesSteps, PassesText, Steps}
use Rattle.law_check.specs.declared.answers.No.{No}
use Rattle.law_check.specs.declared.answers.No.TheVariants.{Broken, CostDiffers, PagesDiffer, BadLabel, NoStart, NotClosed, Undercut, FinalInNone, Memory}
use Rattle.law_check.specs.declared.answers.Proved.{Proved}

-- ---- how a test fails

-- the label with this number, from 1, is the first that is so
pub record IsFirst (P : Label → Type 0) (labels : List Label) (number : ℕ) : Type 0 where
  pub index : ℕ
  pub numbered : number ≡ index + 1
  pub label : Label
  pub at : slice_get labels index ≡ Some label
  pub holds : P label
  pub before : (i : ℕ) (other : Label) → i < index → slice_get labels i ≡ Some other → P other → ⊥

-- 1: this is the least rule that the shown pagination breaks, and the first column that breaks it
abbrev pub BreaksRule : GalleyValue → StyleValue → Shown → ℕ → ℕ → Type 0
BreaksRule galley style (Pages plan n) rule column = breach galley style plan ≡ Some (rule, column)
BreaksRule galley style NoLegal rule column = ⊥

-- this cost is printed, and is not the one that is due
pub record IsOtherCost (shown due printed judged : ℤ) : Type 0 where
  pub is_shown : printed ≡ shown
  pub is_due : judged ≡ due
  pub differ : printed ≢ judged

-- 2: the first cost is shown, and the second is that of the shown pagination
abbrev pub HasOtherCost : GalleyValue → StyleValue → Shown → ℤ → ℤ → Type 0
HasOtherCost galley style (Pages plan n) printed judged = IsOtherCost n (cost galley style plan) printed judged
HasOtherCost galley style NoLegal printed judged = ⊥

-- the number of the first line in which two texts differ, where their first lines have this number
abbrev pub first_difference : ℕ → List (List ℕ) → List (List ℕ) → Option ℕ
first_difference n [] [] = None
first_difference n [] (y ∷ ys) = Some n
first_difference n (x ∷ xs) [] = Some n
first_difference n (x ∷ xs) (y ∷ ys) = if bytes_eq x y then first_difference (n + 1) xs ys else Some n

-- 3: the text differs from the page text of the shown pagination, first in this line, from 1
abbrev pub HasOtherLine : GalleyValue → StyleValue → List ℕ → Shown → ℕ → Type 0
HasOtherLine galley style text (Pages plan n) line =
    first_difference 1 (parts_of 10 text) (parts_of 10 (page_text galley style plan n)) ≡ Some line
HasOtherLine galley style text NoLegal line = ⊥

-- 4: the label is no state
abbrev pub IsNoState : Document → Label → Type 0
IsNoState doc label = IsState doc label.state → ⊥

-- 6: some column that follows the label leads to what no label covers
pub record HasGap (follow : Steps) (labels : List Label) (label : Label) : Type 0 where
  pub to : Place
  pub gap : Gap follow labels label to

-- the label with this number is the first with such a column, and this is the least place where one of it ends
pub record IsOpen (follow : Steps) (labels : List Label) (number : ℕ) (to : Place) : Type 0 where
  pub first : IsFirst (HasGap follow labels) labels number
  pub gap : Gap follow labels first.label to
  pub least : (other : Place) → place_cmp other to ≡ Less → Gap follow labels first.label other → ⊥

-- the label is finished at less than this cost
pub record IsCheaper (doc : Document) (n : ℤ) (label : Label) : Type 0 where
  pub finished : is_finished doc label
  pub cheaper : label.cost <ℤ n

-- the label with this number is the first that is finished at less than a cost, and it has this one
pub record IsUndercut (doc : Document) (labels : List Label) (n : ℤ) (number : ℕ) (pays : ℤ) : Type 0 where
  pub first : IsFirst (IsCheaper doc n) labels number
  pub pays_is : pays ≡ first.label.cost

-- 7: that label, where a pagination is shown
abbrev pub Undercuts : Document → List Label → Shown → ℕ → ℤ → Type 0
Undercuts doc labels (Pages plan n) number pays = IsUndercut doc labels n number pays
Undercuts doc labels NoLegal number pays = ⊥

-- 8: the label with this number is the first that is finished, where none is said to be legal
abbrev pub IsFinalInNone : Document → List Label → Shown → ℕ → Type 0
IsFinalInNone doc labels (Pages plan n) number = ⊥
IsFinalInNone doc labels NoLegal number = IsFirst (is_finished doc) labels number

-- ---- the answer

-- the tests before this one pass, and it fails with these values
abbrev pub IsFirstFault : GalleyValue → StyleValue → Output → No → Type 0
IsFirstFault galley style output (Broken rule column) = BreaksRule galley style output.shown rule column
IsFirstFault galley style output (CostDiffers printed judged) =
    PassesRules galley style output × HasOtherCost galley style output.shown printed judged
IsFirstFault galley style output (PagesDiffer line) =
    PassesCost galley style output × HasOtherLine galley style output.page_text output.shown line
IsFirstFault galley style output (BadLabel number) =
    PassesText galley style output × IsFirst (IsNoState (document galley style)) output.labels number
IsFirstFault galley style output NoStart =
    PassesStates galley style output × (CoversStart (document galley style) output.labels → ⊥)
IsFirstFault galley style output (NotClosed number to) =
    PassesStart galley style output × IsOpen (Follow (document galley style)) output.labels number to
IsFirstFault galley style output (Undercut number pays) =
    PassesSteps galley style output × Undercuts (document galley style) output.labels output.shown number pays
IsFirstFault galley style output (FinalInNone number) =
    PassesBound galley style output × IsFinalInNone (document galley style) output.labels output.shown number
IsFirstFault galley style output Memory = ⊥

-- the fault, unless memory ran out
abbrev pub IsFaultOrMemory : GalleyValue → StyleValue → Output → No → Type 0
IsFaultOrMemory galley style output Memory = ⊤
IsFaultOrMemory galley style output fault = IsFirstFault galley style output fault

-- the shown cost, or none
abbrev pub shown_cost : Shown → Option ℤ
shown_cost (Pages plan n) = Some n
shown_cost NoLegal = None

-- all tests pass, and the answer names the shown cost and the number of labels
pub record IsProved (galley : GalleyValue) (style : StyleValue) (output : Output) (proved : Proved) : Type 0 where
  pub passes : PassesAll galley style output
  pub cost : proved.cost ≡ shown_cost output.shown
  pub labels : proved.labels ≡ length output.labels

-- a yes where all tests pass, or the first test that fails with its values; or memory ran out
abbrev pub Checked : GalleyValue → StyleValue → Output → Result Proved No → Type 0
Checked galley style output (Ok proved) = IsProved galley style output proved
Checked galley style output (Err fault) = IsFaultOrMemory galley style output fault

-- a yes, unless memory ran out
abbrev pub IsYesOrMemory : Result Proved No → Type 0
IsYesOrMemory (Ok proved) = ⊤
IsYesOrMemory (Err Memory) = ⊤
IsYesOrMemory (Err fault) = ⊥
