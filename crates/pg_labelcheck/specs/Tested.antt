-- What the parts of a check answer.
use Rattle.std.specs.Prelude.{◌≡◌, ◌<◌, ℕ, List, Option, Some, None, Result, Ok, Err, slice_get, ℤ}
use Rattle.pg_list.specs.GalleyValue.{GalleyValue}
use Rattle.pg_plan.specs.declared.pages.Pagination.{Pagination}
use Rattle.pg_plan.specs.declared.states.Label.{Label}
use Rattle.pg_style.specs.Values.{StyleValue}
use Rattle.pg_rules.specs.Room.{Document}
use Rattle.law_check.specs.Gaps.{is_finished}
use Rattle.pg_labels.specs.declared.output.Output.{Output}
use Rattle.pg_labels.specs.declared.output.Shown.{Shown}
use Rattle.pg_labels.specs.declared.output.Shown.TheVariants.{Pages, NoLegal}
use Rattle.law_check.specs.Faults.{IsCheaper, IsFaultOrMemory}
use Rattle.law_check.specs.Tests.{PassesCost, PassesText}
use Rattle.law_check.specs.declared.answers.No.{No}
use Rattle.law_check.specs.declared.answers.No.TheVariants.{FinalInNone, Undercut}

-- these tests pass, or one of them is the first that fails; or memory ran out
abbrev pub Tested : {X : Type 0} → Type 0 → GalleyValue → StyleValue → Output → Result X No → Type 0
Tested passes galley style output (Ok x) = passes
Tested passes galley style output (Err fault) = IsFaultOrMemory galley style output fault

-- tests 1 and 2 of an output
abbrev pub TestedCost : {X : Type 0} → GalleyValue → StyleValue → Output → Result X No → Type 0
TestedCost galley style output result = Tested (PassesCost galley style output) galley style output result

-- tests 1 to 3
abbrev pub TestedText : {X : Type 0} → GalleyValue → StyleValue → Output → Result X No → Type 0
TestedText galley style output result = Tested (PassesText galley style output) galley style output result

-- the output that shows this pagination with this cost and this text, with labels behind it
abbrev pub showing : Pagination → ℤ → List ℕ → List Label → Output
showing plan cost text labels = record { shown = Pages plan cost; page_text = text; labels = labels }

-- the label is finished, at less than the cost where there is one
abbrev pub IsFinalBelow : Document → Option ℤ → Label → Type 0
IsFinalBelow doc None label = is_finished doc label
IsFinalBelow doc (Some n) label = IsCheaper doc n label

-- a finished label of this number and cost undercuts the shown pagination, or is final where none is legal
abbrev pub final_fault : Shown → ℕ → ℤ → No
final_fault (Pages plan n) number pays = Undercut number pays
final_fault NoLegal number pays = FinalInNone number

-- each label before this index is so
pub record AllBefore (P : Label → Type 0) (labels : List Label) (index : ℕ) : Type 0 where
  pub all : (i : ℕ) (label : Label) → i < index → slice_get labels i ≡ Some label → P label
