-- The eight tests of an output text.
use Rattle.std.specs.Prelude.{◌≡◌, ⊤, List, [], ℕ, None, ℤ, pos, ◌+ℤ◌, Contains}
use Rattle.pg_list.specs.GalleyValue.{GalleyValue}
use Rattle.pg_plan.specs.declared.pages.PageMove.{PageMove}
use Rattle.pg_plan.specs.declared.states.Label.{Label}
use Rattle.pg_plan.specs.declared.states.State.{State}
use Rattle.pg_style.specs.Values.{StyleValue}
use Rattle.pg_rules.specs.Closed.{Covers}
use Rattle.pg_rules.specs.Cost.{cost}
use Rattle.pg_rules.specs.Follow.{Follow}
use Rattle.pg_rules.specs.IsState.{IsState}
use Rattle.pg_rules.specs.Legal.{breach, document}
use Rattle.pg_rules.specs.Room.{Document}
use Rattle.pg_rules.specs.States.{state_at}
use Rattle.pg_pages.specs.PageText.{page_text}
use Rattle.law_check.specs.Gaps.{NoneCheaper, NoneFinished}
use Rattle.pg_labels.specs.declared.output.Output.{Output}
use Rattle.pg_labels.specs.declared.output.Shown.{Shown}
use Rattle.pg_labels.specs.declared.output.Shown.TheVariants.{Pages, NoLegal}

-- which columns follow a state, and what they lead to at what cost: all that may, or those with best picks alone
abbrev pub Steps : Type 1
Steps = State → PageMove → State → ℤ → Type 0

-- ---- what each test asks; 1 to 3 and 7 are passed over where none is said to be legal, 8 where one is shown

-- 1: the shown pagination breaks no rule
abbrev pub KeepsRules : GalleyValue → StyleValue → Shown → Type 0
KeepsRules galley style (Pages plan n) = breach galley style plan ≡ None
KeepsRules galley style NoLegal = ⊤

-- 2: the shown cost is that of the shown pagination
abbrev pub HasCost : GalleyValue → StyleValue → Shown → Type 0
HasCost galley style (Pages plan n) = n ≡ cost galley style plan
HasCost galley style NoLegal = ⊤

-- 3: the text is the page text of the shown pagination with the shown cost
abbrev pub HasText : GalleyValue → StyleValue → List ℕ → Shown → Type 0
HasText galley style text (Pages plan n) = text ≡ page_text galley style plan n
HasText galley style text NoLegal = ⊤

-- 4: each label is a state
abbrev pub AreStates : Document → List Label → Type 0
AreStates doc labels = (label : Label) → Contains labels label → IsState doc label.state

-- 5: some label covers the start at the cost 0
abbrev pub CoversStart : Document → List Label → Type 0
CoversStart doc labels = Covers labels (state_at doc []) (pos 0)

-- 6: whatever follows a label leads to what a label covers
abbrev pub CoversSteps : Steps → List Label → Type 0
CoversSteps follow labels = (label : Label) (move : PageMove) (next : State) (pays : ℤ) → Contains labels label →
    follow label.state move next pays → Covers labels next (label.cost +ℤ pays)

-- 7: no finished label costs less than the shown pagination
abbrev pub NoneUndercuts : Document → List Label → Shown → Type 0
NoneUndercuts doc labels (Pages plan n) = NoneCheaper doc labels n
NoneUndercuts doc labels NoLegal = ⊤

-- 8: no label is finished where none is said to be legal
abbrev pub NoneIsFinal : Document → List Label → Shown → Type 0
NoneIsFinal doc labels (Pages plan n) = ⊤
NoneIsFinal doc labels NoLegal = NoneFinished doc labels

-- ---- the tests up to one

-- test 1 passes
pub record PassesRules (galley : GalleyValue) (style : StyleValue) (output : Output) : Type 0 where
  pub rules : KeepsRules galley style output.shown

-- tests 1 and 2 pass
pub record PassesCost (galley : GalleyValue) (style : StyleValue) (output : Output) : Type 0 where
  pub before : PassesRules galley style output
  pub cost : HasCost galley style output.shown

-- tests 1 to 3 pass
pub record PassesText (galley : GalleyValue) (style : StyleValue) (output : Output) : Type 0 where
  pub before : PassesCost galley style output
  pub text : HasText galley style output.page_text output.shown

-- tests 1 to 4 pass
pub record PassesStates (galley : GalleyValue) (style : StyleValue) (output : Output) : Type 0 where
  pub before : PassesText galley style output
  pub states : AreStates (document galley style) output.labels

-- tests 1 to 5 pass
pub record PassesStart (galley : GalleyValue) (style : StyleValue) (output : Output) : Type 0 where
  pub before : PassesStates galley style output
  pub start : CoversStart (document galley style) output.labels

-- tests 1 to 6 pass
pub record PassesSteps (galley : GalleyValue) (style : StyleValue) (output : Output) : Type 0 where
  pub before : PassesStart galley style output
  pub steps : CoversSteps (Follow (document galley style)) output.labels

-- tests 1 to 7 pass
pub record PassesBound (galley : GalleyValue) (style : StyleValue) (output : Output) : Type 0 where
  pub before : PassesSteps galley style output
  pub bound : NoneUndercuts (document galley style) output.labels output.shown

-- all tests pass
pub record PassesAll (galley : GalleyValue) (style : StyleValue) (output : Output) : Type 0 where
  pub before : PassesBound galley style output
  pub final : NoneIsFinal (document galley style) output.labels output.shown
