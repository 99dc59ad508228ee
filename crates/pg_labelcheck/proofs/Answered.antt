-- What the answer of a check tells, by the laws.
use Rattle.std.proofs.Common.{sym, subst, inl, inr}
use Rattle.std.specs.Prelude.{IfOk, Result, Ok, Err}
use Rattle.pg_list.specs.GalleyValue.{GalleyValue}
use Rattle.pg_style.specs.Values.{StyleValue}
use Rattle.pg_labels.specs.declared.output.Output.{Output}
use Rattle.law_check.specs.Faults.{Checked, IsYesOrMemory}
use Rattle.law_check.specs.CheckLaws.{BestShownPasses, FaultsFail, NoneShownPasses, PassedTestsProve, ShowsSolution, ShowsTruth}
use Rattle.law_check.specs.Tests.{PassesAll}
use Rattle.law_check.specs.declared.answers.No.{No}
use Rattle.law_check.specs.declared.answers.No.TheVariants.{Broken, CostDiffers, PagesDiffer, BadLabel, NoStart, NotClosed, Undercut, FinalInNone, Memory}
use Rattle.law_check.specs.declared.answers.Proved.{Proved}

module _ (g : GalleyValue) (s : StyleValue) (output : Output) where
  pub truth_of : PassedTestsProve g s → (r : Result Proved No) → Checked g s output r →
      IfOk r (λ proved. ShowsTruth g s output proved.cost)
  truth_of prove (Ok proved) checked = subst (ShowsTruth g s output) (sym checked.cost) (prove output checked.passes)
  truth_of prove (Err fault) checked = tt

  passes_of : BestShownPasses g s → NoneShownPasses g s → ShowsSolution g s output → PassesAll g s output
  passes_of best none (inl shows) = best output shows
  passes_of best none (inr shows) = none output shows

  passed_yes : FaultsFail g s → (r : Result Proved No) → Checked g s output r → PassesAll g s output → IsYesOrMemory r
  passed_yes fails (Ok proved) checked p = tt
  passed_yes fails (Err Memory) checked p = tt
  passed_yes fails (Err (Broken rule column)) checked p = fails output (Broken rule column) checked p
  passed_yes fails (Err (CostDiffers printed judged)) checked p = fails output (CostDiffers printed judged) checked p
  passed_yes fails (Err (PagesDiffer line)) checked p = fails output (PagesDiffer line) checked p
  passed_yes fails (Err (BadLabel number)) checked p = fails output (BadLabel number) checked p
  passed_yes fails (Err NoStart) checked p = fails output NoStart checked p
  passed_yes fails (Err (NotClosed number to)) checked p = fails output (NotClosed number to) checked p
  passed_yes fails (Err (Undercut number pays)) checked p = fails output (Undercut number pays) checked p
  passed_yes fails (Err (FinalInNone number)) checked p = fails output (FinalInNone number) checked p

  pub solved_of : BestShownPasses g s → NoneShownPasses g s → FaultsFail g s → (r : Result Proved No) →
      Checked g s output r → ShowsSolution g s output → IsYesOrMemory r
  solved_of best none fails r checked shows = passed_yes fails r checked (passes_of best none shows)
