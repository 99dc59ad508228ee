-- What passes all tests shows the truth.
use Rattle.std.proofs.Common.{◌≡◌, refl, sym}
use Rattle.pg_list.specs.GalleyValue.{GalleyValue}
use Rattle.pg_style.specs.Values.{StyleValue}
use Rattle.pg_rules.specs.Closed.{Closed}
use Rattle.pg_rules.specs.Legal.{document}
use Rattle.pg_rules.specs.Ranges.{AreInRange}
use Rattle.law_check.proofs.Cover.{closed_bound, closed_none}
use Rattle.pg_labels.specs.declared.output.Output.{Output}
use Rattle.pg_labels.specs.declared.output.Shown.{Shown}
use Rattle.pg_labels.specs.declared.output.Shown.TheVariants.{Pages, NoLegal}
use Rattle.law_check.specs.Faults.{shown_cost}
use Rattle.law_check.specs.CheckLaws.{PassedTestsProve, ShowsTruth}
use Rattle.law_check.specs.Tests.{HasCost, HasText, KeepsRules, NoneIsFinal, NoneUndercuts, PassesSteps}

module _ (g : GalleyValue) (s : StyleValue) (range : AreInRange g s) where
  pub closed_of : (output : Output) → PassesSteps g s output → Closed g s output.labels
  closed_of output p = record { states = p.before.before.states; start = p.before.start; steps = p.steps }

  sound_of : (output : Output) (shown : Shown) → output.shown ≡ shown → Closed g s output.labels →
      KeepsRules g s shown → HasCost g s shown → HasText g s output.page_text shown →
      NoneUndercuts (document g s) output.labels shown → NoneIsFinal (document g s) output.labels shown →
      ShowsTruth g s output (shown_cost shown)
  sound_of output (Pages plan n) is closed rules pays text bound final = record {
    plan = plan;
    shown = is;
    legal = record { unbroken = rules };
    pays = sym pays;
    text = text;
    least = λ other legal. closed_bound g s range output.labels n other closed bound legal;
  }
  sound_of output NoLegal is closed rules pays text bound final =
      λ plan legal. closed_none g s range output.labels plan closed final legal

  pub passed_prove : PassedTestsProve g s
  passed_prove output p = sound_of output output.shown refl (closed_of output p.before.before)
      p.before.before.before.before.before.before.before.rules p.before.before.before.before.before.before.cost
      p.before.before.before.before.before.text p.before.bound p.final
