-- What is shown by solving passes all tests.
use Rattle.std.proofs.Common.{◌≡◌, refl, sym, subst}
use Rattle.pg_list.specs.GalleyValue.{GalleyValue}
use Rattle.pg_style.specs.Values.{StyleValue}
use Rattle.pg_rules.specs.Closed.{Closed}
use Rattle.pg_rules.specs.Cost.{cost}
use Rattle.pg_rules.specs.Legal.{document}
use Rattle.pg_rules.specs.Ranges.{AreInRange}
use Rattle.law_check.proofs.Complete.{frontier_closes, frontier_bounds, frontier_none}
use Rattle.pg_labels.specs.declared.output.Output.{Output}
use Rattle.pg_labels.specs.declared.output.Shown.TheVariants.{Pages, NoLegal}
use Rattle.law_check.specs.CheckLaws.{BestShownPasses, NoneShownPasses}
use Rattle.law_check.specs.Tests.{HasCost, HasText, KeepsRules, NoneIsFinal, NoneUndercuts, PassesAll}

module _ (g : GalleyValue) (s : StyleValue) (range : AreInRange g s) where
  -- the tests from their parts
  all_of : (output : Output) → Closed g s output.labels → KeepsRules g s output.shown → HasCost g s output.shown →
      HasText g s output.page_text output.shown → NoneUndercuts (document g s) output.labels output.shown →
      NoneIsFinal (document g s) output.labels output.shown → PassesAll g s output
  all_of output closed rules pays text bound final = record {
    before = record {
      before = record {
        before = record {
          before = record {
            before = record { before = record { before = record { rules = rules }; cost = pays }; text = text };
            states = closed.states;
          };
          start = closed.start;
        };
        steps = closed.steps;
      };
      bound = bound;
    };
    final = final;
  }

  pub best_shown_passes : BestShownPasses g s
  best_shown_passes output it =
      let is : Pages it.plan (cost g s it.plan) ≡ output.shown = sym it.shown in
      all_of output (frontier_closes g s range output.labels it.frontier)
      (subst (KeepsRules g s) is it.best.legal.unbroken) (subst (HasCost g s) is refl)
      (subst (HasText g s output.page_text) is it.text)
      (subst (NoneUndercuts (document g s) output.labels) is
      (frontier_bounds g s range output.labels it.plan it.frontier it.best))
      (subst (NoneIsFinal (document g s) output.labels) is tt)

  pub none_shown_passes : NoneShownPasses g s
  none_shown_passes output it =
      let is : NoLegal ≡ output.shown = sym it.shown in
      all_of output (frontier_closes g s range output.labels it.frontier)
      (subst (KeepsRules g s) is tt) (subst (HasCost g s) is tt) (subst (HasText g s output.page_text) is tt)
      (subst (NoneUndercuts (document g s) output.labels) is tt)
      (subst (NoneIsFinal (document g s) output.labels) is
      (frontier_none g s range output.labels it.frontier it.none))
