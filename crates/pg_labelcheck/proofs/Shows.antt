-- The tests of what is shown, told of the whole output.
use Rattle.std.proofs.Common.{◌≡◌, ◌∙◌, sym, ap, subst, ℕ, List, ◌++◌, []}
use Rattle.std.specs.Prelude.{Result, ℤ}
use Rattle.pg_list.specs.GalleyValue.{GalleyValue}
use Rattle.pg_plan.specs.declared.pages.Pagination.{Pagination}
use Rattle.pg_plan.specs.declared.states.Label.{Label}
use Rattle.pg_style.specs.Values.{StyleValue}
use Rattle.pg_labels.specs.declared.output.Output.{Output}
use Rattle.pg_labels.specs.declared.output.Shown.{Shown}
use Rattle.pg_labels.specs.declared.output.Shown.TheVariants.{Pages}
use Rattle.law_check.specs.declared.answers.No.{No}
use Rattle.pg_labelcheck.specs.Tested.{TestedText, showing}

-- what was printed behind nothing
pub printed_is : (old new seen text : List ℕ) → old ≡ [] → new ≡ old ++ text → seen ≡ new → seen ≡ text
printed_is old new seen text none all is = is ∙ all ∙ ap (λ (z : List ℕ). z ++ text) none

module _ (g : GalleyValue) (s : StyleValue) {X : Type 0} (r : Result X No) where
  pub other_cost : (plan : Pagination) (n z : ℤ) (text : List ℕ) → z ≡ n →
      ((labels : List Label) → TestedText g s (showing plan z text labels) r) →
      (labels : List Label) → TestedText g s (showing plan n text labels) r
  other_cost plan n z text same all labels =
      subst (λ (k : ℤ). TestedText g s (showing plan k text labels) r) same (all labels)

  pub shown_tested : (output : Output) (plan : Pagination) (n : ℤ) (text : List ℕ) → output.shown ≡ Pages plan n →
      text ≡ output.page_text → ((labels : List Label) → TestedText g s (showing plan n text labels) r) → TestedText g s output r
  shown_tested output plan n text is same all =
      subst (λ (shown : Shown). TestedText g s (record {
        shown = shown;
        page_text = output.page_text;
        labels = output.labels;
      }) r) (sym is)
      (subst (λ (z : List ℕ). TestedText g s (showing plan n z output.labels) r) same (all output.labels))
