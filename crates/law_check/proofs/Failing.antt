-- A test that fails first and all tests that pass exclude each other.
use Rattle.std.proofs.Common.{◌≡◌, refl, sym, subst, ◌∙◌, ℕ, ◌+◌, List, [], ◌∷◌, true, false, Some, None, arith}
use Rattle.std.specs.Prelude.{Contains, ◌≤ℤ◌, ◌<ℤ◌, ℤ, Bool, if◌then◌else◌}
use Rattle.std.specs.Str.{bytes_eq}
use Rattle.std.proofs.lemmas.Int.{ints}
use Rattle.std.proofs.lemmas.Slice.Eq.{bytes_eq-Decides}
use Rattle.pg_list.specs.GalleyValue.{GalleyValue}
use Rattle.pg_plan.specs.declared.states.Label.{Label}
use Rattle.pg_style.specs.Values.{StyleValue}
use Rattle.pg_scan.specs.Parts.{parts_of}
use Rattle.pg_table.proofs.Lists.{contains_at}
use Rattle.pg_rules.specs.Follow.{Follow}
use Rattle.pg_rules.specs.Legal.{document}
use Rattle.pg_rules.specs.Room.{Document}
use Rattle.pg_labels.specs.declared.output.Shown.{Shown}
use Rattle.pg_labels.specs.declared.output.Shown.TheVariants.{Pages, NoLegal}
use Rattle.law_check.specs.Faults.{BreaksRule, HasGap, HasOtherCost, HasOtherLine, IsFinalInNone, IsFirst, IsNoState, Undercuts, first_difference}
use Rattle.law_check.specs.CheckLaws.{FaultsFail}
use Rattle.law_check.specs.Tests.{AreStates, CoversSteps, HasCost, HasText, KeepsRules, NoneIsFinal, NoneUndercuts}
use Rattle.law_check.specs.declared.answers.No.TheVariants.{Broken, CostDiffers, PagesDiffer, BadLabel, NoStart, NotClosed, Undercut, FinalInNone, Memory}

-- ---- a text does not differ from itself

no_difference : (n : ℕ) (lines : List (List ℕ)) (line : ℕ) → first_difference n lines lines ≡ Some line → ⊥
no_difference n [] line e = absurd cc
no_difference n (x ∷ xs) line e =
    by (bytes_eq x x) ((bytes_eq-Decides x x).1 refl) e (no_difference (n + 1) xs line)
  where
    by : (b : Bool) → b ≡ true → (if b then first_difference (n + 1) xs xs else Some n) ≡ Some line →
        (first_difference (n + 1) xs xs ≡ Some line → ⊥) → ⊥
    by true t e f = f e
    by false t e f = absurd cc

-- ---- each fault against the test that it fails

listed : (P : Label → Type 0) (labels : List Label) (number : ℕ) (first : IsFirst P labels number) →
    Contains labels first.label
listed P labels number first = contains_at labels first.index first.label first.at

module _ (g : GalleyValue) (s : StyleValue) where
  pub broken : (shown : Shown) (rule column : ℕ) → KeepsRules g s shown → BreaksRule g s shown rule column → ⊥
  broken (Pages plan n) rule column keeps breaks = absurd (none_some (sym keeps ∙ breaks))
    where
      none_some : {A : Type 0} {x : A} → None ≡ Some x → ⊥
      none_some e = absurd cc
  broken NoLegal rule column keeps breaks = breaks

  pub costs : (shown : Shown) (printed judged : ℤ) → HasCost g s shown → HasOtherCost g s shown printed judged → ⊥
  costs (Pages plan n) printed judged has other = other.differ (other.is_shown ∙ has ∙ sym other.is_due)
  costs NoLegal printed judged has other = other

  pub texts : (text : List ℕ) (shown : Shown) (line : ℕ) → HasText g s text shown → HasOtherLine g s text shown line → ⊥
  texts text (Pages plan n) line has other = no_difference 1 (parts_of 10 text) line
      (subst (λ (t : List ℕ). first_difference 1 (parts_of 10 text) (parts_of 10 t) ≡ Some line) (sym has) other)
  texts text NoLegal line has other = other

  pub states : (doc : Document) (labels : List Label) (number : ℕ) → AreStates doc labels →
      IsFirst (IsNoState doc) labels number → ⊥
  states doc labels number are first = first.holds (are first.label (listed _ labels number first))

  pub steps : (doc : Document) (labels : List Label) (number : ℕ) → CoversSteps (Follow doc) labels →
      (first : IsFirst (HasGap (Follow doc) labels) labels number) → ⊥
  steps doc labels number covers first = first.holds.gap.uncovered
      (covers first.label first.holds.gap.move first.holds.gap.next first.holds.gap.cost
      (listed _ labels number first) first.holds.gap.follow)

  pub bounds : (doc : Document) (labels : List Label) (shown : Shown) (number : ℕ) (pays : ℤ) →
      NoneUndercuts doc labels shown → Undercuts doc labels shown number pays → ⊥
  bounds doc labels (Pages plan n) number pays none cut =
      let cheaper : cut.first.label.cost <ℤ n = cut.first.holds.cheaper in
      let dearer : n ≤ℤ cut.first.label.cost =
      none cut.first.label (listed _ labels number cut.first) cut.first.holds.finished in
      omega (arith, ints)
  bounds doc labels NoLegal number pays none cut = cut

  pub finals : (doc : Document) (labels : List Label) (shown : Shown) (number : ℕ) → NoneIsFinal doc labels shown →
      IsFinalInNone doc labels shown number → ⊥
  finals doc labels (Pages plan n) number none first = first
  finals doc labels NoLegal number none first = none first.label (listed _ labels number first) first.holds

  pub faults_fail : FaultsFail g s
  faults_fail output (Broken rule column) f p =
      broken output.shown rule column p.before.before.before.before.before.before.before.rules f
  faults_fail output (CostDiffers printed judged) f p =
      costs output.shown printed judged p.before.before.before.before.before.before.cost f.1
  faults_fail output (PagesDiffer line) f p =
      texts output.page_text output.shown line p.before.before.before.before.before.text f.1
  faults_fail output (BadLabel number) f p =
      states (document g s) output.labels number p.before.before.before.before.states f.1
  faults_fail output NoStart f p = f.1 p.before.before.before.start
  faults_fail output (NotClosed number to) f p =
      steps (document g s) output.labels number p.before.before.steps f.1.first
  faults_fail output (Undercut number pays) f p =
      bounds (document g s) output.labels output.shown number pays p.before.bound f.1
  faults_fail output (FinalInNone number) f p = finals (document g s) output.labels output.shown number p.final f.1
  faults_fail output Memory f p = f
