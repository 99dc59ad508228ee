-- Of the faults of an output text one at most is the first.
use Rattle.std.proofs.Common.{◌≡◌, refl, sym, subst, ap, ap₂, ◌∙◌, ℕ, zero, suc, ◌+◌, ◌<◌, ◌≤◌, List, true, false, arith}
use Rattle.std.specs.Prelude.{Bool, Some, None, ◌==◌, nat_lt, ℤ, slice_get}
use Rattle.std.specs.Ordering.{ordering_reverse}
use Rattle.std.specs.declared.cmp.Ordering.{Ordering}
use Rattle.std.specs.declared.cmp.Ordering.TheVariants.{Less, Equal, Greater}
use Rattle.std.proofs.lemmas.Option.{same_Some}
use borrow.Author.Tests.{eqb-true, eqb-false, ltb-true, ltb-false}
use Rattle.pg_list.specs.GalleyValue.{GalleyValue}
use Rattle.pg_list.specs.declared.galley.Place.{Place}
use Rattle.pg_plan.specs.Order.{place_cmp}
use Rattle.pg_plan.specs.declared.states.Label.{Label}
use Rattle.pg_plan.proofs.OrderLaws.{place_equal, place_total}
use Rattle.pg_style.specs.Values.{StyleValue}
use Rattle.pg_rules.specs.Legal.{document}
use Rattle.pg_rules.specs.Room.{Document}
use Rattle.pg_labels.specs.declared.output.Output.{Output}
use Rattle.pg_labels.specs.declared.output.Shown.{Shown}
use Rattle.pg_labels.specs.declared.output.Shown.TheVariants.{Pages, NoLegal}
use Rattle.law_check.specs.CheckLaws.{FirstFaultIsOne}
use Rattle.law_check.specs.Faults.{BreaksRule, HasOtherCost, HasOtherLine, IsFinalInNone, IsFirst, IsFirstFault, IsOpen, Undercuts}
use Rattle.law_check.specs.Gaps.{Gap}
use Rattle.law_check.specs.Tests.{PassesAll, PassesBound, PassesCost, PassesRules, PassesStart, PassesStates, PassesSteps, PassesText, Steps}
use Rattle.law_check.specs.declared.answers.No.{No}
use Rattle.law_check.specs.declared.answers.No.TheVariants.{Broken, CostDiffers, PagesDiffer, BadLabel, NoStart, NotClosed, Undercut, FinalInNone, Memory}
use Rattle.law_check.proofs.Failing.{bounds, broken, costs, finals, states, steps, texts}

-- ---- values of one test

-- the first label of a kind is one
first_one : (P : Label → Type 0) (labels : List Label) (n m : ℕ) (a : IsFirst P labels n) (b : IsFirst P labels m) →
    (n ≡ m) × (a.label ≡ b.label)
first_one P labels n m a b = by (nat_lt a.index b.index) refl (nat_lt b.index a.index) refl
  where
    by : (s : Bool) → nat_lt a.index b.index ≡ s → (t : Bool) → nat_lt b.index a.index ≡ t →
        (n ≡ m) × (a.label ≡ b.label)
    by true less t e = absurd (b.before a.index a.label (ltb-true a.index b.index less) a.at a.holds)
    by false e true less = absurd (a.before b.index b.label (ltb-true b.index a.index less) b.at b.holds)
    by false not_less false other =
        let same : a.index ≡ b.index =
        omega (arith, ltb-false a.index b.index not_less, ltb-false b.index a.index other) in (
          a.numbered ∙ (ap (λ k. k + 1) same ∙ sym b.numbered),
          same_Some a.label b.label (sym a.at ∙ (ap (slice_get labels) same ∙ b.at)),
        )

open_one : (follow : Steps) (labels : List Label) (n m : ℕ) (to other : Place) → IsOpen follow labels n to →
    IsOpen follow labels m other → (n ≡ m) × (to ≡ other)
open_one follow labels n m to other a b =
    let first = first_one _ labels n m a.first b.first in
    (first.0, by first.1 (place_cmp to other) refl)
  where
    by : a.first.label ≡ b.first.label → (o : Ordering) → place_cmp to other ≡ o → to ≡ other
    by same Less e =
        absurd (b.least to e (subst (λ (label : Label). Gap follow labels label to) same a.gap))
    by same Equal e = place_equal to other e
    by same Greater e =
        absurd (a.least other (place_total.antisymm other to ∙ ap ordering_reverse e)
        (subst (λ (label : Label). Gap follow labels label other) (sym same) b.gap))

module _ (g : GalleyValue) (s : StyleValue) where
  broken_one : (shown : Shown) (rule column other at : ℕ) → BreaksRule g s shown rule column →
      BreaksRule g s shown other at → Broken rule column ≡ Broken other at
  broken_one (Pages plan n) rule column other at a b =
      let same : ◌≡◌ {A = ℕ × ℕ} (rule, column) (other, at) = same_Some (rule, column) (other, at) (sym a ∙ b) in
      ap₂ (λ k m. Broken k m) (ap (λ (it : ℕ × ℕ). it.0) same) (ap (λ (it : ℕ × ℕ). it.1) same)
  broken_one NoLegal rule column other at a b = absurd a

  cost_one : (shown : Shown) (printed judged other due : ℤ) → HasOtherCost g s shown printed judged →
      HasOtherCost g s shown other due → CostDiffers printed judged ≡ CostDiffers other due
  cost_one (Pages plan n) printed judged other due a b =
      ap₂ (λ k m. CostDiffers k m) (a.is_shown ∙ sym b.is_shown) (a.is_due ∙ sym b.is_due)
  cost_one NoLegal printed judged other due a b = absurd a

  line_one : (text : List ℕ) (shown : Shown) (line other : ℕ) → HasOtherLine g s text shown line →
      HasOtherLine g s text shown other → PagesDiffer line ≡ PagesDiffer other
  line_one text (Pages plan n) line other a b = ap (λ k. PagesDiffer k) (same_Some line other (sym a ∙ b))
  line_one text NoLegal line other a b = absurd a

  undercut_one : (doc : Document) (labels : List Label) (shown : Shown) (number other : ℕ) (pays due : ℤ) →
      Undercuts doc labels shown number pays → Undercuts doc labels shown other due →
      Undercut number pays ≡ Undercut other due
  undercut_one doc labels (Pages plan n) number other pays due a b =
      let first = first_one _ labels number other a.first b.first in
      ap₂ (λ k m. Undercut k m) first.0
      (a.pays_is ∙ (ap (λ (label : Label). label.cost) first.1 ∙ sym b.pays_is))
  undercut_one doc labels NoLegal number other pays due a b = absurd a

  final_one : (doc : Document) (labels : List Label) (shown : Shown) (number other : ℕ) →
      IsFinalInNone doc labels shown number → IsFinalInNone doc labels shown other →
      FinalInNone number ≡ FinalInNone other
  final_one doc labels (Pages plan n) number other a b = absurd a
  final_one doc labels NoLegal number other a b =
      ap (λ k. FinalInNone k) (first_one _ labels number other a b).0

  -- ---- one test

  -- so many tests pass
  abbrev passes : Output → ℕ → Type 0
  passes output zero = Unit {0}
  passes output (suc zero) = PassesRules g s output
  passes output (suc (suc zero)) = PassesCost g s output
  passes output (suc (suc (suc zero))) = PassesText g s output
  passes output (suc (suc (suc (suc zero)))) = PassesStates g s output
  passes output (suc (suc (suc (suc (suc zero))))) = PassesStart g s output
  passes output (suc (suc (suc (suc (suc (suc zero)))))) = PassesSteps g s output
  passes output (suc (suc (suc (suc (suc (suc (suc zero))))))) = PassesBound g s output
  passes output (suc (suc (suc (suc (suc (suc (suc (suc n)))))))) = PassesAll g s output

  one_less : (output : Output) (n : ℕ) → passes output (suc n) → passes output n
  one_less output zero p = tt
  one_less output (suc zero) p = p.before
  one_less output (suc (suc zero)) p = p.before
  one_less output (suc (suc (suc zero))) p = p.before
  one_less output (suc (suc (suc (suc zero)))) p = p.before
  one_less output (suc (suc (suc (suc (suc zero))))) p = p.before
  one_less output (suc (suc (suc (suc (suc (suc zero)))))) p = p.before
  one_less output (suc (suc (suc (suc (suc (suc (suc zero))))))) p = p.before
  one_less output (suc (suc (suc (suc (suc (suc (suc (suc n)))))))) p = p

  fewer : (output : Output) (n m : ℕ) → m ≤ n → passes output n → passes output m
  fewer output zero m few p = let none : zero ≡ m = omega (arith, few) in subst (passes output) none p
  fewer output (suc n) m few p = by (m == suc n) refl (λ less. fewer output n m less (one_less output n p))
    where
      by : (b : Bool) → (m == suc n) ≡ b → (m ≤ n → passes output m) → passes output m
      by true e on = subst (passes output) (sym (eqb-true m (suc n) e)) p
      by false e on = let other : m ≡ suc n → ⊥ = eqb-false m (suc n) e in on (omega (arith, few, other))

  -- how many tests pass in front of a fault
  abbrev before : No → ℕ
  before (Broken rule column) = 0
  before (CostDiffers printed judged) = 1
  before (PagesDiffer line) = 2
  before (BadLabel number) = 3
  before NoStart = 4
  before (NotClosed number to) = 5
  before (Undercut number pays) = 6
  before (FinalInNone number) = 7
  before Memory = 8

  passed : (output : Output) (fault : No) → IsFirstFault g s output fault → passes output (before fault)
  passed output (Broken rule column) f = tt
  passed output Memory f = absurd f
  passed output NoStart f = f.0
  passed output (CostDiffers printed judged) f = f.0
  passed output (PagesDiffer line) f = f.0
  passed output (BadLabel number) f = f.0
  passed output (NotClosed number to) f = f.0
  passed output (Undercut number pays) f = f.0
  passed output (FinalInNone number) f = f.0

  fails : (output : Output) (fault : No) → IsFirstFault g s output fault → passes output (before fault + 1) → ⊥
  fails output (Broken rule column) f p = broken g s output.shown rule column p.rules f
  fails output (CostDiffers printed judged) f p = costs g s output.shown printed judged p.cost f.1
  fails output (PagesDiffer line) f p = texts g s output.page_text output.shown line p.text f.1
  fails output (BadLabel number) f p = states g s (document g s) output.labels number p.states f.1
  fails output NoStart f p = f.1 p.start
  fails output (NotClosed number to) f p = steps g s (document g s) output.labels number p.steps f.1.first
  fails output (Undercut number pays) f p =
      bounds g s (document g s) output.labels output.shown number pays p.bound f.1
  fails output (FinalInNone number) f p = finals g s (document g s) output.labels output.shown number p.final f.1
  fails output Memory f p = f

  unlike : (output : Output) (a b : No) → (before a ≡ before b → ⊥) → IsFirstFault g s output a →
      IsFirstFault g s output b → ⊥
  unlike output a b differ f h = by (nat_lt (before a) (before b)) refl
    where
      by : (t : Bool) → nat_lt (before a) (before b) ≡ t → ⊥
      by true less = fails output a f (fewer output (before b) (before a + 1)
          (let l : before a < before b = ltb-true (before a) (before b) less in omega (arith, l))
          (passed output b h))
      by false e = fails output b h (fewer output (before a) (before b + 1)
          (let l : before b ≤ before a = ltb-false (before a) (before b) e in omega (arith, l, differ))
          (passed output a f))

  pub fault_one : FirstFaultIsOne g s
  fault_one output (Broken rule column) (Broken other at) f h =
      broken_one output.shown rule column other at f h
  fault_one output (CostDiffers printed judged) (CostDiffers other due) f h =
      cost_one output.shown printed judged other due f.1 h.1
  fault_one output (PagesDiffer line) (PagesDiffer other) f h =
      line_one output.page_text output.shown line other f.1 h.1
  fault_one output (BadLabel number) (BadLabel other) f h =
      ap (λ k. BadLabel k) (first_one _ output.labels number other f.1 h.1).0
  fault_one output NoStart NoStart f h = refl
  fault_one output (NotClosed number to) (NotClosed other at) f h =
      let one = open_one _ output.labels number other to at f.1 h.1 in
      ap₂ (λ k m. NotClosed k m) one.0 one.1
  fault_one output (Undercut number pays) (Undercut other due) f h =
      undercut_one (document g s) output.labels output.shown number other pays due f.1 h.1
  fault_one output (FinalInNone number) (FinalInNone other) f h =
      final_one (document g s) output.labels output.shown number other f.1 h.1
  fault_one output Memory b f h = absurd f
  fault_one output a b f h = absurd (unlike output a b (λ e. omega (arith, e)) f h)
