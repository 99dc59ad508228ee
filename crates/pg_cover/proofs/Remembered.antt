-- What is remembered of labels.
use Rattle.std.proofs.Common.{◌≡◌, ◌⊎◌, inl, inr, Bool, true, false, List, subst, arith}
use Rattle.std.specs.Prelude.{ℤ, pos, ◌+ℤ◌, ◌<ℤ◌, Contains}
use Rattle.std.proofs.lemmas.Int.{ints}
use Rattle.pg_lemmas.proofs.Bools.{not_both, or_cases, or_left, or_right}
use Rattle.pg_plan.specs.declared.states.Label.{Label}
use Rattle.pg_plan.specs.declared.states.State.{State}
use Rattle.pg_table.specs.Needless.{MarksMore}
use Rattle.pg_table.specs.Space.{AreWanted, Meaning}
use Rattle.pg_table.specs.declared.step.Step.{Step}
use Rattle.pg_cover.specs.Covered.{AreMarksOf, IsLowered, has_cover, is_spared}
use Rattle.pg_cover.proofs.Spared.{of_cover}

-- nothing is remembered
pub marks_none : (NoWorse : State → State → Type 0) (labels : List Label) (outdone : State → ℤ → Bool) →
    ((state : State) (cost : ℤ) → outdone state cost ≡ false) → AreMarksOf NoWorse labels outdone
marks_none NoWorse labels outdone none =
    record { known = λ state cost h. absurd (not_both (outdone state cost) h (none state cost)) }

-- one label more is remembered
pub marks_more : (NoWorse : State → State → Type 0) (labels : List Label) (old new : State → ℤ → Bool)
    (label : Label) → Contains labels label → MarksMore NoWorse old label.state label.cost new →
    AreMarksOf NoWorse labels old → AreMarksOf NoWorse labels new
marks_more NoWorse labels old new label listed more m =
    record { known = λ state cost h. either state cost (more state cost h) }
  where
    either : (state : State) (cost : ℤ) → (old state cost ≡ true) ⊎ (NoWorse label.state state × (label.cost <ℤ cost)) →
        IsLowered NoWorse labels state cost
    either state cost (inl was) = m.known state cost was
    either state cost (inr here) = record { label = label; listed = listed; no_worse = here.0; cheaper = here.1 }

module _ {M K : Type 0} (sp : Meaning State M K) (labels : List Label) (outdone : State → ℤ → Bool) where
  pub covered_spared : (state : State) (cost : ℤ) → has_cover sp labels state cost ≡ true →
      is_spared sp labels outdone state cost ≡ true
  unfolding is_spared
  covered_spared state cost h = or_left (has_cover sp labels state cost) (outdone state (cost +ℤ pos 1)) h

  pub outdone_spared : (state : State) (base pays more : ℤ) → more ≡ base +ℤ pos 1 →
      outdone state (more +ℤ pays) ≡ true → is_spared sp labels outdone state (base +ℤ pays) ≡ true
  unfolding is_spared
  outdone_spared state base pays more is h =
      let same : more +ℤ pays ≡ (base +ℤ pays) +ℤ pos 1 = omega (arith, ints, is) in
      or_right (has_cover sp labels state (base +ℤ pays)) (outdone state ((base +ℤ pays) +ℤ pos 1))
      (subst (λ (cost : ℤ). outdone state cost ≡ true) same h)

  module _ (NoWorse : State → State → Type 0) (alike : (a b : State) → NoWorse a b → sp.no_worse a b ≡ true)
      (marks : AreMarksOf NoWorse labels outdone) where
    -- what costs less than one more is no dearer
    lower_covers : (state : State) (cost : ℤ) → IsLowered NoWorse labels state (cost +ℤ pos 1) →
        has_cover sp labels state cost ≡ true
    lower_covers state cost m = of_cover sp labels state cost (record {
      label = m.label;
      listed = m.listed;
      does = record {
        no_worse = alike m.label.state state m.no_worse;
        no_dearer = let less = m.cheaper in omega (arith, ints);
      };
    })

    spared_covered : (state : State) (cost : ℤ) → is_spared sp labels outdone state cost ≡ true →
        has_cover sp labels state cost ≡ true
    unfolding is_spared
    spared_covered state cost h = elim (or_cases (has_cover sp labels state cost) (outdone state (cost +ℤ pos 1)) h) [
      | inl covered ↦ covered
      | inr marked ↦ lower_covers state cost (marks.known state (cost +ℤ pos 1) marked)
    ]

    -- what is passed over for what is remembered is covered
    pub wanted_covered : (from : State) (base : ℤ) (steps : List (Step State M)) →
        AreWanted sp from (λ v c. is_spared sp labels outdone v (base +ℤ c)) steps →
        AreWanted sp from (λ v c. has_cover sp labels v (base +ℤ c)) steps
    wanted_covered from base steps wanted = record {
      sound = wanted.sound;
      whole = λ move to pays follow. elim (wanted.whole move to pays follow) [
        | inl listed ↦ inl listed
        | inr spared ↦ inr (spared_covered to (base +ℤ pays) spared)
      ];
      once = wanted.once;
    }
