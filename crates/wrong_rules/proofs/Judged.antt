-- What the judge may answer, and what labels may cover.
use Rattle.std.proofs.Common.{◌≡◌, ◌∙◌, ◌⊎◌, inl, inr, refl, sym, ap, arith, ℕ, List, Some, None, Option, Ok, Err}
use Rattle.std.specs.Prelude.{Contains, ℤ, Result, ◌<ℤ◌}
use Rattle.std.proofs.lemmas.Int.{ints}
use Rattle.std.proofs.lemmas.Option.{none-some}
use Rattle.pg_cover.specs.Covered.{CoveredBy}
use Rattle.pg_list.specs.GalleyValue.{GalleyValue}
use Rattle.pg_plan.specs.declared.pages.Pagination.{Pagination}
use Rattle.pg_plan.specs.declared.states.Label.{Label}
use Rattle.pg_plan.specs.declared.states.State.{State}
use Rattle.pg_style.specs.Values.{StyleValue}
use Rattle.pg_rules.specs.Cost.{cost}
use Rattle.pg_rules.specs.Legal.{breach}
use Rattle.pg_table.specs.Space.{Meaning}
use Rattle.pg_judge.specs.Settled.{JudgesPlan, answered}
use Rattle.pg_judge.specs.declared.rule.JudgeFault.{JudgeFault}
use Rattle.pg_judge.specs.declared.rule.JudgeFault.TheVariants.{Broken, Memory}

-- but for want of memory there is one answer: the least rule that is broken with its first column, else the cost
answers_are : (galley : GalleyValue) (style : StyleValue) (plan : Pagination) (answer : Result ℤ JudgeFault) →
    JudgesPlan galley style plan answer →
    (answer ≡ Err Memory) ⊎ (answer ≡ answered (breach galley style plan) (cost galley style plan))
answers_are galley style plan (Ok paid) is = inr (ap Ok is.1
    ∙ sym (ap (λ (found : Option (ℕ × ℕ)). answered found (cost galley style plan)) is.0))
answers_are galley style plan (Err (Broken rule column)) is = inr
    (sym (ap (λ (found : Option (ℕ × ℕ)). answered found (cost galley style plan)) is))
answers_are galley style plan (Err Memory) is = inl refl

-- a pagination that breaks a rule, as one that leaves a float behind its last page, has no cost
no_cost_at_a_breach : (galley : GalleyValue) (style : StyleValue) (plan : Pagination) (rule column : ℕ) (paid : ℤ) →
    breach galley style plan ≡ Some (rule, column) → JudgesPlan galley style plan (Ok paid) → ⊥
no_cost_at_a_breach galley style plan rule column paid broken is = none-some _ (sym is.0 ∙ broken)

-- a pagination that breaks none is not refused
no_breach_where_there_is_none : (galley : GalleyValue) (style : StyleValue) (plan : Pagination) (rule column : ℕ) →
    breach galley style plan ≡ None → JudgesPlan galley style plan (Err (Broken rule column)) → ⊥
no_breach_where_there_is_none galley style plan rule column legal is = none-some _ (sym legal ∙ is)

-- what every label costs more than is covered by none, whatever its cost comes to in 128 bits
none_covers_at_less : {M K : Type 0} (sp : Meaning State M K) (labels : List Label) (state : State) (paid : ℤ) →
    ((label : Label) → Contains labels label → paid <ℤ label.cost) → CoveredBy sp labels state paid → ⊥
none_covers_at_less sp labels state paid dearer by =
    let more = dearer by.label by.listed in
    let less = by.does.no_dearer in
    omega (arith, ints, more, less)
