-- A check has one answer.
use Rattle.std.proofs.Common.{◌≡◌, ◌∙◌, sym, ap, ap₂, ℕ}
use Rattle.std.specs.Prelude.{Result, Ok, Err, Option, ℤ}
use Rattle.pg_list.specs.GalleyValue.{GalleyValue}
use Rattle.pg_style.specs.Values.{StyleValue}
use Rattle.pg_labels.specs.declared.output.Output.{Output}
use Rattle.law_check.specs.declared.answers.No.{No}
use Rattle.law_check.specs.declared.answers.Proved.{Proved}
use Rattle.law_check.proofs.Failing.{faults_fail}
use Rattle.law_check.proofs.OneFault.{fault_one}
use Rattle.pg_course.specs.Verdict.{Answers}

abbrev made : Option ℤ → ℕ → Proved
made cost labels = record { cost = cost; labels = labels }

pub answer_one : (g : GalleyValue) (s : StyleValue) (output : Output) (a b : Result Proved No) → Answers g s output a →
    Answers g s output b → a ≡ b
answer_one g s output (Ok p) (Ok q) a b =
    ap₂ (λ cost labels. Ok (made cost labels)) (a.passes.cost ∙ sym b.passes.cost)
    (a.passes.labels ∙ sym b.passes.labels)
answer_one g s output (Ok p) (Err fault) a b = absurd (faults_fail g s output fault b.first a.passes.passes)
answer_one g s output (Err fault) (Ok q) a b = absurd (faults_fail g s output fault a.first b.passes.passes)
answer_one g s output (Err fault) (Err other) a b = ap (λ it. Err it) (fault_one g s output fault other a.first b.first)
