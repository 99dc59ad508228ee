-- The texts of a script are one, and those of runs.
use Rattle.std.proofs.Common.{◌∙◌, sym, ap₂, subst, ℕ, ◌+◌, Bool, List, [], ◌∷◌}
use Rattle.std.specs.Prelude.{Option, Some, None, MatchOption}
use Rattle.pg_list.specs.GalleyValue.{GalleyValue}
use Rattle.pg_style.specs.Values.{StyleValue}
use Rattle.pg_edits.specs.declared.fault.EditFault.{EditFault}
use Rattle.pg_edits.specs.declared.script.ScriptStep.{ScriptStep}
use Rattle.pg_edits.specs.declared.script.ScriptStep.TheVariants.{Change, Show as AShow}
use Rattle.pg_session.specs.Edits.{edit_fault, edited}
use Rattle.pg_session.specs.Shows.{Show, after_edit, after_show, shows_from, unless_refused, unseen}
use Rattle.pg_command.specs.declared.status.Status.{Status}
use Rattle.pg_command.specs.declared.status.Status.TheVariants.{Done, Refused}
use Rattle.pg_command.specs.Lines.{edit_line}
use Rattle.pg_course.specs.Course.{EditSteps, Stop, Stops, stop, with_end}
use Rattle.pg_course.specs.OneCourse.{AreRuns, IsOne, ShowsAreRuns}
use Rattle.pg_course.proofs.OneText.{run_one}

pub stops_one : (why : Stop) → IsOne (λ texts end line. Stops texts end line why)
stops_one why texts end line (none, ends, says) others last said (nothing, how, what) =
    record { same_texts = none ∙ sym nothing; same_end = ends ∙ sym how; same_line = says ∙ sym what }

pub match_one : {X : Type 0} (o : Option X) (C : List (List ℕ) → Status → List ℕ → Type 0)
    (D : X → List (List ℕ) → Status → List ℕ → Type 0) → IsOne C → ((x : X) → IsOne (D x)) →
    IsOne (λ texts end line. MatchOption o (C texts end line) (λ x. D x texts end line))
match_one None C D one ones = one
match_one (Some x) C D one ones = ones x

-- ---- the steps of a script

pub steps_one : (labels : Bool) (style : StyleValue) (steps : List ScriptStep) (galley : GalleyValue) (number : ℕ)
    (before : Status) → IsOne (EditSteps labels style galley number before steps)
steps_one labels style [] galley number before texts end line (none, ends, says) others last said
    (nothing, how, what) =
    record { same_texts = none ∙ sym nothing; same_end = ends ∙ sym how; same_line = says ∙ sym what }
steps_one labels style (AShow ∷ steps) galley number before texts end line (text, shown, later, out, is, rest) others
    last said (other, seen, more, run, are, left) =
    let same = run_one galley style labels text shown out other seen run in
    let next = steps_one labels style steps galley (number + 1) (with_end before shown) later end line rest more last said
    (subst (λ (how : Status). EditSteps labels style galley (number + 1) (with_end before how) steps more last said)
    (sym same.1) left) in
    record {
      same_texts = is ∙ (ap₂ (λ x xs. x ∷ xs) same.0 next.same_texts ∙ sym are);
      same_end = next.same_end;
      same_line = next.same_line;
    }
steps_one labels style (Change change ∷ steps) galley number before texts end line a others last said b =
    match_one (edit_fault galley style change)
    (EditSteps labels style (edited galley change) (number + 1) before steps)
    (λ fault texts end line. Stops texts end line (stop Refused (edit_line number fault)))
    (steps_one labels style steps (edited galley change) (number + 1) before)
    (λ fault. stops_one (stop Refused (edit_line number fault))) texts end line a others last said b

-- ---- the shows

change_runs : (labels : Bool) (style : StyleValue) (o : Option EditFault) (shown : List Show)
    (Goes : List (List ℕ) → Status → List ℕ → Type 0) (why : EditFault → Stop) (texts : List (List ℕ)) (end : Status)
    (line : List ℕ) → MatchOption o (Goes texts end line) (λ fault. Stops texts end line (why fault)) →
    (Goes texts end line → AreRuns labels style shown texts) → AreRuns labels style (unless_refused o shown) texts
change_runs labels style None shown Goes why texts end line course on = on course
change_runs labels style (Some fault) shown Goes why texts end line (none, ends, says) on =
    subst (AreRuns labels style []) (sym none) tt

from_here : (labels : Bool) (style : StyleValue) (steps : List ScriptStep) (at : Show) (number : ℕ) (before : Status)
    (texts : List (List ℕ)) (end : Status) (line : List ℕ) →
    EditSteps labels style at.galley number before steps texts end line →
    AreRuns labels style (shows_from at style steps) texts
from_here labels style [] at number before texts end line (none, ends, says) =
    subst (AreRuns labels style []) (sym none) tt
from_here labels style (AShow ∷ steps) at number before texts end line (text, shown, later, out, is, rest) =
    subst (AreRuns labels style (at ∷ shows_from (after_show at) style steps)) (sym is) (
      λ run last other. (run_one at.galley style labels run last other text shown out).0,
      from_here labels style steps (after_show at) (number + 1) (with_end before shown) later end line rest,
    )
from_here labels style (Change change ∷ steps) at number before texts end line course =
    change_runs labels style (edit_fault at.galley style change) (shows_from (after_edit at change) style steps)
    (EditSteps labels style (edited at.galley change) (number + 1) before steps)
    (λ fault. stop Refused (edit_line number fault)) texts end line course
    (from_here labels style steps (after_edit at change) (number + 1) before texts end line)

pub shows_run : ShowsAreRuns
shows_run labels style galley steps texts end line course =
    from_here labels style steps (unseen galley) 1 Done texts end line course
