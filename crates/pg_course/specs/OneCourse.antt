-- What a command does is determined by its words and by what the files hold.
use Rattle.std.specs.Prelude.{◌≡◌, ℕ, Bool, List, [], ◌∷◌, Option}
use Rattle.pg_list.specs.GalleyValue.{GalleyValue}
use Rattle.pg_style.specs.Values.{StyleValue}
use Rattle.pg_edits.specs.declared.script.ScriptStep.{ScriptStep}
use Rattle.pg_session.specs.Shows.{Show, shows}
use Rattle.pg_outside.specs.Outside.{Held}
use Rattle.pg_command.specs.declared.status.Status.{Status}
use Rattle.pg_command.specs.declared.status.Status.TheVariants.{Done}
use Rattle.pg_command.specs.Words.{Command}
use Rattle.pg_course.specs.Course.{Course, EditSteps}
use Rattle.pg_course.specs.Out.{RunOut}

-- two courses write the same texts, end with the same status and have the same line
pub record IsSameCourse (texts : List (List ℕ)) (end : Status) (line : List ℕ) (others : List (List ℕ)) (last : Status)
    (said : List ℕ) : Type 0 where
  pub same_texts : texts ≡ others
  pub same_end : end ≡ last
  pub same_line : line ≡ said

-- a relation of texts, an end and a line has at most one that fits
abbrev pub IsOne : (List (List ℕ) → Status → List ℕ → Type 0) → Type 0
IsOne C = (texts : List (List ℕ)) (end : Status) (line : List ℕ) → C texts end line →
    (others : List (List ℕ)) (last : Status) (said : List ℕ) → C others last said →
    IsSameCourse texts end line others last said

-- a command has one course over the files that are held
abbrev pub CoursesAreOne : Type 0
CoursesAreOne = (command : Option Command) (held : Held) → IsOne (Course command held)

-- each of these texts is what any run writes for the galley that is shown there, with labels or without
abbrev pub AreRuns : Bool → StyleValue → List Show → List (List ℕ) → Type 0
AreRuns labels style [] [] = Unit {0}
AreRuns labels style (show ∷ shown) (text ∷ texts) =
    ((run : List ℕ) (end : Status) → RunOut labels show.galley style run end → run ≡ text)
    × AreRuns labels style shown texts
AreRuns labels style shown texts = ⊥

-- at each show of an edit the text is that of a fresh run for the galley as it stands
abbrev pub ShowsAreRuns : Type 0
ShowsAreRuns = (labels : Bool) (style : StyleValue) (galley : GalleyValue) (steps : List ScriptStep)
    (texts : List (List ℕ)) (end : Status) (line : List ℕ) →
    EditSteps labels style galley 1 Done steps texts end line → AreRuns labels style (shows galley style steps) texts
