-- How many steps the solving of a command's galleys, and the check of an output text, may take.
use Rattle.std.specs.Prelude.{◌≡◌, ◌+◌, ◌≤◌, ◌^◌, ℕ, List, [], length, nat_le, ⊤, Option, Some, None, Result, Ok, Err}
use Rattle.std.specs.Prelude.{IfSome, MatchBool, MatchOption, if◌then◌else◌}
use Rattle.std.specs.Option.{option_map_or}
use Rattle.pg_list.specs.GalleyValue.{GalleyValue}
use Rattle.pg_style.specs.Values.{StyleValue}
use Rattle.pg_floats.specs.AreFloats.{unknown_class, float_total}
use Rattle.pg_labels.specs.declared.output.Output.{Output}
use Rattle.pg_edits.specs.declared.script.ScriptStep.{ScriptStep}
use Rattle.pg_session.specs.SessionValue.{SessionValue}
use Rattle.pg_session.specs.Sessions.{above_all}
use Rattle.pg_session.specs.Shows.{AreCounted, Counts, Show, one_show, show_of, shows_from, unseen}
use Rattle.pg_make.specs.Generated.{made_galley}
use Rattle.pg_make.specs.Made.{made_style}
use Rattle.pg_outside.specs.Outside.{Held}
use Rattle.pg_command.specs.declared.status.Status.{Status}
use Rattle.pg_command.specs.declared.status.Status.TheVariants.{Memory}
use Rattle.pg_command.specs.Words.{Command, named, run, edit, show, make, check}
use Rattle.pg_command.specs.Words.{lines, heads, compare, fold}
use Rattle.pg_greedy.specs.Faults.{greedy_fault}
use Rattle.pg_course.specs.declared.product.Product.{Product}
use Rattle.pg_course.specs.declared.product.Product.TheVariants.{Pages, Heads, Comparison, Sheets}
use Rattle.pg_course.specs.Course.{Stop, opened, opened_output, opened_script, opened_style}

-- the shows of a galley that is taken; one that is refused is not shown
abbrev pub taken_shows : StyleValue → GalleyValue → List Show → List Show
taken_shows style galley shown = option_map_or (λ _. []) (unknown_class galley.blocks style)
    (if nat_le (float_total galley.blocks style) (2 ^ 12) then shown else [])

-- the shows of a galley of which this is made; one without a first fit is not shown for a comparison
abbrev pub made_shows : Product → StyleValue → GalleyValue → List Show → List Show
made_shows Comparison style galley shown = option_map_or (λ _. []) (greedy_fault style galley.blocks) shown
made_shows product style galley shown = shown

-- the galley of which something is made is shown once
abbrev pub CountsRun : Product → Result StyleValue Stop → Result GalleyValue Stop → ℕ → ℕ → Type 0
CountsRun product (Err stop) galley before after = after ≡ before
CountsRun product (Ok style) (Err stop) before after = after ≡ before
CountsRun product (Ok style) (Ok galley) before after =
    AreCounted style (taken_shows style galley (made_shows product style galley (one_show galley))) before after

-- a galley that is taken is shown at each show of a script
abbrev pub CountsScript : StyleValue → Show → Result (List ScriptStep) Stop → ℕ → ℕ → Type 0
CountsScript style at (Err stop) before after = after ≡ before
CountsScript style at (Ok steps) before after =
    AreCounted style (taken_shows style at.galley (shows_from at style steps)) before after

-- an edit shows the galley at each show of its script
abbrev pub CountsEdit : Result StyleValue Stop → Result GalleyValue Stop → Result (List ScriptStep) Stop → ℕ → ℕ
    → Type 0
CountsEdit (Err stop) galley script before after = after ≡ before
CountsEdit (Ok style) (Err stop) script before after = after ≡ before
CountsEdit (Ok style) (Ok galley) script before after = CountsScript style (unseen galley) script before after

-- an output text that is read takes at most a step for each of its labels
abbrev pub CountsText : Result Output Stop → ℕ → ℕ → Type 0
CountsText (Err stop) before after = after ≡ before
CountsText (Ok output) before after = after ≤ before + length output.labels

-- it is read behind a galley that is taken; one that is refused takes no step
abbrev pub CountsTaken : StyleValue → GalleyValue → Result Output Stop → ℕ → ℕ → Type 0
CountsTaken style galley output before after = MatchOption (unknown_class galley.blocks style)
    (MatchBool (nat_le (float_total galley.blocks style) (2 ^ 12)) (CountsText output before after) (after ≡ before))
    (λ class. after ≡ before)

-- a check opens each label of its output text at most once, where style, galley and text are read
abbrev pub CountsCheck : Result StyleValue Stop → Result GalleyValue Stop → Result Output Stop → ℕ → ℕ → Type 0
CountsCheck (Err stop) galley output before after = after ≡ before
CountsCheck (Ok style) (Err stop) output before after = after ≡ before
CountsCheck (Ok style) (Ok galley) output before after = CountsTaken style galley output before after

-- the steps rise by at most the numbers of the command's shows, and of `check` by at most the number of labels that are
-- tested, where the bytes are told; for `make` whatever is told, and for any other command they do not rise
abbrev pub IsCounted : Option Command → Option Held → ℕ → ℕ → Type 0
IsCounted None told before after = after ≡ before
IsCounted (Some (run style galley labels wrap)) told before after = IfSome told (λ held.
    CountsRun (Pages labels) (opened_style style held) (opened galley wrap (held galley)) before after)
IsCounted (Some (edit style galley script labels wrap)) told before after = IfSome told (λ held.
    CountsEdit (opened_style (named style) held) (opened galley wrap (held galley))
    (opened_script script (held script)) before after)
IsCounted (Some (show galley wrap)) told before after = after ≡ before
IsCounted (Some (make count)) told before after = AreCounted made_style (one_show (made_galley count)) before after
IsCounted (Some (check style galley output wrap)) told before after = IfSome told (λ held.
    CountsCheck (opened_style (named style) held) (opened galley wrap (held galley))
    (opened_output output (held output)) before after)
IsCounted (Some (lines width tolerance around file)) told before after = after ≡ before
IsCounted (Some (heads style galley wrap)) told before after = IfSome told (λ held.
    CountsRun Heads (opened_style (named style) held) (opened galley wrap (held galley)) before after)
IsCounted (Some (compare style galley wrap)) told before after = IfSome told (λ held.
    CountsRun Comparison (opened_style (named style) held) (opened galley wrap (held galley)) before after)
IsCounted (Some (fold style galley folds nest wrap)) told before after = IfSome told (λ held.
    CountsRun (Sheets folds nest) (opened_style (named style) held) (opened galley wrap (held galley)) before after)

-- unless memory ran out
abbrev pub UnlessMemory : Status → Type 0 → Type 0
UnlessMemory Memory P = ⊤
UnlessMemory status P = P

-- a session was solved or paginated for its galley as it stands: that was shown, nothing is touched behind it, and the
-- steps rose by at most the number of the show
pub record IsShown (old new : SessionValue) (before after : ℕ) : Type 0 where
  pub galley : new.galley ≡ old.galley
  pub style : new.style ≡ old.style
  pub floats : new.floats ≡ old.floats
  pub untouched : new.touched ≡ above_all
  pub number : ℕ
  pub counts : Counts old.style (show_of old) number
  pub bounded : after ≤ before + number
