-- What a step of a script does over a session.
use Rattle.std.specs.Prelude.{◌≡◌, ◌+◌, ◌⊎◌, ◌++◌, ℕ, Bool, true, false, List, [], ◌∷◌, length, Some, None}
use Rattle.pg_list.specs.declared.galley.Edit.{Edit}
use Rattle.pg_edits.specs.declared.fault.EditFault.{EditFault}
use Rattle.pg_edits.specs.declared.script.ScriptStep.{ScriptStep}
use Rattle.pg_edits.specs.declared.script.ScriptStep.TheVariants.{Change, Show as AShow}
use Rattle.pg_session.specs.Edits.{edit_fault}
use Rattle.pg_session.specs.SessionValue.{SessionValue}
use Rattle.pg_session.specs.Sessions.{IsEdited}
use Rattle.pg_session.specs.Shows.{AreAllCounted, Show, show_of, shows_from}
use Rattle.pg_outside.specs.Outside.{OverOutput, Rose, Sends, SendsFront, Sent}
use Rattle.pg_command.specs.declared.ending.Ending.{Ending}
use Rattle.pg_command.specs.declared.ending.Ending.TheVariants as ending
use Rattle.pg_command.specs.declared.status.Status.{Status}
use Rattle.pg_command.specs.declared.status.Status.TheVariants.{Done, NoLegal}
use Rattle.pg_course.specs.Counted.{IsShown}
use Rattle.pg_course.specs.Course.{EditSteps}
use Rattle.pg_course.specs.Out.{RunOut}

-- how shows end, where all of them had a legal pagination, or one had none
abbrev pub shown_end : Bool → Status
shown_end true = Done
shown_end false = NoLegal

-- how the steps of a script end so
abbrev pub ending_of_made : Bool → Ending
ending_of_made true = ending.Done
ending_of_made false = ending.NoLegal

-- a change was accepted, and nothing was written
pub record IsChange (edit : Edit) (old new : SessionValue) (legal : Bool) (written now : Sent) (before after : ℕ)
    : Type 0 where
  pub accepted : edit_fault old.galley old.style edit ≡ None
  pub edited : IsEdited old edit new
  pub legal_is : legal ≡ true
  pub keeps : now ≡ written
  pub still : after ≡ before

-- what a run writes for the galley as it stands was written, in one write
pub record IsShow (labels : Bool) (old new : SessionValue) (legal : Bool) (written now : Sent) (before after : ℕ)
    : Type 0 where
  pub text : List ℕ
  pub is : RunOut labels old.galley old.style text (shown_end legal)
  pub sends : Sends written now (text ∷ [])
  pub shown : IsShown old new before after

-- a step was made; a galley that was shown had a legal pagination, or not
abbrev pub IsStep : Bool → ScriptStep → SessionValue → SessionValue → Bool → Sent → Sent → ℕ → ℕ → Type 0
IsStep labels (Change edit) old new legal written now before after =
    IsChange edit old new legal written now before after
IsStep labels AShow old new legal written now before after = IsShow labels old new legal written now before after

-- memory ran out in a step, and nothing was written
pub record IsForgotten (out : OverOutput) (end : Ending) : Type 0 where
  pub ends : end ≡ ending.Memory
  pub keeps : out.new ≡ out.old

-- a change was refused, and nothing was written
pub record IsRefused (edit : Edit) (number : ℕ) (old : SessionValue) (out : OverOutput) (before after : ℕ) (end : Ending)
    : Type 0 where
  pub fault : EditFault
  pub cause : edit_fault old.galley old.style edit ≡ Some fault
  pub ends : end ≡ ending.BadEdit number fault
  pub keeps : out.new ≡ out.old
  pub still : after ≡ before

-- the output failed, and a front of what a run writes for the galley as it stands was written, in one write
pub record IsUnwritten (labels : Bool) (old new : SessionValue) (out : OverOutput) (before after : ℕ) (end : Ending)
    : Type 0 where
  pub ends : end ≡ ending.WriteFault
  pub rose : Rose out.before out.after
  pub text : List ℕ
  pub legal : Bool
  pub is : RunOut labels old.galley old.style text (shown_end legal)
  pub front : SendsFront out.old out.new (text ∷ [])
  pub shown : IsShown old new before after

-- why a step was not made
abbrev pub IsNoStep : Bool → ScriptStep → ℕ → SessionValue → SessionValue → OverOutput → ℕ → ℕ → Ending → Type 0
IsNoStep labels (Change edit) number old new out before after end =
    IsForgotten out end ⊎ IsRefused edit number old out before after end
IsNoStep labels AShow number old new out before after end =
    IsForgotten out end ⊎ IsUnwritten labels old new out before after end

-- some steps of a script were made from the first session on: what the rest does from here is what all do from there,
-- and so it is with the shows and with what is written
pub record AreMade (labels : Bool) (first : SessionValue) (made : List ScriptStep) (now : SessionValue) (legal : Bool)
    (old new : Sent) (before after : ℕ) : Type 0 where
  pub style : now.style ≡ first.style
  pub texts : List (List ℕ)
  pub goes_on : (rest : List ScriptStep) (later : List (List ℕ)) (last : Status) (line : List ℕ) →
      EditSteps labels first.style now.galley (length made + 1) (shown_end legal) rest later last line →
      EditSteps labels first.style first.galley 1 Done (made ++ rest) (texts ++ later) last line
  pub written : Sends old new texts
  pub shown : List Show
  pub shows_on : (rest : List ScriptStep) → shows_from (show_of first) first.style (made ++ rest)
      ≡ shown ++ shows_from (show_of now) first.style rest
  pub counted : AreAllCounted first.style shown before after
