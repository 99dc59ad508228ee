-- One step of a script.
use Rattle.std.proofs.Common.{◌≡◌, inl, inr, refl, subst, ℕ, Bool, List, [], ◌∷◌}
use Rattle.std.specs.Prelude.{Err}
use Rattle.pg_outside.specs.Outside.{Sends, Sent}
use Rattle.pg_list.specs.declared.galley.Edit.{Edit}
use Rattle.pg_edits.specs.declared.fault.EditFault.{EditFault}
use Rattle.pg_edits.specs.declared.fault.EditFault.TheVariants.{Class, Floats, Limit, Memory, Range}
use Rattle.pg_edits.specs.declared.script.ScriptStep.TheVariants.{Change}
use Rattle.pg_session.specs.Edits.{Refuses, edit_fault}
use Rattle.pg_session.specs.SessionValue.{SessionValue}
use Rattle.pg_command.specs.declared.ending.Ending.{Ending}
use Rattle.pg_command.specs.declared.status.Status.{Status}
use Rattle.pg_course.specs.Calls.{edit_ending}
use Rattle.pg_course.specs.Counted.{IsShown}
use Rattle.pg_course.specs.Out.{RunOut}
use Rattle.pg_course.specs.Steps.{IsNoStep, IsShow, shown_end}

-- a galley was shown
pub text_shown : (labels legal : Bool) (old new : SessionValue) (written now : Sent) (before after : ℕ)
    (text : List ℕ) (end : Status) → RunOut labels old.galley old.style text end → end ≡ shown_end legal →
    Sends written now (text ∷ []) → IsShown old new before after → IsShow labels old new legal written now before after
text_shown labels legal old new written now before after text end out is sends shown = record {
  text = text;
  is = subst (RunOut labels old.galley old.style text) is out;
  sends = sends;
  shown = shown;
}
