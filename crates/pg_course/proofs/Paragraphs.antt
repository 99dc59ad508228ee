-- What the command `lines` promises, by what was found for its paragraphs.
use Rattle.std.proofs.Common.{◌≡◌, ℕ, List, [], refl}
use Rattle.std.specs.Prelude.{None, Ok, Err}
use Rattle.pg_outside.specs.Outside.{OverOutput, Sent}
use Rattle.pg_list.specs.GalleyValue.{GalleyValue}
use Rattle.pg_showbox.specs.Reading.{galley_of}
use Rattle.pg_showbox.specs.Text.{galley_text}
use Rattle.pg_hlist.specs.declared.item.HItem.{HItem}
use Rattle.law_lines.specs.declared.rule.LineRule.{LineRule}
use Rattle.law_lines.specs.declared.rule.LineFault.{LineFault}
use Rattle.law_lines.specs.declared.rule.LineFault.TheVariants as fault
use Rattle.law_lines.specs.Galleys.{Broken}
use Rattle.pg_lines.specs.Answers.{AnswersLines}
use Rattle.pg_command.specs.declared.ending.Ending.{Ending}
use Rattle.pg_command.specs.declared.status.Status.TheVariants.{Refused}
use Rattle.pg_command.specs.Lines.{paragraph_line}
use Rattle.pg_course.specs.Calls.{Writes}
use Rattle.pg_course.specs.Course.{EndsBy, LinesCourse, ShowGalley}
use Rattle.pg_course.proofs.Runs.{appends_none, writes_as}

-- what writes the galley of paragraphs, which reads back, does what their course says
pub lines_write : (rule : LineRule) (name : List ℕ) (paras : List (List HItem)) (galley : GalleyValue) (out : OverOutput)
    (end : Ending) → Broken rule paras (Ok galley) → galley_of (galley_text galley) None ≡ Ok galley →
    Writes (ShowGalley galley) out end → Writes (LinesCourse rule name (Ok paras)) out end
lines_write rule name paras galley out end broken back writes =
    writes_as (ShowGalley galley) (LinesCourse rule name (Ok paras)) out end
    (λ texts status line shown. (Ok galley, broken, (shown, back))) writes

-- a fault that is not want of memory ends their course without a text
pub lines_stop : (rule : LineRule) (name : List ℕ) (paras : List (List HItem)) (why : LineFault)
    (old : Sent) → AnswersLines rule paras (Err why) → (why ≡ fault.Memory → ⊥) →
    EndsBy (LinesCourse rule name (Ok paras)) old old Refused (paragraph_line name why)
lines_stop rule name paras (fault.NoBreak paragraph) old broken other = record {
  texts = [];
  course = (Err (fault.NoBreak paragraph), broken, (refl, refl, refl));
  written = appends_none old;
}
lines_stop rule name paras (fault.Limit count) old broken other = record {
  texts = [];
  course = (Err (fault.Limit count), broken, (refl, refl, refl));
  written = appends_none old;
}
lines_stop rule name paras fault.Memory old broken other = absurd (other refl)
