-- The text of a session's galley with its labels.
use Rattle.std.proofs.Common.{◌≡◌, ◌∙◌, subst, sym, true, List, ◌++◌}
use Rattle.std.specs.Prelude.{Result, Ok, Err, IfOk}
use Rattle.pg_list.specs.GalleyValue.{GalleyValue}
use Rattle.pg_plan.specs.declared.states.Label.{Label}
use Rattle.pg_style.specs.Values.{StyleValue}
use Rattle.pg_rules.specs.Frontier.{Frontier}
use Rattle.pg_labels.specs.LabelText.{label_text}
use Rattle.pg_session.specs.SessionValue.{SessionValue}
use Rattle.pg_course.specs.Out.{Out, RunOut, bytes_of, end_of, tells_fitness}
use Rattle.pg_course.specs.declared.paginate.PageText.{PageText}

-- a session that was solved tells the labels of the galley that it was solved for
pub labelled_text : {E : Type 0} (old new : SessionValue) (galley : GalleyValue) (style told_style : StyleValue)
    (text : PageText) (told : List Label) (r : Result PageText E) → new.galley ≡ old.galley → new.style ≡ old.style →
    galley ≡ new.galley → style ≡ new.style → told_style ≡ new.style → Out galley style (bytes_of text) (end_of text) →
    Frontier new.galley new.style told →
    IfOk r (λ page. bytes_of page ≡ bytes_of text ++ label_text (tells_fitness told_style) told) →
    IfOk r (λ page. end_of page ≡ end_of text) →
    IfOk r (λ page. RunOut true old.galley old.style (bytes_of page) (end_of page))
labelled_text old new galley style told_style text told (Err fault) g s g1 s1 s2 out frontier written end = tt
labelled_text old new galley style told_style text told (Ok page) g s g1 s1 s2 out frontier written end = record {
  pages = bytes_of text;
  out =
      subst (Out old.galley old.style (bytes_of text)) (sym end)
      (subst (λ (x : StyleValue). Out old.galley x (bytes_of text) (end_of text)) (s1 ∙ s)
      (subst (λ (x : GalleyValue). Out x style (bytes_of text) (end_of text)) (g1 ∙ g) out));
  labels = told;
  frontier =
      subst (λ (x : StyleValue). Frontier old.galley x told) s
      (subst (λ (x : GalleyValue). Frontier x new.style told) g frontier);
  written =
      subst (λ (x : StyleValue). bytes_of page ≡ bytes_of text ++ label_text (tells_fitness x) told) (s2 ∙ s) written;
}
