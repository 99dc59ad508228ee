-- The steps of a script, one behind another.
use Rattle.std.proofs.Common.{◌≡◌, ◌∙◌, inl, inr, refl, sym, ap, subst, ℕ, suc, ◌+◌, ◌<◌, ◌≤◌, Bool, true, false, arith}
use Rattle.std.proofs.Common.{List, [], ◌∷◌, ◌++◌, length, take, take-suc, drop, get_or, append_assoc, append-nil}
use Rattle.std.specs.Prelude.{◌&&◌, Option, Some, None}
use Rattle.std.specs.List.{concat}
use Rattle.std.specs.Io.KnownBytes.{Appends}
use Rattle.std.proofs.Math.Bool.{and-true}
use Rattle.std.proofs.Math.Seq.{take-append_seam}
use Rattle.std.proofs.lemmas.List.{length-append, length-take-le, take-append-drop}
use Rattle.std.proofs.lemmas.List.Folds.{concat-append}
use Rattle.pg_list.specs.GalleyValue.{GalleyValue}
use Rattle.pg_list.specs.declared.galley.Edit.{Edit}
use Rattle.pg_style.specs.Values.{StyleValue}
use Rattle.pg_edits.specs.declared.fault.EditFault.{EditFault}
use Rattle.pg_edits.specs.declared.script.ScriptStep.{ScriptStep}
use Rattle.pg_edits.specs.declared.script.ScriptStep.TheVariants.{Change, Show as AShow}
use Rattle.pg_session.specs.Edits.{edit_fault, edited}
use Rattle.pg_session.specs.SessionValue.{SessionValue}
use Rattle.pg_session.specs.Sessions.{IsEdited}
use Rattle.pg_session.specs.Shows.{AreCounted, Show, after_edit, after_show, show_of, shows_from}
use Rattle.pg_session.proofs.Counted.{firsts_counted, none_counted, show_counted}
use Rattle.pg_outside.specs.Outside.{AppendsFront, OverOutput, Sends, SendsFront, Sent, advanced, next_number, output_over}
use Rattle.pg_command.specs.declared.ending.Ending.{Ending}
use Rattle.pg_command.specs.declared.status.Status.{Status}
use Rattle.pg_command.specs.declared.status.Status.TheVariants.{Done, Refused}
use Rattle.pg_command.specs.Lines.{edit_line, status_of}
use Rattle.pg_command.proofs.Fronts.{appends_both, front_after}
use Rattle.pg_course.specs.Calls.{WritesOn}
use Rattle.pg_course.specs.Counted.{UnlessMemory}
use Rattle.pg_course.specs.Course.{EditFront, EditSteps, with_end}
use Rattle.pg_course.specs.Out.{RunOut}
use Rattle.pg_course.specs.Steps.{AreMade, IsChange, IsForgotten, IsNoStep, IsRefused, IsShow, IsStep, IsUnwritten, ending_of_made, shown_end}
use Rattle.pg_course.proofs.Checks.{earlier_rose}
use Rattle.pg_course.proofs.Runs.{appends_none}
use Rattle.pg_course.proofs.Shown.{shown_next}

pub none_made : (labels : Bool) (first : SessionValue) (old : Sent) (before : ℕ) →
    AreMade labels first [] first true old old before before
none_made labels first old before = record {
  style = refl;
  texts = [];
  goes_on = λ rest later last line steps. steps;
  written = appends_none old;
  shown = [];
  shows_on = λ rest. refl;
  counted = none_counted first.style before;
}

one_more : (made : List ScriptStep) (step : ScriptStep) → length (made ++ step ∷ []) ≡ length made + 1
one_more [] step = refl
one_more (x ∷ made) step = let e = one_more made step in omega (arith, e)

both_end : (a b : Bool) → with_end (shown_end a) (shown_end b) ≡ shown_end (a && b)
both_end true true = refl
both_end true false = refl
both_end false true = refl
both_end false false = refl

texts_more : (texts : List (List ℕ)) (text : List ℕ) → concat (texts ++ text ∷ []) ≡ concat texts ++ text
texts_more texts text =
    concat-append texts (text ∷ []) ∙ ap (λ (xs : List ℕ). concat texts ++ xs) (append-nil text)

-- one write more for one text more
writes_more : (texts : List (List ℕ)) (text : List ℕ) (a b c : ℕ) → b ≡ advanced (length texts) a → c ≡ next_number b →
    c ≡ advanced (length (texts ++ text ∷ [])) a
writes_more texts text a b c first second =
    let count : length (texts ++ text ∷ []) ≡ suc (length texts) =
    omega (arith, length-append texts (text ∷ [])) in
    second ∙ (ap next_number first ∙ ap (λ (n : ℕ). advanced n a) (sym count))

sends_more : (old mid new : Sent) (texts : List (List ℕ)) (text : List ℕ) → Sends old mid texts →
    Sends mid new (text ∷ []) → Sends old new (texts ++ text ∷ [])
sends_more old mid new texts text first second = record {
  bytes = subst (Appends old.bytes new.bytes) (sym (texts_more texts text))
      (appends_both old.bytes mid.bytes new.bytes (concat texts) text first.bytes
      (subst (Appends mid.bytes new.bytes) (append-nil text) second.bytes));
  writes = writes_more texts text old.writes mid.writes new.writes first.writes second.writes;
}

-- a front of one text more
front_more : (old mid new : Sent) (texts : List (List ℕ)) (text : List ℕ) → Sends old mid texts →
    SendsFront mid new (text ∷ []) → SendsFront old new (texts ++ text ∷ [])
front_more old mid new texts text first second = record {
  bytes = subst (AppendsFront old.bytes new.bytes) (sym (texts_more texts text))
      (front_after old.bytes mid.bytes new.bytes (concat texts) text first.bytes
      (subst (AppendsFront mid.bytes new.bytes) (append-nil text) second.bytes));
  writes = writes_more texts text old.writes mid.writes new.writes first.writes second.writes;
}

-- a sink that does not tell its bytes
untold : Sent → Sent
untold it = record { bytes = None; writes = it.writes }

module _ (labels : Bool) (first : SessionValue) where
  -- a change was made
  accepted_made : (now new : SessionValue) (made : List ScriptStep) (edit : Edit) (legal : Bool)
      (old mid : Sent) (before after : ℕ) → AreMade labels first made now legal old mid before after →
      edit_fault now.galley now.style edit ≡ None → IsEdited now edit new →
      AreMade labels first (made ++ Change edit ∷ []) new legal old mid before after
  accepted_made now new made edit legal old mid before after m none e = record {
    style = ap (λ (s : SessionValue). s.style) e.is ∙ m.style;
    texts = m.texts;
    goes_on = λ rest later last line steps.
        rw (append_assoc made (Change edit ∷ []) rest)
        (m.goes_on (Change edit ∷ rest) later last line
        (rw taken (subst (λ (n : ℕ).
        EditSteps labels first.style (edited now.galley edit) n (shown_end legal) rest later last line)
        count (subst (λ (g : GalleyValue). EditSteps labels first.style g (length (made ++ Change edit ∷ []) + 1)
        (shown_end legal) rest later last line) galley_is steps))));
    written = m.written;
    shown = m.shown;
    shows_on = λ rest.
        ap (λ (xs : List ScriptStep). shows_from (show_of first) first.style xs)
        (append_assoc made (Change edit ∷ []) rest)
        ∙ m.shows_on (Change edit ∷ rest)
        ∙ ap (λ (xs : List Show). m.shown ++ xs) (rw taken (rest_is rest));
    counted = m.counted;
  }
    where
      taken : edit_fault now.galley first.style edit ≡ None
      taken = subst (λ (s : StyleValue). edit_fault now.galley s edit ≡ None) m.style none

      galley_is : new.galley ≡ edited now.galley edit
      galley_is = ap (λ (s : SessionValue). s.galley) e.is

      count : length (made ++ Change edit ∷ []) + 1 ≡ length made + 1 + 1
      count = ap (λ (n : ℕ). n + 1) (one_more made (Change edit))

      next_is : show_of new ≡ after_edit (show_of now) edit
      next_is = ap show_of e.is

      rest_is : (rest : List ScriptStep) → shows_from (after_edit (show_of now) edit) first.style rest
          ≡ shows_from (show_of new) first.style rest
      rest_is rest = ap (λ (at : Show). shows_from at first.style rest) (sym next_is)

  change_made : (now new : SessionValue) (made : List ScriptStep) (edit : Edit) (legal shown : Bool)
      (old mid newest : Sent) (before middle after : ℕ) →
      AreMade labels first made now legal old mid before middle →
      IsChange edit now new shown mid newest middle after →
      AreMade labels first (made ++ Change edit ∷ []) new (legal && shown) old newest before after
  change_made now new made edit legal shown old mid newest before middle after m s =
      let all = made ++ Change edit ∷ [] in
      let stays : legal ≡ (legal && shown) = sym (ap (λ (b : Bool). legal && b) s.legal_is ∙ and-true legal) in
      subst (λ (b : Bool). AreMade labels first all new b old newest before after) stays
      (subst (λ (w : Sent). AreMade labels first all new legal old w before after) (sym s.keeps)
      (subst (λ (n : ℕ). AreMade labels first all new legal old mid before n) (sym s.still)
      (accepted_made now new made edit legal old mid before middle m s.accepted s.edited)))

  -- the galley was shown
  show_made : (now new : SessionValue) (made : List ScriptStep) (legal shown : Bool)
      (old mid newest : Sent) (before middle after : ℕ) →
      AreMade labels first made now legal old mid before middle → IsShow labels now new shown mid newest middle after →
      AreMade labels first (made ++ AShow ∷ []) new (legal && shown) old newest before after
  show_made now new made legal shown old mid newest before middle after m s = record {
    style = s.shown.style ∙ m.style;
    texts = m.texts ++ s.text ∷ [];
    goes_on = λ rest later last line steps.
        rw (append_assoc made (AShow ∷ []) rest, append_assoc m.texts (s.text ∷ []) later)
        (m.goes_on (AShow ∷ rest) (s.text ∷ later) last line (
          s.text,
          shown_end shown,
          later,
          out,
          refl,
          subst (λ (end : Status). EditSteps labels first.style now.galley (length made + 1 + 1) end rest later last line)
              (sym (both_end legal shown))
              (subst (λ (n : ℕ). EditSteps labels first.style now.galley n (shown_end (legal && shown)) rest later last line)
              count (subst (λ (g : GalleyValue). EditSteps labels first.style g (length (made ++ AShow ∷ []) + 1)
              (shown_end (legal && shown)) rest later last line) galley_is steps)),
        ));
    written = sends_more old mid newest m.texts s.text m.written s.sends;
    shown = m.shown ++ show_of now ∷ [];
    shows_on = λ rest.
        ap (λ (xs : List ScriptStep). shows_from (show_of first) first.style xs)
        (append_assoc made (AShow ∷ []) rest)
        ∙ m.shows_on (AShow ∷ rest)
        ∙ ap (λ (xs : List Show). m.shown ++ (show_of now ∷ xs)) (rest_is rest)
        ∙ sym (append_assoc m.shown (show_of now ∷ []) (shows_from (show_of new) first.style rest));
    counted = show_counted first.style m.shown now s.shown.number before middle after m.style m.counted s.shown.counts
        s.shown.bounded;
  }
    where
      out : RunOut labels now.galley first.style s.text (shown_end shown)
      out = subst (λ (style : StyleValue). RunOut labels now.galley style s.text (shown_end shown)) m.style s.is

      galley_is : new.galley ≡ now.galley
      galley_is = s.shown.galley

      count : length (made ++ AShow ∷ []) + 1 ≡ length made + 1 + 1
      count = ap (λ (n : ℕ). n + 1) (one_more made AShow)

      next_is : show_of new ≡ after_show (show_of now)
      next_is = shown_next now new middle after s.shown

      rest_is : (rest : List ScriptStep) → shows_from (after_show (show_of now)) first.style rest
          ≡ shows_from (show_of new) first.style rest
      rest_is rest = ap (λ (at : Show). shows_from at first.style rest) (sym next_is)

  one_made : (now new : SessionValue) (made : List ScriptStep) (step : ScriptStep) (legal shown : Bool)
      (old mid newest : Sent) (before middle after : ℕ) →
      AreMade labels first made now legal old mid before middle →
      IsStep labels step now new shown mid newest middle after →
      AreMade labels first (made ++ step ∷ []) new (legal && shown) old newest before after
  one_made now new made (Change edit) legal shown old mid newest before middle after m s =
      change_made now new made edit legal shown old mid newest before middle after m s
  one_made now new made AShow legal shown old mid newest before middle after m s =
      show_made now new made legal shown old mid newest before middle after m s

  -- all steps were made
  all_made : (now : SessionValue) (made : List ScriptStep) (legal : Bool) (old new : Sent)
      (before after : ℕ) (m : AreMade labels first made now legal old new before after) →
      EditSteps labels first.style first.galley 1 Done made m.texts (shown_end legal) []
  all_made now made legal old new before after m =
      let all = m.goes_on [] [] (shown_end legal) [] (refl, refl, refl) in
      subst (λ (xs : List ScriptStep). EditSteps labels first.style first.galley 1 Done xs m.texts (shown_end legal) [])
      (append-nil made)
      (subst (λ (xs : List (List ℕ)). EditSteps labels first.style first.galley 1 Done (made ++ []) xs (shown_end legal)
      []) (append-nil m.texts) all)

  -- a front of the course
  front_made : (now : SessionValue) (made rest : List ScriptStep) (legal : Bool) (old new : Sent)
      (before after : ℕ) (m : AreMade labels first made now legal old new before after) →
      EditFront labels first.style first.galley (made ++ rest) m.texts (shown_end legal) []
  front_made now made rest legal old new before after m = (
    length made,
    subst (λ (xs : List ScriptStep). EditSteps labels first.style first.galley 1 Done xs m.texts
        (shown_end legal) []) (sym (take-append_seam made rest)) (all_made now made legal old new before after m),
  )

  -- and the steps that were taken
  made_counted : (now : SessionValue) (made rest : List ScriptStep) (legal : Bool) (old new : Sent)
      (before after : ℕ) → AreMade labels first made now legal old new before after →
      AreCounted first.style (shows_from (show_of first) first.style (made ++ rest)) before after
  made_counted now made rest legal old new before after m =
      rw (m.shows_on rest) (firsts_counted first.style m.shown (shows_from (show_of now) first.style rest) before after
      m.counted)

  -- the next change is refused
  refused_made : (now : SessionValue) (made rest : List ScriptStep) (edit : Edit) (fault : EditFault) (legal : Bool)
      (old new : Sent) (before after : ℕ) (m : AreMade labels first made now legal old new before after) →
      edit_fault now.galley now.style edit ≡ Some fault →
      EditSteps labels first.style first.galley 1 Done (made ++ Change edit ∷ rest) m.texts Refused
      (edit_line (length made + 1) fault)
  refused_made now made rest edit fault legal old new before after m is =
      subst (λ (xs : List (List ℕ)). EditSteps labels first.style first.galley 1 Done (made ++ Change edit ∷ rest) xs
      Refused (edit_line (length made + 1) fault)) (append-nil m.texts)
      (m.goes_on (Change edit ∷ rest) [] Refused (edit_line (length made + 1) fault) (rw cause (refl, refl, refl)))
    where
      cause : edit_fault now.galley first.style edit ≡ Some fault
      cause = subst (λ (s : StyleValue). edit_fault now.galley s edit ≡ Some fault) m.style is

  -- how it ends behind some steps of all
  abbrev pub EndsSo : List ScriptStep → OverOutput → ℕ → ℕ → Ending → Type 0
  EndsSo all out before after end =
      WritesOn (EditSteps labels first.style first.galley 1 Done all) (EditFront labels first.style first.galley all)
      out end
      × UnlessMemory (status_of end) (AreCounted first.style (shows_from (show_of first) first.style all) before after)

  -- memory ran out in a step
  forgotten : (now : SessionValue) (made rest : List ScriptStep) (legal : Bool) (old mid newest : Sent)
      (f0 f1 f2 before middle after : ℕ) (end : Ending) → AreMade labels first made now legal old mid before middle →
      IsForgotten (output_over mid newest f1 f2) end →
      EndsSo (made ++ rest) (output_over old newest f0 f2) before after end
  forgotten now made rest legal old mid newest f0 f1 f2 before middle after end m f =
      subst (EndsSo (made ++ rest) (output_over old newest f0 f2) before after) (sym f.ends) (
        record {
          settled = tt;
          write = tt;
          front = tt;
          memory = (
            shown_end legal,
            [],
            record {
              texts = m.texts;
              course = front_made now made rest legal old mid before middle m;
              written = subst (λ (w : Sent). Sends old w m.texts) (sym f.keeps) m.written;
            },
          );
          no_read = tt;
          no_usage = λ e. absurd (cc);
        },
        tt,
      )

  -- a change was refused
  refused : (now : SessionValue) (made rest : List ScriptStep) (edit : Edit) (number : ℕ) (legal : Bool)
      (old mid newest : Sent) (f0 f1 f2 before middle after : ℕ) (end : Ending) →
      AreMade labels first made now legal old mid before middle → number ≡ length made + 1 →
      IsRefused edit number now (output_over mid newest f1 f2) middle after end →
      EndsSo (made ++ Change edit ∷ rest) (output_over old newest f0 f2) before after end
  refused now made rest edit number legal old mid newest f0 f1 f2 before middle after end m is r =
      subst (EndsSo (made ++ Change edit ∷ rest) (output_over old newest f0 f2) before after) (sym r.ends) (
        record {
          settled = record {
            texts = m.texts;
            course =
                subst (λ (n : ℕ). EditSteps labels first.style first.galley 1 Done (made ++ Change edit ∷ rest) m.texts
                Refused (edit_line n r.fault)) (sym is)
                (refused_made now made rest edit r.fault legal old mid before middle m r.cause);
            written = subst (λ (w : Sent). Sends old w m.texts) (sym r.keeps) m.written;
          };
          write = tt;
          front = tt;
          memory = tt;
          no_read = tt;
          no_usage = λ e. absurd (cc);
        },
        subst (AreCounted first.style (shows_from (show_of first) first.style (made ++ Change edit ∷ rest)) before)
            (sym r.still) (made_counted now made (Change edit ∷ rest) legal old mid before middle m),
      )

  -- the output failed
  unwritten : (now new : SessionValue) (made rest : List ScriptStep) (legal : Bool) (old mid newest : Sent)
      (f0 f1 f2 before middle after : ℕ) (end : Ending) → AreMade labels first made now legal old mid before middle →
      f0 ≤ f1 → IsUnwritten labels now new (output_over mid newest f1 f2) middle after end →
      EndsSo (made ++ AShow ∷ rest) (output_over old newest f0 f2) before after end
  unfolding show_made untold
  unwritten now new made rest legal old mid newest f0 f1 f2 before middle after end m less u =
      let all : AreMade labels first (made ++ AShow ∷ []) new (legal && u.legal) (untold old) (untold newest) before after =
      show_made now new made legal u.legal (untold old) (untold mid) (untold newest) before middle after
      (record {
        style = m.style;
        texts = m.texts;
        goes_on = m.goes_on;
        written = record { bytes = tt; writes = m.written.writes };
        shown = m.shown;
        shows_on = m.shows_on;
        counted = m.counted;
      }) (record {
        text = u.text;
        is = u.is;
        sends = record { bytes = tt; writes = u.front.writes };
        shown = u.shown;
      }) in
      subst (EndsSo (made ++ AShow ∷ rest) (output_over old newest f0 f2) before after) (sym u.ends) (
        record {
          settled = tt;
          write = earlier_rose f0 f1 f2 less u.rose;
          front = record {
            texts = m.texts ++ u.text ∷ [];
            end = shown_end (legal && u.legal);
            line = [];
            course =
                subst (λ (xs : List ScriptStep). EditFront labels first.style first.galley xs (m.texts ++ u.text ∷ [])
                (shown_end (legal && u.legal)) []) (append_assoc made (AShow ∷ []) rest)
                (front_made new (made ++ AShow ∷ []) rest (legal && u.legal) (untold old) (untold newest) before after all);
            front = front_more old mid newest m.texts u.text m.written u.front;
          };
          memory = tt;
          no_read = tt;
          no_usage = λ e. absurd (cc);
        },
        subst (λ (xs : List ScriptStep). AreCounted first.style (shows_from (show_of first) first.style xs) before after)
            (append_assoc made (AShow ∷ []) rest)
            (made_counted new (made ++ AShow ∷ []) rest (legal && u.legal) (untold old) (untold newest) before after all),
      )

  not_made : (now new : SessionValue) (made rest : List ScriptStep) (step : ScriptStep) (number : ℕ) (legal : Bool)
      (old mid newest : Sent) (f0 f1 f2 before middle after : ℕ) (end : Ending) →
      AreMade labels first made now legal old mid before middle → f0 ≤ f1 → number ≡ length made + 1 →
      IsNoStep labels step number now new (output_over mid newest f1 f2) middle after end →
      EndsSo (made ++ step ∷ rest) (output_over old newest f0 f2) before after end
  not_made now new made rest (Change edit) number legal old mid newest f0 f1 f2 before middle after end m less is
      (inl f) =
      forgotten now made (Change edit ∷ rest) legal old mid newest f0 f1 f2 before middle after end m f
  not_made now new made rest (Change edit) number legal old mid newest f0 f1 f2 before middle after end m less is
      (inr r) =
      refused now made rest edit number legal old mid newest f0 f1 f2 before middle after end m is r
  not_made now new made rest AShow number legal old mid newest f0 f1 f2 before middle after end m less is (inl f) =
      forgotten now made (AShow ∷ rest) legal old mid newest f0 f1 f2 before middle after end m f
  not_made now new made rest AShow number legal old mid newest f0 f1 f2 before middle after end m less is (inr u) =
      unwritten now new made rest legal old mid newest f0 f1 f2 before middle after end m less u

  -- ---- by the number of steps of a script

  -- one step more was made
  pub step_made : (now new : SessionValue) (script : List ScriptStep) (i : ℕ) (step : ScriptStep) (legal shown : Bool)
      (old mid newest : Sent) (before middle after : ℕ) → i < length script → get_or script i step ≡ step →
      AreMade labels first (take i script) now legal old mid before middle →
      IsStep labels step now new shown mid newest middle after →
      AreMade labels first (take (i + 1) script) new (legal && shown) old newest before after
  step_made now new script i step legal shown old mid newest before middle after less at m s =
      let next : i + 1 ≡ suc i = omega arith in
      subst (λ (xs : List ScriptStep). AreMade labels first xs new (legal && shown) old newest before after)
      (sym (ap (λ (k : ℕ). take k script) next ∙ take-suc script i step less
      ∙ ap (λ (x : ScriptStep). take i script ++ x ∷ []) at))
      (one_made now new (take i script) step legal shown old mid newest before middle after m s)

  -- the next step was not made
  pub step_failed : (now new : SessionValue) (script : List ScriptStep) (i : ℕ) (step : ScriptStep) (number : ℕ)
      (legal : Bool) (old mid newest : Sent) (f0 f1 f2 before middle after : ℕ) (end : Ending) →
      i < length script → get_or script i step ≡ step → number ≡ i →
      AreMade labels first (take i script) now legal old mid before middle → f0 ≤ f1 →
      IsNoStep labels step (number + 1) now new (output_over mid newest f1 f2) middle after end →
      EndsSo script (output_over old newest f0 f2) before after end
  step_failed now new script i step number legal old mid newest f0 f1 f2 before middle after end less at is m later s =
      subst (λ (xs : List ScriptStep). EndsSo xs (output_over old newest f0 f2) before after end) whole
      (not_made now new (take i script) (drop (suc i) script) step (number + 1) legal old mid newest f0 f1 f2 before
      middle after end m later (ap (λ (n : ℕ). n + 1) (is ∙ sym (length-take-le i script (omega (arith, less))))) s)
    where
      whole : take i script ++ step ∷ drop (suc i) script ≡ script
      whole =
          sym (append_assoc (take i script) (step ∷ []) (drop (suc i) script))
          ∙ ap (λ (x : ScriptStep). take i script ++ x ∷ [] ++ drop (suc i) script) (sym at)
          ∙ ap (λ (xs : List ScriptStep). xs ++ drop (suc i) script) (sym (take-suc script i step less))
          ∙ take-append-drop (suc i) script

  counts_all : (now : SessionValue) (script : List ScriptStep) (legal : Bool) (old new : Sent)
      (before after : ℕ) → AreMade labels first script now legal old new before after →
      AreCounted first.style (shows_from (show_of first) first.style script) before after
  counts_all now script legal old new before after m =
      subst (λ (xs : List ScriptStep). AreCounted first.style (shows_from (show_of first) first.style xs) before after)
      (append-nil script) (made_counted now script [] legal old new before after m)

  -- all were made
  pub made_writes : (now : SessionValue) (script : List ScriptStep) (legal : Bool) (old new : Sent)
      (f0 f2 before after : ℕ) → AreMade labels first script now legal old new before after →
      EndsSo script (output_over old new f0 f2) before after (ending_of_made legal)
  made_writes now script true old new f0 f2 before after m = (
    record {
      settled = record { texts = m.texts; course = all_made now script true old new before after m; written = m.written };
      write = tt;
      front = tt;
      memory = tt;
      no_read = tt;
      no_usage = λ e. absurd (cc);
    },
    counts_all now script true old new before after m,
  )
  made_writes now script false old new f0 f2 before after m = (
    record {
      settled = record { texts = m.texts; course = all_made now script false old new before after m; written = m.written };
      write = tt;
      front = tt;
      memory = tt;
      no_read = tt;
      no_usage = λ e. absurd (cc);
    },
    counts_all now script false old new before after m,
  )
