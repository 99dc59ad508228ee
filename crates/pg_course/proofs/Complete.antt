-- A check of what a run with labels writes ends well.
use Rattle.std.proofs.Common.{◌≡◌, ◌∙◌, ◌⊎◌, ◌≤◌, ◌<◌, ◌^◌, inl, inr, ℕ, Bool, ap, sym, subst, List, [], ◌∷◌, length, true, false, refl, arith}
use Rattle.std.specs.Prelude.{Option, Some, None, Result, Ok, Err, IfSome, IsSomeAnd, MatchBool, MatchOption, nat_le, nat_lt}
use Rattle.std.proofs.lemmas.Bool.Decides.{nat_tests}
use Rattle.pg_list.specs.GalleyValue.{GalleyValue}
use Rattle.pg_showbox.specs.Reading.{galley_of}
use Rattle.pg_style.specs.Values.{StyleValue}
use Rattle.pg_stylefile.specs.Style.{style_of_text}
use Rattle.pg_floats.specs.AreFloats.{unknown_class, float_total}
use Rattle.pg_labels.specs.declared.output.Output.{Output}
use Rattle.pg_labels.specs.Reading.{output_of}
use Rattle.law_check.specs.CheckLaws.{ShowsSolution}
use Rattle.law_check.specs.declared.answers.No.{No}
use Rattle.law_check.specs.declared.answers.Proved.{Proved}
use Rattle.law_read_back.specs.RecheckLaws.{BestTextTells, NoneTextTells, TellsSolution, TellsWithLabels}
use Rattle.pg_outside.specs.Outside.{Held, OverOutput, Rose}
use Rattle.pg_command.specs.declared.ending.Ending.{Ending}
use Rattle.pg_command.specs.declared.status.Status.{Status}
use Rattle.pg_command.specs.declared.status.Status.TheVariants.{Done, NoLegal, Usage, Refused, ReadFault, WriteFault}
use Rattle.pg_command.specs.declared.status.Status.TheVariants.{Memory, NotProved}
use Rattle.pg_command.specs.Words.{Command, check, named}
use Rattle.pg_command.specs.Lines.{line_of, status_of}
use Rattle.pg_course.specs.Calls.{AreRead, Goes, NoFile, OverShelf, Stopped, over_shelf}
use Rattle.pg_course.specs.Complete.{HoldsRun, IsComplete, IsDoneOrMemory}
use Rattle.pg_course.specs.Course.{CheckCourse, CheckGalley, CheckText, Course, Ended, FailedAt, FailedFile, OnReadFault, OnSettled, OnWriteFault}
use Rattle.pg_course.specs.Course.{ReadLine, RunCourse, RunGalley, Stop, Stops, StyledCourse, TellAnswer, fetched}
use Rattle.pg_course.specs.Course.{opened, opened_output, opened_style, read_by, said_galley, said_output, said_style, stop}
use Rattle.pg_course.specs.Out.{Out, RunOut}
use Rattle.pg_course.specs.declared.product.Product.TheVariants.{Pages}
use Rattle.pg_course.specs.Verdict.{Answers}
use Rattle.pg_course.proofs.Checks.{all_told, earlier_rose, if_some}
use Rattle.pg_course.proofs.Runs.{on_read_fault}
use Rattle.pg_lemmas.proofs.Numbers.{le_true}

-- ---- the text that a run with labels writes tells the solution

pages_tell : (g : GalleyValue) (s : StyleValue) → BestTextTells g s → NoneTextTells g s → (pages : List ℕ)
    (end : Status) → Out g s pages end → TellsWithLabels g s pages
pages_tell g s best none pages Done out = subst (TellsWithLabels g s) (sym out.written) (best out.plan out.best)
pages_tell g s best none pages NoLegal out = subst (TellsWithLabels g s) (sym out.written) (none out.none)
pages_tell g s best none pages Usage out = absurd out
pages_tell g s best none pages Refused out = absurd out
pages_tell g s best none pages ReadFault out = absurd out
pages_tell g s best none pages WriteFault out = absurd out
pages_tell g s best none pages Memory out = absurd out
pages_tell g s best none pages NotProved out = absurd out

run_tells : (g : GalleyValue) (s : StyleValue) → BestTextTells g s → NoneTextTells g s → (text : List ℕ)
    (end : Status) → float_total g.blocks s ≤ 2 ^ 12 → length text ≤ 2 ^ 26 → RunOut true g s text end →
    TellsSolution g s text
run_tells g s best none text end few short it =
    let small : length text < 2 ^ 64 = omega (arith, short) in
    subst (TellsSolution g s) (sym it.written) (pages_tell g s best none it.pages end it.out it.labels few it.frontier
    (subst (λ (t : List ℕ). length t < 2 ^ 64) it.written small))

-- ---- and its check answers with a yes

-- a file of few bytes is read as its text is
opened_is : (name text : List ℕ) (output : Output) → length text ≤ 2 ^ 26 → output_of text ≡ Ok output →
    opened_output name (Some text) ≡ Ok output
opened_is name text output few e =
    let test : nat_lt (2 ^ 26) (length text) ≡ false = grind (arith, nat_tests) in
    rw test (ap (said_output name) e)

answered : (galley : GalleyValue) (style : StyleValue) (output : Output) (answer : Result Proved No)
    (texts : List (List ℕ)) (end : Status) (line : List ℕ) → ShowsSolution galley style output →
    Answers galley style output answer → TellAnswer answer texts end line → end ≡ Done
answered galley style output (Ok proved) texts end line shows says (one, ends, quiet) = ends
answered galley style output (Err fault) texts end line shows denies told = absurd (denies.unsolved shows)

text_answered : (g : GalleyValue) (s : StyleValue) (name text : List ℕ) (file : Option (List ℕ))
    (texts : List (List ℕ)) (end : Status) (line : List ℕ) → TellsSolution g s text → length text ≤ 2 ^ 26 →
    file ≡ Some text → CheckText s g (opened_output name file) texts end line → end ≡ Done
text_answered g s name text file texts end line tells short is course =
    let said : opened_output name file ≡ Ok tells.output =
    ap (opened_output name) is ∙ opened_is name text tells.output short tells.read in
    let (answer, answers, told) = subst (λ (r : Result Output Stop). CheckText s g r texts end line) said course in
    answered g s tells.output answer texts end line tells.shows answers told

-- ---- a galley of which a run wrote a text is taken

no_text : (text : List ℕ) (end : Status) (line : List ℕ) (said : Stop) → Stops (text ∷ []) end line said → ⊥
no_text text end line said (none, ends, says) = absurd (cc)

both_taken : (P Q R : Type 0) (class : Option ℕ) (few : Bool) (S : ℕ → Type 0) (text : List ℕ) (end : Status)
    (line : List ℕ) (many : Stop) (unknown : ℕ → Stop) →
    MatchOption class (MatchBool few P (Stops (text ∷ []) end line many))
    (λ number. Stops (text ∷ []) end line (unknown number)) →
    MatchOption class (MatchBool few Q R) S → (few ≡ true) × P × Q
both_taken P Q R None true S text end line many unknown run checked = (refl, run, checked)
both_taken P Q R None false S text end line many unknown run checked = absurd (no_text text end line many run)
both_taken P Q R (Some number) few S text end line many unknown run checked =
    absurd (no_text text end line (unknown number) run)

-- a run of a galley that is not read writes no text
no_galley : (style : Result StyleValue Stop) (text : List ℕ) (end : Status) (line : List ℕ) (said : Stop) →
    StyledCourse (Pages true) style (Err said) (text ∷ []) end line → ⊥
no_galley (Ok s) text end line said run = no_text text end line said run
no_galley (Err other) text end line said run = no_text text end line other run

failed_rose : (command : Option Command) (before after : ℕ) (last : Option (List ℕ)) (line : List ℕ) →
    FailedAt command before after last line → Rose before after
failed_rose command before after None line failed = absurd failed
failed_rose command before after (Some name) line (rose, is, says) = rose

file_rose : (name : List ℕ) (before after : ℕ) (last : Option (List ℕ)) (line : List ℕ) →
    FailedFile name before after last line → Rose before after
file_rose name before after None line failed = absurd failed
file_rose name before after (Some other) line (rose, same, says) = rose

-- ---- where neither count rose

-- what is told leads to this, where it ended by itself or a file was not read
by_status : (E F P : Held → Type 0) (R W : Type 0) (told : Option Held) (status : Status) →
    (status ≡ Memory → (held : Held) → P held) → IfSome told (λ held. E held → P held) →
    IfSome told (λ held. F held → P held) → OnSettled status (IfSome told E) →
    OnReadFault status (R ⊎ IsSomeAnd told F) → OnWriteFault status W → (R → ⊥) → (W → ⊥) → IfSome told P
by_status E F P R W None status ran ends unread settled read wrote no_read no_write = tt
by_status E F P R W (Some held) Done ran ends unread settled read wrote no_read no_write = ends settled
by_status E F P R W (Some held) NoLegal ran ends unread settled read wrote no_read no_write = ends settled
by_status E F P R W (Some held) Usage ran ends unread settled read wrote no_read no_write = ends settled
by_status E F P R W (Some held) Refused ran ends unread settled read wrote no_read no_write = ends settled
by_status E F P R W (Some held) NotProved ran ends unread settled read wrote no_read no_write = ends settled
by_status E F P R W (Some held) Memory ran ends unread settled read wrote no_read no_write = ran refl held
by_status E F P R W (Some held) WriteFault ran ends unread settled read wrote no_read no_write = absurd (no_write wrote)
by_status E F P R W (Some held) ReadFault ran ends unread settled (inl rose) wrote no_read no_write = absurd (no_read rose)
by_status E F P R W (Some held) ReadFault ran ends unread settled (inr none) wrote no_read no_write = unread none

line_told : (command : Option Command) (shelf : OverShelf) (line : List ℕ) →
    ReadLine command shelf.told shelf.before shelf.after shelf.last line →
    Rose shelf.before shelf.after ⊎ IsSomeAnd shelf.told (λ held. Course command held [] ReadFault line)
line_told command shelf line (inl failed) = inl (failed_rose command shelf.before shelf.after shelf.last line failed)
line_told command shelf line (inr ends) = inr ends

file_told : (name : List ℕ) (shelf : OverShelf) (line : List ℕ) → NoFile name shelf line →
    Rose shelf.before shelf.after
    ⊎ IsSomeAnd shelf.told (λ held. fetched name (held name) ≡ Err (stop ReadFault line))
file_told name shelf line (inl failed) = inl (file_rose name shelf.before shelf.after shelf.last line failed)
file_told name shelf line (inr none) = inr none

done_is : (status : Status) → status ≡ Done → IsDoneOrMemory status
done_is status e = subst IsDoneOrMemory (sym e) tt

memory_is : (status : Status) → status ≡ Memory → IsDoneOrMemory status
memory_is status e = subst IsDoneOrMemory (sym e) tt

module _ (style galley output : List ℕ) (wrap : Option ℕ) where
  abbrev This : Option Command
  This = Some (check style galley output wrap)

  abbrev Holds : Held → Type 0
  Holds held = HoldsRun style galley output wrap held

  -- ---- the style and the galley were read

  module _ (s : StyleValue) (g : GalleyValue) (best : BestTextTells g s) (none : NoneTextTells g s) where
    ends_done : (held : Held) (texts : List (List ℕ)) (status : Status) (line : List ℕ) →
        AreRead style galley wrap s g held → Course This held texts status line → Holds held → status ≡ Done
    ends_done held texts status line (of_style, of_galley) course it =
        let ran : RunGalley (Pages true) s g (it.text ∷ []) it.end it.line =
        subst (λ (r : Result GalleyValue Stop). RunCourse (Pages true) s r (it.text ∷ []) it.end it.line) of_galley
        (subst (λ (r : Result StyleValue Stop).
        StyledCourse (Pages true) r (opened galley wrap (held galley)) (it.text ∷ []) it.end it.line) of_style
        it.written) in
        let checked : CheckGalley s (Ok g) (opened_output output (held output)) texts status line =
        subst (λ (r : Result GalleyValue Stop).
        CheckGalley s r (opened_output output (held output)) texts status line) of_galley
        (subst (λ (r : Result StyleValue Stop). CheckCourse r (opened galley wrap (held galley))
        (opened_output output (held output)) texts status line) of_style course) in
        let (few, (text, out, one, quiet), tested) = both_taken _ _ _ (unknown_class g.blocks s)
        (nat_le (float_total g.blocks s) (2 ^ 12)) _ it.text it.end it.line _ _ ran checked in
        let same : text ≡ it.text = cc in
        let tells = run_tells g s best none it.text it.end (le_true (float_total g.blocks s) (2 ^ 12) few) it.short
        (subst (λ (t : List ℕ). RunOut true g s t it.end) same out) in
        text_answered g s output it.text (held output) texts status line tells it.short it.is_held tested

    -- what was done of a galley that was read
    pub goes_complete : (shelf : OverShelf) (out : OverOutput) (end : Ending) →
        IfSome shelf.told (AreRead style galley wrap s g) → Goes This shelf out end →
        IsComplete This shelf out (status_of end)
    goes_complete shelf out end are goes no_read no_write =
        let status = status_of end in
        let line = line_of end in
        by_status (λ (held : Held). Ended This held out.old out.new status line)
        (λ (held : Held). Course This held [] ReadFault line)
        (λ (held : Held). Holds held → IsDoneOrMemory status)
        (Rose shelf.before shelf.after) (Rose out.before out.after) shelf.told status
        (λ ran held it. memory_is status ran)
        (if_some shelf.told (λ held read ended it. done_is status
        (ends_done held ended.texts status line read ended.course it)) are)
        (if_some shelf.told (λ held read course it. let e = ends_done held [] ReadFault line read course it in
        absurd (cc)) are)
        goes.settled (on_read_fault status (line_told This shelf line) goes.read) goes.write no_read no_write

  -- ---- the style or the galley was not read

  pub stopped_complete : {A : Type 0} (said : Held → Result A Stop) (name : List ℕ) (shelf : OverShelf)
      (out : OverOutput) (end : Ending) → ((held : Held) (why : Stop) → said held ≡ Err why → Holds held → ⊥) →
      ((held : Held) (why : Stop) → fetched name (held name) ≡ Err why → said held ≡ Err why) →
      Stopped said (NoFile name) shelf end → IsComplete This shelf out (status_of end)
  stopped_complete said name shelf out end refutes not_said stopped no_read no_write =
      let status = status_of end in
      let line = line_of end in
      by_status (λ (held : Held). said held ≡ Err (stop status line))
      (λ (held : Held). fetched name (held name) ≡ Err (stop ReadFault line))
      (λ (held : Held). Holds held → IsDoneOrMemory status)
      (Rose shelf.before shelf.after) ⊥ shelf.told status
      (λ ran held it. memory_is status ran)
      (all_told shelf.told (λ held ends it. absurd (refutes held (stop status line) ends it)))
      (all_told shelf.told (λ held none it. absurd (refutes held (stop ReadFault line)
      (not_said held (stop ReadFault line) none) it)))
      stopped.settled (on_read_fault status (file_told name shelf line) stopped.read) stopped.no_write no_read
      (λ none. none)

  pub no_style_complete : (shelf : OverShelf) (out : OverOutput) (end : Ending) →
      Stopped (opened_style (named style)) (NoFile style) shelf end → IsComplete This shelf out (status_of end)
  no_style_complete shelf out end stopped =
      stopped_complete (opened_style (named style)) style shelf out end
      (λ held why is it. no_text it.text it.end it.line why
      (subst (λ (r : Result StyleValue Stop).
      StyledCourse (Pages true) r (opened galley wrap (held galley)) (it.text ∷ []) it.end it.line) is it.written))
      (λ held why none. ap (read_by (λ bytes. said_style style (style_of_text bytes))) none) stopped

  pub no_galley_complete : (shelf : OverShelf) (out : OverOutput) (end : Ending) →
      Stopped (λ held. opened galley wrap (held galley)) (NoFile galley) shelf end →
      IsComplete This shelf out (status_of end)
  no_galley_complete shelf out end stopped =
      stopped_complete (λ held. opened galley wrap (held galley)) galley shelf out end
      (λ held why is it. no_galley (opened_style (named style) held) it.text it.end it.line why
      (subst (λ (r : Result GalleyValue Stop).
      StyledCourse (Pages true) (opened_style (named style) held) r (it.text ∷ []) it.end it.line) is it.written))
      (λ held why none. ap (read_by (λ bytes. said_galley galley (galley_of bytes wrap))) none) stopped

  -- ---- the same from an earlier moment of the shelf on

  pub complete_earlier : (told mid : Option Held) (before between after : ℕ) (last : Option (List ℕ)) (out : OverOutput)
      (status : Status) → mid ≡ told → before ≤ between →
      IsComplete This (over_shelf mid between after last) out status →
      IsComplete This (over_shelf told before after last) out status
  complete_earlier told mid before between after last out status same less complete no_read no_write =
      subst (λ (t : Option Held). IfSome t (λ held. Holds held → IsDoneOrMemory status)) same
      (complete (λ rose. no_read (earlier_rose before between after less rose)) no_write)
