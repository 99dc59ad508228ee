-- What the command `edit` promises, by what was found for its files.
use Rattle.std.proofs.Common.{◌≡◌, ◌≤◌, ◌^◌, inl, inr, ℕ, Bool, true, false, ap, List, [], refl}
use Rattle.std.specs.Prelude.{Option, Some, None, Result, Ok, Err, IfSome, MatchBool, MatchOption, nat_le}
use Rattle.pg_list.specs.GalleyValue.{GalleyValue}
use Rattle.pg_showbox.specs.Reading.{galley_of}
use Rattle.pg_style.specs.Values.{StyleValue}
use Rattle.pg_stylefile.specs.Style.{style_of_text}
use Rattle.pg_edits.specs.declared.script.ScriptStep.{ScriptStep}
use Rattle.pg_floats.specs.AreFloats.{MakesList, unknown_class, float_total}
use Rattle.pg_floats.specs.declared.fault.FloatFault.{FloatFault}
use Rattle.pg_outside.specs.Outside.{Held, OverOutput, Sent, output_over}
use Rattle.pg_command.specs.declared.ending.Ending.{Ending}
use Rattle.pg_command.specs.declared.status.Status.{Status}
use Rattle.pg_command.specs.declared.status.Status.TheVariants.{Done, NoLegal, Usage, Refused, ReadFault, WriteFault}
use Rattle.pg_command.specs.declared.status.Status.TheVariants.{Memory, NotProved}
use Rattle.pg_command.specs.Words.{Command, edit, named}
use Rattle.pg_command.specs.Lines.{class_line, ending_of, line_of, many_line, status_of}
use Rattle.pg_course.specs.Calls.{AreRead, Goes, GoesThrough, NoFile, OverShelf, Stopped, WritesOn, WritesTexts}
use Rattle.pg_course.specs.Calls.{WroteWhole, over_shelf}
use Rattle.pg_course.specs.Course.{BeginsBy, Course, CourseFront, EditCourse, EditFront, EditScript, EditSteps, EndsBy}
use Rattle.pg_course.specs.Course.{Ended, OnMemory, OnSettled, OnTaken, ScriptFront, Stop}
use Rattle.pg_course.specs.Course.{fetched, first_steps, opened, opened_script, opened_style, read_by, said_galley}
use Rattle.pg_course.specs.Course.{Stops, said_style, stop}
use Rattle.pg_course.proofs.Checks.{all_told, if_both, if_some, no_front, on_memory, read_line, settled_of}
use Rattle.pg_course.proofs.Runs.{appends_none, begins_as, ends_as, keeps_all, no_floats, on_read_fault}
use Rattle.pg_course.proofs.Runs.{on_settled, on_write_fault, when_said}
use Rattle.pg_lemmas.proofs.Numbers.{true_le}

pub when_memory : {P Q : Type 0} → (status : Status) → (P → Q) → OnMemory status P → OnMemory status Q
when_memory Memory f p = f p
when_memory ReadFault f p = tt
when_memory WriteFault f p = tt
when_memory Done f p = tt
when_memory NoLegal f p = tt
when_memory Usage f p = tt
when_memory Refused f p = tt
when_memory NotProved f p = tt

-- whole texts of one course are those of another that follows from it
texts_as : (C D : List (List ℕ) → Status → List ℕ → Type 0) (old new : Sent) →
    ((texts : List (List ℕ)) (status : Status) (line : List ℕ) → C texts status line → D texts status line) →
    WritesTexts C old new → WritesTexts D old new
texts_as C D old new f (end, line, e) = (end, line, ends_as C D old new end line f e)

-- ---- the file of a script

-- the script was read, and its steps were made
pub script_goes : (labels : Bool) (style : StyleValue) (galley : GalleyValue) (name : List ℕ)
    (told : Option Held) (script : List ScriptStep) (before after : ℕ) (last : Option (List ℕ)) (out : OverOutput)
    (end : Ending) → IfSome told (λ held. opened_script name (held name) ≡ Ok script) →
    WritesOn (EditSteps labels style galley 1 Done script) (EditFront labels style galley script) out end →
    GoesThrough (λ held. EditScript labels style galley (opened_script name (held name)))
    (λ held. ScriptFront labels style galley (opened_script name (held name))) name
    (over_shelf told before after last) out end
script_goes labels style galley name told script before after last out end said w = record {
  settled =
      on_settled (status_of end) (when_said (λ (r : Result (List ScriptStep) Stop).
      EndsBy (EditScript labels style galley r) out.old out.new (status_of end) (line_of end)) told
      (λ held. opened_script name (held name)) script said) w.settled;
  read = on_read_fault (status_of end) (λ none. absurd none) w.no_read;
  read_keeps = on_read_fault (status_of end) (λ none. absurd none) w.no_read;
  write = w.write;
  front =
      on_write_fault (status_of end) (when_said (λ (r : Result (List ScriptStep) Stop).
      BeginsBy (ScriptFront labels style galley r) out.old out.new) told
      (λ held. opened_script name (held name)) script said) w.front;
  memory =
      when_memory (status_of end) (when_said (λ (r : Result (List ScriptStep) Stop).
      WritesTexts (ScriptFront labels style galley r) out.old out.new) told
      (λ held. opened_script name (held name)) script said) w.memory;
  no_usage = w.no_usage;
}

-- a front of a script that is read, or of what ends the course instead
none_written : (labels : Bool) (style : StyleValue) (galley : GalleyValue) (said : Result (List ScriptStep) Stop) →
    (end : Status) × (line : List ℕ) × ScriptFront labels style galley said [] end line
none_written labels style galley (Err why) = (why.status, why.line, (refl, refl, refl))
none_written labels style galley (Ok steps) = (Done, [], (0, (refl, refl, refl)))

-- the script was not read
pub script_stops : (labels : Bool) (style : StyleValue) (galley : GalleyValue) (name : List ℕ) (shelf : OverShelf)
    (old : Sent) (faults : ℕ) (end : Ending) →
    Stopped (λ held. opened_script name (held name)) (NoFile name) shelf end →
    GoesThrough (λ held. EditScript labels style galley (opened_script name (held name)))
    (λ held. ScriptFront labels style galley (opened_script name (held name))) name shelf
    (output_over old old faults faults) end
script_stops labels style galley name shelf old faults end stopped = record {
  settled = on_settled (status_of end) (if_some shelf.told ends) stopped.settled;
  read = stopped.read;
  read_keeps = on_read_fault (status_of end) (λ it. keeps_all old) stopped.read;
  write = on_write_fault (status_of end) (λ none. absurd none) stopped.no_write;
  front = on_write_fault (status_of end) (λ none. absurd none) stopped.no_write;
  memory = on_memory (status_of end) (all_told shelf.told front);
  no_usage = stopped.no_usage;
}
  where
    C : Held → List (List ℕ) → Status → List ℕ → Type 0
    C held = EditScript labels style galley (opened_script name (held name))

    D : Held → List (List ℕ) → Status → List ℕ → Type 0
    D held = ScriptFront labels style galley (opened_script name (held name))

    ends : (held : Held) → opened_script name (held name) ≡ Err (stop (status_of end) (line_of end)) →
        EndsBy (C held) old old (status_of end) (line_of end)
    ends held is = record { texts = []; course = rw is (refl, refl, refl); written = appends_none old }

    front : (held : Held) → WritesTexts (D held) old old
    front held =
        let (how, line, course) = none_written labels style galley (opened_script name (held name)) in
        (how, line, record { texts = []; course = course; written = appends_none old })

-- ---- the command

-- of a front of a script a front of the course
script_front : (labels : Bool) (style : StyleValue) (galley : GalleyValue) (said : Result (List ScriptStep) Stop)
    (texts : List (List ℕ)) (end : Status) (line : List ℕ) → ScriptFront labels style galley said texts end line →
    (count : ℕ) × EditScript labels style galley (first_steps count said) texts end line
script_front labels style galley (Err why) texts end line front = (0, front)
script_front labels style galley (Ok steps) texts end line front = front

-- of no step a course without a text
none_taken : (known : Option ℕ) (few : Bool) (many : Stop) (of_class : ℕ → Stop)
    (Goes : Status → List ℕ → Type 0) → (end : Status) × (line : List ℕ) × Goes end line →
    (end : Status) × (line : List ℕ) × MatchOption known
    (MatchBool few (Goes end line) (Stops [] end line many))
    (λ class. Stops [] end line (of_class class))
none_taken (Some class) few many of_class Goes it =
    ((of_class class).status, (of_class class).line, (refl, refl, refl))
none_taken None false many of_class Goes it = (many.status, many.line, (refl, refl, refl))
none_taken None true many of_class Goes it = it

none_made : (labels : Bool) (style : Result StyleValue Stop) (galley : Result GalleyValue Stop)
    (script : Result (List ScriptStep) Stop) →
    (end : Status) × (line : List ℕ) × EditCourse labels style galley (first_steps 0 script) [] end line
none_made labels (Err why) galley script = (why.status, why.line, (refl, refl, refl))
none_made labels (Ok style) (Err why) script = (why.status, why.line, (refl, refl, refl))
none_made labels (Ok style) (Ok galley) script =
    none_taken (unknown_class galley.blocks style) (nat_le (float_total galley.blocks style) (2 ^ 12))
    (stop Refused (many_line (float_total galley.blocks style))) (λ class. stop Refused (class_line class))
    (λ end line. EditScript labels style galley (first_steps 0 script) [] end line) (by script)
  where
    by : (said : Result (List ScriptStep) Stop) →
        (end : Status) × (line : List ℕ) × EditScript labels style galley (first_steps 0 said) [] end line
    by (Err why) = (why.status, why.line, (refl, refl, refl))
    by (Ok steps) = (Done, [], (refl, refl, refl))

module _ (style galley script : List ℕ) (labels : Bool) (wrap : Option ℕ) where
  -- the command
  abbrev pub This : Option Command
  This = Some (edit style galley script labels wrap)

  -- nothing was written, and that is a front of its course
  nothing_wrote : (told : Option Held) (old : Sent) (before after : ℕ) →
      WroteWhole This told (output_over old old before after)
  nothing_wrote told old before after = all_told told (λ held.
      let (end, line, course) = none_made labels (opened_style (named style) held) (opened galley wrap (held galley))
      (opened_script script (held script)) in
      (end, line, record { texts = []; course = (0, course); written = appends_none old }))

  -- what was done of the script is done by the command, where it leads to the command's course
  goes_through : (C D : Held → List (List ℕ) → Status → List ℕ → Type 0) (shelf : OverShelf) (out : OverOutput)
      (end : Ending) →
      IfSome shelf.told (λ held. (texts : List (List ℕ)) (status : Status) (line : List ℕ) →
      C held texts status line → Course This held texts status line) →
      IfSome shelf.told (λ held. (texts : List (List ℕ)) (status : Status) (line : List ℕ) →
      D held texts status line → CourseFront This held texts status line) →
      IfSome shelf.told (λ held. fetched script (held script) ≡ Err (stop ReadFault (line_of end)) →
      Course This held [] ReadFault (line_of end)) →
      GoesThrough C D script shelf out end → Goes This shelf out end
  goes_through C D shelf out end leads fronts ends goes = record {
    settled =
        on_settled (status_of end) (if_both shelf.told (λ held f e.
        ends_as (C held) (Course This held) out.old out.new (status_of end) (line_of end) f e) leads) goes.settled;
    read =
        on_read_fault (status_of end) (read_line This script shelf (line_of end) (inr (inr refl)) ends) goes.read;
    read_keeps = goes.read_keeps;
    write = goes.write;
    front =
        on_write_fault (status_of end) (if_both shelf.told (λ held f b.
        begins_as (D held) (CourseFront This held) out.old out.new f b) fronts) goes.front;
    memory =
        when_memory (status_of end) (if_both shelf.told (λ held f w.
        texts_as (D held) (CourseFront This held) out.old out.new f w) fronts) goes.memory;
    usage = (λ e. absurd (goes.no_usage e), λ e. absurd (cc));
    usage_keeps = λ e. absurd (cc);
  }

  -- a galley that the style takes, and what was done of the script
  pub taken_goes : (s : StyleValue) (g : GalleyValue) (shelf : OverShelf) (out : OverOutput) (end : Ending) →
      unknown_class g.blocks s ≡ None → float_total g.blocks s ≤ 2 ^ 12 →
      IfSome shelf.told (AreRead style galley wrap s g) →
      GoesThrough (λ held. EditScript labels s g (opened_script script (held script)))
      (λ held. ScriptFront labels s g (opened_script script (held script))) script shelf out end →
      Goes This shelf out end
  taken_goes s g shelf out end known few read goes =
      let test : nat_le (float_total g.blocks s) (2 ^ 12) ≡ true = true_le (float_total g.blocks s) (2 ^ 12) few in
      goes_through (λ held. EditScript labels s g (opened_script script (held script)))
      (λ held. ScriptFront labels s g (opened_script script (held script))) shelf out end
      (if_some shelf.told (λ held (of_style, of_galley) texts status line course.
      rw (of_style, of_galley, known, test) course) read)
      (if_some shelf.told (λ held (of_style, of_galley) texts status line front.
      let (count, course) = script_front labels s g (opened_script script (held script)) texts status line front in
      (count, rw (of_style, of_galley, known, test) course)) read)
      (if_some shelf.told (λ held (of_style, of_galley) none.
      rw (of_style, of_galley, known, test, none) (refl, refl, refl)) read) goes

  refused_settled : (s : StyleValue) (g : GalleyValue) (told : Option Held) (old : Sent) (faults : ℕ)
      (fault : FloatFault) → MakesList (Err fault) g.blocks s → IfSome told (AreRead style galley wrap s g) →
      OnSettled (status_of (ending_of fault)) (IfSome told (λ held.
      Ended This held old old (status_of (ending_of fault)) (line_of (ending_of fault))))
  refused_settled s g None old faults fault none read = settled_of (status_of (ending_of fault)) tt
  refused_settled s g (Some held) old faults fault none (of_style, of_galley) =
      let C = λ (texts : List (List ℕ)) (status : Status) (line : List ℕ).
      OnTaken s g texts status line (EditScript labels s g (opened_script script (held script)) texts status line) in
      on_settled (status_of (ending_of fault)) (ends_as C (Course This held) old old (status_of (ending_of fault))
      (line_of (ending_of fault)) (λ texts status line course. rw (of_style, of_galley) course))
      (no_floats (EditScript labels s g (opened_script script (held script))) s g old faults fault none).settled

  -- a galley that the style does not take, before the script is read
  pub refused_goes : (s : StyleValue) (g : GalleyValue) (told : Option Held) (before : ℕ) (last : Option (List ℕ))
      (old : Sent) (faults : ℕ) (fault : FloatFault) → MakesList (Err fault) g.blocks s →
      IfSome told (AreRead style galley wrap s g) →
      Goes This (over_shelf told before before last) (output_over old old faults faults) (ending_of fault)
  refused_goes s g told before last old faults fault none read =
      let end = ending_of fault in
      let writes = λ (held : Held). no_floats (EditScript labels s g (opened_script script (held script))) s g old faults
      fault none in
      record {
        settled = refused_settled s g told old faults fault none read;
        read = on_read_fault (status_of end) (λ none. absurd none) (writes (λ name. None)).no_read;
        read_keeps = on_read_fault (status_of end) (λ none. absurd none) (writes (λ name. None)).no_read;
        write = (writes (λ name. None)).write;
        front = no_front _ fault;
        memory = on_memory (status_of end) (nothing_wrote told old faults faults);
        usage = (λ e. absurd ((writes (λ name. None)).no_usage e), λ e. absurd (cc));
        usage_keeps = λ e. absurd (cc);
      }

  -- a course that ends at the galley
  galley_course : (s : StyleValue) (held : Held) (said : Stop) → opened_style (named style) held ≡ Ok s →
      opened galley wrap (held galley) ≡ Err said → Course This held [] said.status said.line
  galley_course s held said of_style ends = rw (of_style, ends) (refl, refl, refl)

  galley_ends : (s : StyleValue) (old : Sent) (end : Ending) (held : Held) →
      opened_style (named style) held ≡ Ok s →
      opened galley wrap (held galley) ≡ Err (stop (status_of end) (line_of end)) →
      EndsBy (Course This held) old old (status_of end) (line_of end)
  galley_ends s old end held of_style ends = record {
    texts = [];
    course = galley_course s held (stop (status_of end) (line_of end)) of_style ends;
    written = appends_none old;
  }

  galley_reads : (s : StyleValue) (line : List ℕ) (held : Held) → opened_style (named style) held ≡ Ok s →
      fetched galley (held galley) ≡ Err (stop ReadFault line) → Course This held [] ReadFault line
  galley_reads s line held of_style none =
      galley_course s held (stop ReadFault line) of_style
      (ap (read_by (λ bytes. said_galley galley (galley_of bytes wrap))) none)

  -- a galley that is not read
  pub stopped_goes : (s : StyleValue) (shelf : OverShelf) (old : Sent) (faults : ℕ) (end : Ending) →
      IfSome shelf.told (λ held. opened_style (named style) held ≡ Ok s) →
      Stopped (λ held. opened galley wrap (held galley)) (NoFile galley) shelf end →
      Goes This shelf (output_over old old faults faults) end
  stopped_goes s shelf old faults end read stopped = record {
    settled =
        on_settled (status_of end) (if_both shelf.told (galley_ends s old end) read) stopped.settled;
    read =
        on_read_fault (status_of end) (read_line This galley shelf (line_of end) (inr (inl refl))
        (if_some shelf.told (galley_reads s (line_of end)) read)) stopped.read;
    read_keeps = on_read_fault (status_of end) (λ it. keeps_all old) stopped.read;
    write = on_write_fault (status_of end) (λ none. absurd none) stopped.no_write;
    front = on_write_fault (status_of end) (λ none. absurd none) stopped.no_write;
    memory = on_memory (status_of end) (nothing_wrote shelf.told old faults faults);
    usage = (λ e. absurd (stopped.no_usage e), λ e. absurd (cc));
    usage_keeps = λ e. absurd (cc);
  }

  style_course : (held : Held) (said : Stop) → opened_style (named style) held ≡ Err said →
      Course This held [] said.status said.line
  style_course held said ends = rw ends (refl, refl, refl)

  -- a style that is not read
  pub unstyled_goes : (shelf : OverShelf) (old : Sent) (faults : ℕ) (end : Ending) →
      Stopped (opened_style (named style)) (NoFile style) shelf end →
      Goes This shelf (output_over old old faults faults) end
  unstyled_goes shelf old faults end stopped = record {
    settled =
        on_settled (status_of end) (if_some shelf.told (λ held ends. record {
          texts = [];
          course = style_course held (stop (status_of end) (line_of end)) ends;
          written = appends_none old;
        })) stopped.settled;
    read =
        on_read_fault (status_of end) (read_line This style shelf (line_of end) (inl refl)
        (all_told shelf.told (λ held none. style_course held (stop ReadFault (line_of end))
        (ap (read_by (λ bytes. said_style style (style_of_text bytes))) none)))) stopped.read;
    read_keeps = on_read_fault (status_of end) (λ it. keeps_all old) stopped.read;
    write = on_write_fault (status_of end) (λ none. absurd none) stopped.no_write;
    front = on_write_fault (status_of end) (λ none. absurd none) stopped.no_write;
    memory = on_memory (status_of end) (nothing_wrote shelf.told old faults faults);
    usage = (λ e. absurd (stopped.no_usage e), λ e. absurd (cc));
    usage_keeps = λ e. absurd (cc);
  }
