-- What the command `check` promises, by what was found for its files.
use Rattle.std.proofs.Common.{◌≡◌, ◌≤◌, ◌^◌, inl, inr, ℕ, ap, sym, subst, List, [], refl, true, arith}
use Rattle.std.specs.Prelude.{Option, Some, None, Ok, Err, IfSome, IsSomeAnd, nat_le}
use Rattle.pg_list.specs.GalleyValue.{GalleyValue}
use Rattle.pg_showbox.specs.Reading.{galley_of}
use Rattle.pg_style.specs.Values.{StyleValue}
use Rattle.pg_floats.specs.AreFloats.{MakesList, unknown_class, float_total}
use Rattle.pg_floats.specs.declared.fault.FloatFault.{FloatFault}
use Rattle.pg_floats.specs.declared.fault.FloatFault.TheVariants as float_fault
use Rattle.pg_labels.specs.declared.output.Output.{Output}
use Rattle.law_check.specs.Faults.{Checked, IsFirstFault, IsProved, IsYesOrMemory}
use Rattle.law_check.specs.CheckLaws.{ShowsSolution, ShowsTruth}
use Rattle.law_check.specs.declared.answers.No.{No}
use Rattle.law_check.specs.declared.answers.No.TheVariants as fails
use Rattle.law_check.specs.declared.answers.Proved.{Proved}
use Rattle.pg_outside.specs.Outside.{Held, OverOutput, Rose, Sent, output_over}
use Rattle.pg_command.specs.declared.ending.Ending.{Ending}
use Rattle.pg_command.specs.declared.ending.Ending.TheVariants as ending
use Rattle.pg_command.specs.declared.status.Status.{Status}
use Rattle.pg_command.specs.declared.status.Status.TheVariants.{Done, NoLegal, Usage, Refused, ReadFault, WriteFault}
use Rattle.pg_command.specs.declared.status.Status.TheVariants.{Memory, NotProved}
use Rattle.pg_command.specs.Words.{Command, check, named}
use Rattle.pg_command.specs.Lines.{ending_of, line_of, status_of}
use Rattle.pg_course.specs.Calls.{AreRead, Goes, GoesOn, NoFile, OverShelf, Stopped, Writes}
use Rattle.pg_course.specs.Calls.{no_ending, over_shelf}
use Rattle.pg_course.specs.Course.{CheckOutput, CheckText, Course, Ended, OneText}
use Rattle.pg_course.specs.Course.{FailedAt, FailedFile, IsFileOf, OnMemory, OnSettled, OnTaken}
use Rattle.pg_course.specs.Course.{EndsBy, OnWriteFault}
use Rattle.pg_course.specs.Course.{ReadLine, Stop, read_by, said_galley}
use Rattle.pg_course.specs.Course.{fetched, opened, opened_output, opened_style, stop}
use Rattle.pg_course.specs.Verdict.{yes_line}
use Rattle.pg_course.proofs.Runs.{appends_none, begins_as, ends_as, keeps_all, no_floats, on_read_fault}
use Rattle.pg_course.proofs.Runs.{on_settled, on_write_fault, writes_as}
use Rattle.pg_lemmas.proofs.Numbers.{true_le}

-- ---- the answer of a check

-- a no ends the course without a text
told_no : (style : StyleValue) (galley : GalleyValue) (output : Output) (old : Sent) (before : ℕ)
    (fault : No) → IsFirstFault galley style output fault → (ShowsSolution galley style output → ⊥) →
    Writes (CheckOutput style galley output) (output_over old old before before) (ending.NotProved fault)
told_no style galley output old before fault first unsolved = record {
  settled =
      record {
        texts = [];
        course = (Err fault, record { first = first; unsolved = unsolved }, (refl, refl, refl));
        written = appends_none old;
      };
  write = tt;
  front = tt;
  memory = tt;
  no_read = tt;
  no_usage = λ e. absurd (cc);
}

-- a no that is not want of memory names the first test that fails
pub not_proved : (style : StyleValue) (galley : GalleyValue) (output : Output) (old : Sent) (before : ℕ)
    (fault : No) → Checked galley style output (Err fault) →
    (ShowsSolution galley style output → IsYesOrMemory (Err fault)) →
    Writes (CheckOutput style galley output) (output_over old old before before) (no_ending fault)
not_proved style galley output old before (fails.Broken rule column) h s =
    told_no style galley output old before (fails.Broken rule column) h s
not_proved style galley output old before (fails.CostDiffers printed judged) h s =
    told_no style galley output old before (fails.CostDiffers printed judged) h s
not_proved style galley output old before (fails.PagesDiffer line) h s =
    told_no style galley output old before (fails.PagesDiffer line) h s
not_proved style galley output old before (fails.BadLabel label) h s =
    told_no style galley output old before (fails.BadLabel label) h s
not_proved style galley output old before fails.NoStart h s =
    told_no style galley output old before fails.NoStart h s
not_proved style galley output old before (fails.NotClosed label to) h s =
    told_no style galley output old before (fails.NotClosed label to) h s
not_proved style galley output old before (fails.Undercut label cost) h s =
    told_no style galley output old before (fails.Undercut label cost) h s
not_proved style galley output old before (fails.FinalInNone label) h s =
    told_no style galley output old before (fails.FinalInNone label) h s
not_proved style galley output old before fails.Memory h s = record {
  settled = tt;
  write = tt;
  front = tt;
  memory = keeps_all old;
  no_read = tt;
  no_usage = λ e. absurd (cc);
}

-- a yes is written
pub proved_writes : (style : StyleValue) (galley : GalleyValue) (output : Output) (proved : Proved) (out : OverOutput)
    (end : Ending) → IsProved galley style output proved → ShowsTruth galley style output proved.cost →
    Writes (OneText (yes_line proved) Done) out end → Writes (CheckOutput style galley output) out end
proved_writes style galley output proved out end passes truth writes =
    writes_as (OneText (yes_line proved) Done) (CheckOutput style galley output) out end
    (λ texts status line told. (Ok proved, record { passes = passes; truth = truth }, told)) writes

-- a fault that is not want of memory
pub other_fault : (fault : No) → (fault ≡ fails.Memory → ⊥) → ending.NotProved fault ≡ no_ending fault
other_fault (fails.Broken rule column) other = refl
other_fault (fails.CostDiffers printed judged) other = refl
other_fault (fails.PagesDiffer line) other = refl
other_fault (fails.BadLabel label) other = refl
other_fault fails.NoStart other = refl
other_fault (fails.NotClosed label to) other = refl
other_fault (fails.Undercut label cost) other = refl
other_fault (fails.FinalInNone label) other = refl
other_fault fails.Memory other = absurd (other refl)

-- ---- facts of what the shelf tells

pub if_some : {P Q : Held → Type 0} → (told : Option Held) → ((held : Held) → P held → Q held) → IfSome told P →
    IfSome told Q
if_some None f p = tt
if_some (Some held) f p = f held p

pub if_both : {P Q R : Held → Type 0} → (told : Option Held) → ((held : Held) → P held → Q held → R held) →
    IfSome told P → IfSome told Q → IfSome told R
if_both None f p q = tt
if_both (Some held) f p q = f held p q

-- what one file says, if that is told
pub some_and : {P Q R : Held → Type 0} → (told : Option Held) → ((held : Held) → P held → Q held → R held) →
    IfSome told P → IsSomeAnd told Q → IsSomeAnd told R
some_and None f p q = absurd q
some_and (Some held) f p q = f held p q

pub all_told : {Q : Held → Type 0} → (told : Option Held) → ((held : Held) → Q held) → IfSome told Q
all_told None f = tt
all_told (Some held) f = f held

pub on_memory : {P : Type 0} → (status : Status) → P → OnMemory status P
on_memory Memory p = p
on_memory ReadFault p = tt
on_memory WriteFault p = tt
on_memory Done p = tt
on_memory NoLegal p = tt
on_memory Usage p = tt
on_memory Refused p = tt
on_memory NotProved p = tt

pub settled_of : {P : Type 0} → (status : Status) → P → OnSettled status P
settled_of ReadFault p = tt
settled_of WriteFault p = tt
settled_of Memory p = tt
settled_of Done p = p
settled_of NoLegal p = p
settled_of Usage p = p
settled_of Refused p = p
settled_of NotProved p = p

pub no_front : (P : Type 0) (fault : FloatFault) → OnWriteFault (status_of (ending_of fault)) P
no_front P (float_fault.Class number) = tt
no_front P (float_fault.Limit count) = tt
no_front P float_fault.Memory = tt

-- ---- why a file was not read

failed_file : (command : Option Command) (name : List ℕ) (before after : ℕ) (last : Option (List ℕ)) (line : List ℕ) →
    IsFileOf command name → FailedFile name before after last line → FailedAt command before after last line
failed_file command name before after None line is h = absurd h
failed_file command name before after (Some failed) line is (rose, same, says) =
    (rose, subst (IsFileOf command) (sym same) is, says)

-- a file of a command was not read, and its course then ends so
pub read_line : (command : Option Command) (name : List ℕ) (shelf : OverShelf) (line : List ℕ) → IsFileOf command name →
    IfSome shelf.told (λ held. fetched name (held name) ≡ Err (stop ReadFault line) →
    Course command held [] ReadFault line) → NoFile name shelf line →
    ReadLine command shelf.told shelf.before shelf.after shelf.last line
read_line command name shelf line is ends (inl failed) =
    inl (failed_file command name shelf.before shelf.after shelf.last line is failed)
read_line command name shelf line is ends (inr none) =
    inr (some_and shelf.told (λ held f e. f e) ends none)

pub earlier_rose : (before between now : ℕ) → before ≤ between → Rose between now → Rose before now
earlier_rose before between now less rose = omega (arith, less, rose)

earlier_failed : (command : Option Command) (before between after : ℕ) (last : Option (List ℕ)) (line : List ℕ) →
    before ≤ between → FailedAt command between after last line → FailedAt command before after last line
earlier_failed command before between after None line less h = h
earlier_failed command before between after (Some name) line less (rose, is, says) =
    (earlier_rose before between after less rose, is, says)

earlier_line : (command : Option Command) (told : Option Held) (before between after : ℕ) (last : Option (List ℕ))
    (line : List ℕ) → before ≤ between → ReadLine command told between after last line →
    ReadLine command told before after last line
earlier_line command told before between after last line less (inl failed) =
    inl (earlier_failed command before between after last line less failed)
earlier_line command told before between after last line less (inr ends) = inr ends

-- ---- what the command goes through

-- the same from an earlier moment of the shelf on
pub goes_earlier : (command : Option Command) (told mid : Option Held) (before between after : ℕ)
    (last : Option (List ℕ)) (out : OverOutput) (end : Ending) → mid ≡ told → before ≤ between →
    Goes command (over_shelf mid between after last) out end → Goes command (over_shelf told before after last) out end
goes_earlier command told mid before between after last out end same less goes =
    subst (λ (t : Option Held). Goes command (over_shelf t before after last) out end) same (record {
      settled = goes.settled;
      read =
          on_read_fault (status_of end) (earlier_line command mid before between after last (line_of end) less)
          goes.read;
      read_keeps = goes.read_keeps;
      write = goes.write;
      front = goes.front;
      memory = goes.memory;
      usage = goes.usage;
      usage_keeps = goes.usage_keeps;
    })

module _ (style galley output : List ℕ) (wrap : Option ℕ) where
  -- the command
  abbrev pub This : Option Command
  This = Some (check style galley output wrap)

  -- what was done of the output text is done by the command, where it leads to the command's course
  pub goes_on : (C : Held → List (List ℕ) → Status → List ℕ → Type 0) (shelf : OverShelf) (out : OverOutput)
      (end : Ending) →
      IfSome shelf.told (λ held. (texts : List (List ℕ)) (status : Status) (line : List ℕ) →
      C held texts status line → Course This held texts status line) →
      IfSome shelf.told (λ held. fetched output (held output) ≡ Err (stop ReadFault (line_of end)) →
      Course This held [] ReadFault (line_of end)) →
      GoesOn C output shelf out end → Goes This shelf out end
  goes_on C shelf out end leads ends goes = record {
    settled =
        on_settled (status_of end) (if_both shelf.told (λ held f e.
        ends_as (C held) (Course This held) out.old out.new (status_of end) (line_of end) f e) leads) goes.settled;
    read =
        on_read_fault (status_of end) (read_line This output shelf (line_of end) (inr (inr refl)) ends) goes.read;
    read_keeps = goes.read_keeps;
    write = goes.write;
    front =
        on_write_fault (status_of end) (if_both shelf.told (λ held f b.
        begins_as (C held) (Course This held) out.old out.new f b) leads) goes.front;
    memory = goes.memory;
    usage = (λ e. absurd (goes.no_usage e), λ e. absurd (cc));
    usage_keeps = λ e. absurd (cc);
  }

  -- a galley that the style takes, and what was done of the output text
  pub taken_goes : (s : StyleValue) (g : GalleyValue) (shelf : OverShelf) (out : OverOutput) (end : Ending) →
      unknown_class g.blocks s ≡ None → float_total g.blocks s ≤ 2 ^ 12 →
      IfSome shelf.told (AreRead style galley wrap s g) →
      GoesOn (λ held. CheckText s g (opened_output output (held output))) output shelf out end →
      Goes This shelf out end
  taken_goes s g shelf out end known few read goes =
      let test : nat_le (float_total g.blocks s) (2 ^ 12) ≡ true = true_le (float_total g.blocks s) (2 ^ 12) few in
      goes_on (λ held. CheckText s g (opened_output output (held output))) shelf out end
      (if_some shelf.told (λ held (of_style, of_galley) texts status line course.
      rw (of_style, of_galley, known, test) course) read)
      (if_some shelf.told (λ held (of_style, of_galley) none.
      rw (of_style, of_galley, known, test, none) (refl, refl, refl)) read) goes

  refused_settled : (s : StyleValue) (g : GalleyValue) (told : Option Held) (old : Sent) (faults : ℕ)
      (fault : FloatFault) → MakesList (Err fault) g.blocks s → IfSome told (AreRead style galley wrap s g) →
      OnSettled (status_of (ending_of fault)) (IfSome told (λ held.
      Ended This held old old (status_of (ending_of fault)) (line_of (ending_of fault))))
  refused_settled s g None old faults fault none read = settled_of (status_of (ending_of fault)) tt
  refused_settled s g (Some held) old faults fault none (of_style, of_galley) =
      let C = λ (texts : List (List ℕ)) (status : Status) (line : List ℕ).
      OnTaken s g texts status line (CheckText s g (opened_output output (held output)) texts status line) in
      on_settled (status_of (ending_of fault)) (ends_as C (Course This held) old old (status_of (ending_of fault))
      (line_of (ending_of fault)) (λ texts status line course. rw (of_style, of_galley) course))
      (no_floats (CheckText s g (opened_output output (held output))) s g old faults fault none).settled

  -- a galley that the style does not take, before the output text is read
  pub refused_goes : (s : StyleValue) (g : GalleyValue) (told : Option Held) (before : ℕ) (last : Option (List ℕ))
      (old : Sent) (faults : ℕ) (fault : FloatFault) → MakesList (Err fault) g.blocks s →
      IfSome told (AreRead style galley wrap s g) →
      Goes This (over_shelf told before before last) (output_over old old faults faults) (ending_of fault)
  refused_goes s g told before last old faults fault none read =
      let end = ending_of fault in
      let writes = λ (held : Held). no_floats (CheckText s g (opened_output output (held output))) s g old faults fault
      none in
      record {
        settled = refused_settled s g told old faults fault none read;
        read = on_read_fault (status_of end) (λ none. absurd none) (writes (λ name. None)).no_read;
        read_keeps = on_read_fault (status_of end) (λ none. absurd none) (writes (λ name. None)).no_read;
        write = (writes (λ name. None)).write;
        front = no_front _ fault;
        memory = (writes (λ name. None)).memory;
        usage = (λ e. absurd ((writes (λ name. None)).no_usage e), λ e. absurd (cc));
        usage_keeps = λ e. absurd (cc);
      }

  -- a course that ends at the galley
  stopped_course : (s : StyleValue) (held : Held) (said : Stop) → opened_style (named style) held ≡ Ok s →
      opened galley wrap (held galley) ≡ Err said → Course This held [] said.status said.line
  stopped_course s held said of_style ends = rw (of_style, ends) (refl, refl, refl)

  stopped_ends : (s : StyleValue) (old : Sent) (end : Ending) (held : Held) →
      opened_style (named style) held ≡ Ok s →
      opened galley wrap (held galley) ≡ Err (stop (status_of end) (line_of end)) →
      EndsBy (Course This held) old old (status_of end) (line_of end)
  stopped_ends s old end held of_style ends = record {
    texts = [];
    course = stopped_course s held (stop (status_of end) (line_of end)) of_style ends;
    written = appends_none old;
  }

  stopped_reads : (s : StyleValue) (line : List ℕ) (held : Held) → opened_style (named style) held ≡ Ok s →
      fetched galley (held galley) ≡ Err (stop ReadFault line) → Course This held [] ReadFault line
  stopped_reads s line held of_style none =
      stopped_course s held (stop ReadFault line) of_style
      (ap (read_by (λ bytes. said_galley galley (galley_of bytes wrap))) none)

  -- a galley that is not read
  pub stopped_goes : (s : StyleValue) (shelf : OverShelf) (old : Sent) (faults : ℕ) (end : Ending) →
      IfSome shelf.told (λ held. opened_style (named style) held ≡ Ok s) →
      Stopped (λ held. opened galley wrap (held galley)) (NoFile galley) shelf end →
      Goes This shelf (output_over old old faults faults) end
  stopped_goes s shelf old faults end read stopped = record {
    settled =
        on_settled (status_of end) (if_both shelf.told (stopped_ends s old end) read) stopped.settled;
    read =
        on_read_fault (status_of end) (read_line This galley shelf (line_of end) (inr (inl refl))
        (if_some shelf.told (stopped_reads s (line_of end)) read)) stopped.read;
    read_keeps = on_read_fault (status_of end) (λ it. keeps_all old) stopped.read;
    write = on_write_fault (status_of end) (λ none. absurd none) stopped.no_write;
    front = on_write_fault (status_of end) (λ none. absurd none) stopped.no_write;
    memory = on_memory (status_of end) (keeps_all old);
    usage = (λ e. absurd (stopped.no_usage e), λ e. absurd (cc));
    usage_keeps = λ e. absurd (cc);
  }

-- a galley that was read behind a style, as the shelf stands then
pub both_read : (style galley : List ℕ) (wrap : Option ℕ) (s : StyleValue) (g : GalleyValue)
    (told mid : Option Held) → mid ≡ told → IfSome told (λ held. opened_style (named style) held ≡ Ok s) →
    IfSome told (λ held. opened galley wrap (held galley) ≡ Ok g) → IfSome mid (AreRead style galley wrap s g)
both_read style galley wrap s g told mid same of_style of_galley =
    subst (λ (t : Option Held). IfSome t (AreRead style galley wrap s g)) (sym same)
    (if_both told (λ held a b. (a, b)) of_style of_galley)
