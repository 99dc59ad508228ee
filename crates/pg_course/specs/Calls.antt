-- What the function of a command promises, over any shelf and any sink.
use Rattle.std.specs.Prelude.{◌≡◌, ◌≢◌, ◌↔◌, ℕ, List, Option, Some, None, Result, Ok, Err, IfSome}
use Rattle.pg_list.specs.GalleyValue.{GalleyValue}
use Rattle.pg_style.specs.Values.{StyleValue}
use Rattle.pg_edits.specs.declared.fault.EditFault.{EditFault}
use Rattle.pg_edits.specs.declared.fault.EditFault.TheVariants as faults
use Rattle.law_check.specs.declared.answers.No.{No}
use Rattle.law_check.specs.declared.answers.No.TheVariants as fails
use Rattle.pg_greedy.specs.declared.fault.GreedyFault.{GreedyFault}
use Rattle.pg_greedy.specs.declared.fault.GreedyFault.TheVariants as fits
use Rattle.pg_hlist.specs.declared.item.HItem.{HItem}
use Rattle.pg_hlist.specs.Reading.{paras_of}
use Rattle.pg_outside.specs.Outside.{Held, OverOutput, Rose, SendsNothing, Sent}
use Rattle.pg_command.specs.declared.ending.Ending.{Ending}
use Rattle.pg_command.specs.declared.ending.Ending.TheVariants as ending
use Rattle.pg_command.specs.declared.status.Status.{Status}
use Rattle.pg_command.specs.declared.status.Status.TheVariants.{Usage}
use Rattle.pg_command.specs.Words.{Command, StyleName, named, run, edit, show, make, check}
use Rattle.pg_command.specs.Words.{lines, heads, compare, fold}
use Rattle.pg_command.specs.Lines.{status_of, line_of}
use Rattle.pg_course.specs.Course.{CourseFront, Ended, EndedBefore, EndsBy, BeginsBy, OnSettled, OnReadFault}
use Rattle.pg_course.specs.Course.{OnWriteFault}
use Rattle.pg_course.specs.Course.{OnMemory, ReadLine, Stop, UnreadFile, UnreadStyle, opened, opened_style, stop}

-- a shelf over a call: what it tells, how many faults it counted before and after, and its last failed name after
pub record OverShelf : Type 0 where
  pub told : Option Held
  pub before : ℕ
  pub after : ℕ
  pub last : Option (List ℕ)

-- these over a call
abbrev pub over_shelf : Option Held → ℕ → ℕ → Option (List ℕ) → OverShelf
over_shelf told before after last = record { told = told; before = before; after = after; last = last }

-- a course has whole texts that were written, each in one write
abbrev pub WritesTexts : (List (List ℕ) → Status → List ℕ → Type 0) → Sent → Sent → Type 0
WritesTexts C old new = (end : Status) × (line : List ℕ) × EndsBy C old new end line

-- the texts that are written before memory runs out: none of a command that writes one text. Of an edit they are the
-- whole texts of the shows before
abbrev pub WroteWhole : Option Command → Option Held → OverOutput → Type 0
WroteWhole None told out = SendsNothing out.old out.new
WroteWhole (Some (run style galley labels wrap)) told out = SendsNothing out.old out.new
WroteWhole (Some (edit style galley script labels wrap)) told out = IfSome told (λ held.
    WritesTexts (CourseFront (Some (edit style galley script labels wrap)) held) out.old out.new)
WroteWhole (Some (show galley wrap)) told out = SendsNothing out.old out.new
WroteWhole (Some (make count)) told out = SendsNothing out.old out.new
WroteWhole (Some (check style galley output wrap)) told out = SendsNothing out.old out.new
WroteWhole (Some (lines width tolerance around file)) told out = SendsNothing out.old out.new
WroteWhole (Some (heads style galley wrap)) told out = SendsNothing out.old out.new
WroteWhole (Some (compare style galley wrap)) told out = SendsNothing out.old out.new
WroteWhole (Some (fold style galley folds nest wrap)) told out = SendsNothing out.old out.new

-- words that name no file: they are no command, or one that makes its galley
abbrev pub NamesNoFile : Option Command → Type 0
NamesNoFile None = Unit {0}
NamesNoFile (Some (run style galley labels wrap)) = ⊥
NamesNoFile (Some (edit style galley script labels wrap)) = ⊥
NamesNoFile (Some (show galley wrap)) = ⊥
NamesNoFile (Some (make count)) = Unit {0}
NamesNoFile (Some (check style galley output wrap)) = ⊥
NamesNoFile (Some (lines width tolerance around file)) = ⊥
NamesNoFile (Some (heads style galley wrap)) = ⊥
NamesNoFile (Some (compare style galley wrap)) = ⊥
NamesNoFile (Some (fold style galley folds nest wrap)) = ⊥

-- why the file of a name was not read, and the line that tells it
abbrev pub NoFile : List ℕ → OverShelf → List ℕ → Type 0
NoFile name shelf line = UnreadFile name shelf.told shelf.before shelf.after shelf.last line

-- why the style of a name was not read, and the line that tells it
abbrev pub NoStyle : StyleName → OverShelf → List ℕ → Type 0
NoStyle style shelf line = UnreadStyle style shelf.told shelf.before shelf.after shelf.last line

-- the promise of a function that reads what a file says, where that ends the run, by its ending
pub record Stopped {A : Type 0} (said : Held → Result A Stop) (Unread : OverShelf → List ℕ → Type 0)
    (shelf : OverShelf) (ending : Ending) : Type 0 where
  pub settled : OnSettled (status_of ending) (IfSome shelf.told (λ held.
      said held ≡ Err (stop (status_of ending) (line_of ending))))
  pub read : OnReadFault (status_of ending) (Unread shelf (line_of ending))
  pub no_write : OnWriteFault (status_of ending) ⊥
  pub no_usage : status_of ending ≢ Usage

-- how a run ends where a galley has no first fit
abbrev pub fit_ending : GreedyFault → Ending
fit_ending fits.Memory = ending.Memory
fit_ending fault = ending.NoFirstFit fault

-- how a run ends where the edit of a step is refused
abbrev pub edit_ending : ℕ → EditFault → Ending
edit_ending step faults.Memory = ending.Memory
edit_ending step fault = ending.BadEdit step fault

-- how a run ends where a check says no
abbrev pub no_ending : No → Ending
no_ending fails.Memory = ending.Memory
no_ending fault = ending.NotProved fault

-- the files of these names say this style and this galley
abbrev pub AreRead : List ℕ → List ℕ → Option ℕ → StyleValue → GalleyValue → Held → Type 0
AreRead style galley wrap s g held =
    (opened_style (named style) held ≡ Ok s) × (opened galley wrap (held galley) ≡ Ok g)

-- some text says these paragraphs
abbrev pub AreSaid : List (List HItem) → Type 0
AreSaid paras = (text : List ℕ) × (paras_of text ≡ Ok paras)

-- the promise of a function that writes what a course says of files that were read, by its ending
pub record Writes (C : List (List ℕ) → Status → List ℕ → Type 0) (out : OverOutput) (ending : Ending) : Type 0 where
  pub settled : OnSettled (status_of ending) (EndsBy C out.old out.new (status_of ending) (line_of ending))
  pub write : OnWriteFault (status_of ending) (Rose out.before out.after)
  pub front : OnWriteFault (status_of ending) (BeginsBy C out.old out.new)
  pub memory : OnMemory (status_of ending) (SendsNothing out.old out.new)
  pub no_read : OnReadFault (status_of ending) ⊥
  pub no_usage : status_of ending ≢ Usage

-- the promise of a function that writes the texts of a course one after another, by its ending: where it fails a front
-- of the texts of a front of the course was written, and where memory runs out, whole ones
pub record WritesOn (C D : List (List ℕ) → Status → List ℕ → Type 0) (out : OverOutput) (ending : Ending) : Type 0 where
  pub settled : OnSettled (status_of ending) (EndsBy C out.old out.new (status_of ending) (line_of ending))
  pub write : OnWriteFault (status_of ending) (Rose out.before out.after)
  pub front : OnWriteFault (status_of ending) (BeginsBy D out.old out.new)
  pub memory : OnMemory (status_of ending) (WritesTexts D out.old out.new)
  pub no_read : OnReadFault (status_of ending) ⊥
  pub no_usage : status_of ending ≢ Usage

-- the promise of a function that fetches the file of a name and does what a course says of it, by its ending
pub record GoesOn (C : Held → List (List ℕ) → Status → List ℕ → Type 0) (name : List ℕ) (shelf : OverShelf)
    (out : OverOutput) (ending : Ending) : Type 0 where
  pub settled : OnSettled (status_of ending) (IfSome shelf.told (λ held.
      EndsBy (C held) out.old out.new (status_of ending) (line_of ending)))
  pub read : OnReadFault (status_of ending) (NoFile name shelf (line_of ending))
  pub read_keeps : OnReadFault (status_of ending) (SendsNothing out.old out.new)
  pub write : OnWriteFault (status_of ending) (Rose out.before out.after)
  pub front : OnWriteFault (status_of ending) (IfSome shelf.told (λ held. BeginsBy (C held) out.old out.new))
  pub memory : OnMemory (status_of ending) (SendsNothing out.old out.new)
  pub no_usage : status_of ending ≢ Usage

-- the promise of a function that fetches the file of a name and writes the texts of a course one after another, by its
-- ending
pub record GoesThrough (C D : Held → List (List ℕ) → Status → List ℕ → Type 0) (name : List ℕ) (shelf : OverShelf)
    (out : OverOutput) (ending : Ending) : Type 0 where
  pub settled : OnSettled (status_of ending) (IfSome shelf.told (λ held.
      EndsBy (C held) out.old out.new (status_of ending) (line_of ending)))
  pub read : OnReadFault (status_of ending) (NoFile name shelf (line_of ending))
  pub read_keeps : OnReadFault (status_of ending) (SendsNothing out.old out.new)
  pub write : OnWriteFault (status_of ending) (Rose out.before out.after)
  pub front : OnWriteFault (status_of ending) (IfSome shelf.told (λ held. BeginsBy (D held) out.old out.new))
  pub memory : OnMemory (status_of ending) (IfSome shelf.told (λ held. WritesTexts (D held) out.old out.new))
  pub no_usage : status_of ending ≢ Usage

-- the promise of the function of a command, by its ending
pub record Goes (command : Option Command) (shelf : OverShelf) (out : OverOutput) (ending : Ending) : Type 0 where
  -- where it ended by itself, it wrote exactly the texts of the course and ended as the course does
  pub settled : OnSettled (status_of ending) (IfSome shelf.told (λ held.
      Ended command held out.old out.new (status_of ending) (line_of ending)))
  -- a file could not be read, with a cause, and nothing was written
  pub read : OnReadFault (status_of ending)
      (ReadLine command shelf.told shelf.before shelf.after shelf.last (line_of ending))
  pub read_keeps : OnReadFault (status_of ending) (SendsNothing out.old out.new)
  -- the output failed, and a front of the texts was written
  pub write : OnWriteFault (status_of ending) (Rose out.before out.after)
  pub front : OnWriteFault (status_of ending) (IfSome shelf.told (λ held. EndedBefore command held out.old out.new))
  -- memory ran out
  pub memory : OnMemory (status_of ending) (WroteWhole command shelf.told out)
  -- words that are no command, and they alone, are answered so
  pub usage : (status_of ending ≡ Usage) ↔ (command ≡ None)
  pub usage_keeps : command ≡ None → SendsNothing out.old out.new
