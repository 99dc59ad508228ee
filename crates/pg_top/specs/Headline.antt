-- What the program promises, over any shelf and any sinks.
use Rattle.std.specs.Prelude.{◌≡◌, ◌↔◌, ℕ, List, [], ⊤, Option, None, IfSome}
use Rattle.pg_outside.specs.Outside.{Held, OverOutput, OverSink, Rose, Sends, SendsNothing}
use Rattle.pg_command.specs.declared.status.Status.{Status}
use Rattle.pg_command.specs.declared.status.Status.TheVariants.{Done, NoLegal, Usage, Refused, ReadFault, WriteFault}
use Rattle.pg_command.specs.declared.status.Status.TheVariants.{Memory, NotProved}
use Rattle.pg_command.specs.Words.{Command, command_of}
use Rattle.pg_command.specs.Lines.{usage_line, output_line, memory_line, Says}
use Rattle.pg_course.specs.Course.{Course, Ended, EndedBefore, OnSettled, OnReadFault, OnWriteFault, OnMemory, ReadLine}
use Rattle.pg_course.specs.Calls.{OverShelf, WroteWhole}

-- a file could not be read, with a cause, and nothing was written
pub record ReadFailed (command : Option Command) (shelf : OverShelf) (out : OverOutput) : Type 0 where
  pub line : List ℕ
  pub cause : ReadLine command shelf.told shelf.before shelf.after shelf.last line
  pub keeps : SendsNothing out.old out.new

-- the output failed, with a cause, and a front of the texts was written
pub record WriteFailed (command : Option Command) (shelf : OverShelf) (out : OverOutput) : Type 0 where
  pub cause : Rose out.before out.after
  pub front : IfSome shelf.told (λ held. EndedBefore command held out.old out.new)

-- the course ends with this status, where the bytes are told; memory may run out instead
abbrev pub EndsAsCourse : Option Command → Option Held → Status → Type 0
EndsAsCourse command told Memory = ⊤
EndsAsCourse command told status =
    IfSome told (λ held. (texts : List (List ℕ)) × (line : List ℕ) × Course command held texts status line)

-- the line of the course, where the bytes are told
abbrev pub CourseLine : Option Command → Option Held → Status → List ℕ → Type 0
CourseLine command told status line =
    IfSome told (λ held. (texts : List (List ℕ)) × Course command held texts status line)

-- the line that goes with a status
abbrev pub IsLineOf : Option Command → OverShelf → Status → List ℕ → Type 0
IsLineOf command shelf Done line = line ≡ []
IsLineOf command shelf NoLegal line = line ≡ []
IsLineOf command shelf Usage line = line ≡ usage_line
IsLineOf command shelf Refused line = CourseLine command shelf.told Refused line
IsLineOf command shelf NotProved line = CourseLine command shelf.told NotProved line
IsLineOf command shelf ReadFault line = ReadLine command shelf.told shelf.before shelf.after shelf.last line
IsLineOf command shelf WriteFault line = line ≡ output_line
IsLineOf command shelf Memory line = line ≡ memory_line

-- the program's promise for these words, by how it ended
pub record Headline (words : List (List ℕ)) (shelf : OverShelf) (out : OverOutput)
    (say : OverSink) (status : Status) : Type 0 where
  -- where it ended by itself, it wrote exactly the texts of the course, each in one write, and ended as the course does
  pub texts : OnSettled status (IfSome shelf.told (λ held.
      (line : List ℕ) × Ended (command_of words) held out.old out.new status line))
  pub read_fault : OnReadFault status (ReadFailed (command_of words) shelf out)
  pub write_fault : OnWriteFault status (WriteFailed (command_of words) shelf out)
  pub memory : OnMemory status (WroteWhole (command_of words) shelf.told out)
  -- where neither count rose, it ended as the course does, or memory ran out
  pub no_fault : (Rose shelf.before shelf.after → ⊥) → (Rose out.before out.after → ⊥)
      → EndsAsCourse (command_of words) shelf.told status
  -- one line was said, or a front of it where that failed; at Done and NoLegal nothing
  pub said : (line : List ℕ) × Says say.old say.new say.before say.after line
      × IsLineOf (command_of words) shelf status line
  -- words that are no command are answered so, whatever the shelf tells
  pub usage : (status ≡ Usage) ↔ (command_of words ≡ None)
  pub usage_keeps : command_of words ≡ None → SendsNothing out.old out.new

-- whatever course the command has, it ends so, its texts are what was written, each in one write, and its line is what
-- was said: there is no other answer
abbrev pub IsSole : Option Command → OverOutput → OverSink → Status → Held → Type 0
IsSole command out say status held = (texts : List (List ℕ)) (end : Status) (line : List ℕ) →
    Course command held texts end line →
    (end ≡ status) × Sends out.old out.new texts × Says say.old say.new say.before say.after line
