-- What the program does when nothing fails and memory is ample: the texts that it writes, how it ends, and its
-- line for the user.
use Rattle.std.specs.Prelude.{◌≡◌, ◌^◌, ◌+◌, ℕ, Bool, List, [], ◌∷◌, length, take, ◌⊎◌, nat_lt, nat_le, ⊤, Option, Some, None, ℤ}
use Rattle.std.specs.Prelude.{Result, Ok, Err, MatchBool, MatchOption, IsSomeAnd, if◌then◌else◌}
use Rattle.pg_list.specs.GalleyValue.{GalleyValue}
use Rattle.pg_style.specs.Values.{StyleValue}
use Rattle.pg_style.specs.Plain as plain_values
use Rattle.pg_stylefile.specs.declared.fault.StyleFault.{StyleFault}
use Rattle.pg_stylefile.specs.Style.{style_of_text}
use Rattle.pg_showbox.specs.declared.kinds.ListFault.{ListFault}
use Rattle.pg_showbox.specs.Reading.{galley_of}
use Rattle.pg_showbox.specs.Text.{galley_text}
use Rattle.pg_labels.specs.declared.output.Output.{Output}
use Rattle.pg_labels.specs.Reading.{output_of}
use Rattle.pg_edits.specs.Script.{script_of}
use Rattle.pg_edits.specs.declared.kinds.ScriptFault.{ScriptFault}
use Rattle.pg_edits.specs.declared.script.ScriptStep.{ScriptStep}
use Rattle.pg_edits.specs.declared.script.ScriptStep.TheVariants.{Change, Show}
use Rattle.pg_session.specs.Edits.{edit_fault, edited}
use Rattle.law_check.specs.declared.answers.No.{No}
use Rattle.law_check.specs.declared.answers.Proved.{Proved}
use Rattle.pg_outside.specs.Outside.{Held, Rose, Sends, SendsFront, Sent}
use Rattle.pg_command.specs.declared.status.Status.{Status}
use Rattle.pg_command.specs.declared.status.Status.TheVariants.{Done, Usage, Refused, ReadFault, WriteFault, Memory}
use Rattle.pg_command.specs.declared.status.Status.TheVariants.{NotProved}
use Rattle.pg_command.specs.Words.{Command, StyleName, named, plain, run, edit, show, make, check}
use Rattle.pg_command.specs.Words.{lines, heads, compare, fold}
use Rattle.pg_floats.specs.AreFloats.{unknown_class, float_total}
use Rattle.pg_command.specs.Lines.{usage_line, long_line, list_line, style_line, class_line, many_line, unread_line}
use Rattle.pg_command.specs.Lines.{no_output_line, no_line, script_line, edit_line, no_fit_line, paragraph_line}
use Rattle.pg_hlist.specs.declared.item.HItem.{HItem}
use Rattle.pg_hlist.specs.Reading.{paras_of}
use Rattle.law_lines.specs.declared.rule.LineRule.{LineRule}
use Rattle.law_lines.specs.declared.rule.LineFault.{LineFault}
use Rattle.law_lines.specs.declared.rule.LineFault.TheVariants.{Memory as LineMemory}
use Rattle.law_lines.specs.Galleys.{Broken}
use Rattle.pg_greedy.specs.Faults.{greedy_fault}
use Rattle.pg_course.specs.declared.product.Product.{Product}
use Rattle.pg_course.specs.declared.product.Product.TheVariants.{Pages, Heads, Comparison, Sheets}
use Rattle.pg_course.specs.Out.{RunOut}
use Rattle.pg_course.specs.Products.{HeadsOut, CompareOut, SheetsOut}
use Rattle.pg_course.specs.Made.{MadeOut}
use Rattle.pg_course.specs.Verdict.{Answers, yes_line}

-- ---- the course of a command

-- what ends a course without a text
pub record Stop : Type 0 where
  pub status : Status
  pub line : List ℕ

-- this status and line
abbrev pub stop : Status → List ℕ → Stop
stop status line = record { status = status; line = line }

-- no text, this end and this line
abbrev pub Stops : List (List ℕ) → Status → List ℕ → Stop → Type 0
Stops texts end line stop = (texts ≡ []) × (end ≡ stop.status) × (line ≡ stop.line)

-- the galley that a text says; a fault is named by its line and kind
abbrev pub said_galley : List ℕ → Result GalleyValue ListFault → Result GalleyValue Stop
said_galley name (Ok galley) = Ok galley
said_galley name (Err fault) = Err (stop Refused (list_line name fault))

-- the style that a text says; a fault is named by its kind and key
abbrev pub said_style : List ℕ → Result StyleValue StyleFault → Result StyleValue Stop
said_style name (Ok style) = Ok style
said_style name (Err fault) = Err (stop Refused (style_line name fault))

-- the output text that a text says; a fault is named by its line
abbrev pub said_output : List ℕ → Result Output ℕ → Result Output Stop
said_output name (Ok output) = Ok output
said_output name (Err line) = Err (stop Refused (no_output_line name line))

-- the script that a text says; a fault is named by its line and kind
abbrev pub said_script : List ℕ → Result (List ScriptStep) ScriptFault → Result (List ScriptStep) Stop
said_script name (Ok steps) = Ok steps
said_script name (Err fault) = Err (stop Refused (script_line name fault))

-- the bytes of a file: one that is not there cannot be read, and one of more than 2^26 bytes is too long
abbrev pub fetched : List ℕ → Option (List ℕ) → Result (List ℕ) Stop
fetched name None = Err (stop ReadFault (unread_line name))
fetched name (Some bytes) = if nat_lt (2 ^ 26) (length bytes) then Err (stop Refused (long_line name)) else Ok bytes

-- what the bytes of a file say, where they were fetched
abbrev pub read_by : {A : Type 0} → (List ℕ → Result A Stop) → Result (List ℕ) Stop → Result A Stop
read_by say (Ok bytes) = say bytes
read_by say (Err stop) = Err stop

-- the galley of a file
abbrev pub opened : List ℕ → Option ℕ → Option (List ℕ) → Result GalleyValue Stop
opened name wrap file = read_by (λ bytes. said_galley name (galley_of bytes wrap)) (fetched name file)

-- the style of a name: that of its file, or the plain one of its height
abbrev pub opened_style : StyleName → Held → Result StyleValue Stop
opened_style (named name) held = read_by (λ bytes. said_style name (style_of_text bytes)) (fetched name (held name))
opened_style (plain height) held = Ok (plain_values.plain height)

-- the output text of a file
abbrev pub opened_output : List ℕ → Option (List ℕ) → Result Output Stop
opened_output name file = read_by (λ bytes. said_output name (output_of bytes)) (fetched name file)

-- the script of a file
abbrev pub opened_script : List ℕ → Option (List ℕ) → Result (List ScriptStep) Stop
opened_script name file = read_by (λ bytes. said_script name (script_of bytes)) (fetched name file)

-- the paragraphs that a text says; a fault is named by its line and kind
abbrev pub said_paras : List ℕ → Result (List (List HItem)) ListFault → Result (List (List HItem)) Stop
said_paras name (Ok paras) = Ok paras
said_paras name (Err fault) = Err (stop Refused (list_line name fault))

-- the paragraphs of a file
abbrev pub opened_paras : List ℕ → Option (List ℕ) → Result (List (List HItem)) Stop
opened_paras name file = read_by (λ bytes. said_paras name (paras_of bytes)) (fetched name file)

-- this text alone is written, and it ends so
abbrev pub OneText : List ℕ → Status → List (List ℕ) → Status → List ℕ → Type 0
OneText text status texts end line = (texts ≡ text ∷ []) × (end ≡ status) × (line ≡ [])

-- one text is written for a galley, and it ends, as this says
abbrev pub WritesOne : (GalleyValue → StyleValue → List ℕ → Status → Type 0) → StyleValue → GalleyValue
    → List (List ℕ) → Status → List ℕ → Type 0
WritesOne Tells style galley texts end line =
    (text : List ℕ) × Tells galley style text end × (texts ≡ text ∷ []) × (line ≡ [])

-- the text of its pages is written for a galley
abbrev pub PaginateGalley : Bool → StyleValue → GalleyValue → List (List ℕ) → Status → List ℕ → Type 0
PaginateGalley labels style galley texts end line = WritesOne (RunOut labels) style galley texts end line

-- first fit is compared with the best pages, where the galley has one under the style
abbrev pub CompareGalley : StyleValue → GalleyValue → List (List ℕ) → Status → List ℕ → Type 0
CompareGalley style galley texts end line = MatchOption (greedy_fault style galley.blocks)
    (WritesOne CompareOut style galley texts end line)
    (λ fault. Stops texts end line (stop Refused (no_fit_line fault)))

-- what is made of a galley
abbrev pub MakesGalley : Product → StyleValue → GalleyValue → List (List ℕ) → Status → List ℕ → Type 0
MakesGalley (Pages labels) style galley texts end line = PaginateGalley labels style galley texts end line
MakesGalley Heads style galley texts end line = WritesOne HeadsOut style galley texts end line
MakesGalley Comparison style galley texts end line = CompareGalley style galley texts end line
MakesGalley (Sheets folds nest) style galley texts end line = WritesOne (SheetsOut folds nest) style galley texts end line

-- a galley is refused for the class of its first insert of a class that the style does not have, and then for more
-- than 2^12 floats; else this is done
abbrev pub OnTaken : StyleValue → GalleyValue → List (List ℕ) → Status → List ℕ → Type 0 → Type 0
OnTaken style galley texts end line Goes = MatchOption (unknown_class galley.blocks style)
    (MatchBool (nat_le (float_total galley.blocks style) (2 ^ 12)) Goes
    (Stops texts end line (stop Refused (many_line (float_total galley.blocks style)))))
    (λ class. Stops texts end line (stop Refused (class_line class)))

-- it is made of a galley that is taken
abbrev pub RunGalley : Product → StyleValue → GalleyValue → List (List ℕ) → Status → List ℕ → Type 0
RunGalley product style galley texts end line =
    OnTaken style galley texts end line (MakesGalley product style galley texts end line)

-- the galley is read behind the style
abbrev pub RunCourse : Product → StyleValue → Result GalleyValue Stop → List (List ℕ) → Status → List ℕ → Type 0
RunCourse product style (Err stop) texts end line = Stops texts end line stop
RunCourse product style (Ok galley) texts end line = RunGalley product style galley texts end line

-- the style is read first
abbrev pub StyledCourse : Product → Result StyleValue Stop → Result GalleyValue Stop → List (List ℕ) → Status → List ℕ
    → Type 0
StyledCourse product (Err stop) galley texts end line = Stops texts end line stop
StyledCourse product (Ok style) galley texts end line = RunCourse product style galley texts end line

-- how shows end that ended so before: where one of them has no legal pagination, so do they
abbrev pub with_end : Status → Status → Status
with_end Done shown = shown
with_end before shown = before

-- the steps of a script from the one of this number on, over a galley, behind shows that ended so: a show writes what a
-- run writes for the galley as it stands, a change edits it, and one that is refused ends the course
abbrev pub EditSteps : Bool → StyleValue → GalleyValue → ℕ → Status → List ScriptStep → List (List ℕ) → Status
    → List ℕ → Type 0
EditSteps labels style galley number before [] texts end line = (texts ≡ []) × (end ≡ before) × (line ≡ [])
EditSteps labels style galley number before (Show ∷ steps) texts end line =
    (text : List ℕ) × (shown : Status) × (later : List (List ℕ)) × RunOut labels galley style text shown
    × (texts ≡ text ∷ later)
    × EditSteps labels style galley (number + 1) (with_end before shown) steps later end line
EditSteps labels style galley number before (Change change ∷ steps) texts end line =
    MatchOption (edit_fault galley style change)
    (EditSteps labels style (edited galley change) (number + 1) before steps texts end line)
    (λ fault. Stops texts end line (stop Refused (edit_line number fault)))

-- a front of that course: that of the first steps
abbrev pub EditFront : Bool → StyleValue → GalleyValue → List ScriptStep → List (List ℕ) → Status → List ℕ → Type 0
EditFront labels style galley steps texts end line = (count : ℕ) ×
    EditSteps labels style galley 1 Done (take count steps) texts end line

-- the script is read, and its steps are made in their order
abbrev pub EditScript : Bool → StyleValue → GalleyValue → Result (List ScriptStep) Stop → List (List ℕ) → Status
    → List ℕ → Type 0
EditScript labels style galley (Err stop) texts end line = Stops texts end line stop
EditScript labels style galley (Ok steps) texts end line = EditSteps labels style galley 1 Done steps texts end line

-- a front of it, where it is read
abbrev pub ScriptFront : Bool → StyleValue → GalleyValue → Result (List ScriptStep) Stop → List (List ℕ) → Status
    → List ℕ → Type 0
ScriptFront labels style galley (Err stop) texts end line = Stops texts end line stop
ScriptFront labels style galley (Ok steps) texts end line = EditFront labels style galley steps texts end line

-- the galley is read behind the style, and has to be taken before the script is read
abbrev pub EditGalley : Bool → StyleValue → Result GalleyValue Stop → Result (List ScriptStep) Stop → List (List ℕ)
    → Status → List ℕ → Type 0
EditGalley labels style (Err stop) script texts end line = Stops texts end line stop
EditGalley labels style (Ok galley) script texts end line =
    OnTaken style galley texts end line (EditScript labels style galley script texts end line)

-- the style is read first
abbrev pub EditCourse : Bool → Result StyleValue Stop → Result GalleyValue Stop → Result (List ScriptStep) Stop
    → List (List ℕ) → Status → List ℕ → Type 0
EditCourse labels (Err stop) galley script texts end line = Stops texts end line stop
EditCourse labels (Ok style) galley script texts end line = EditGalley labels style galley script texts end line

-- the galley is printed
abbrev pub ShowGalley : GalleyValue → List (List ℕ) → Status → List ℕ → Type 0
ShowGalley galley texts end line = OneText (galley_text galley) Done texts end line

-- the galley is read
abbrev pub ShowCourse : Result GalleyValue Stop → List (List ℕ) → Status → List ℕ → Type 0
ShowCourse (Err stop) texts end line = Stops texts end line stop
ShowCourse (Ok galley) texts end line = ShowGalley galley texts end line

-- one line is written of the galley that is made
abbrev pub MakeCourse : ℕ → List (List ℕ) → Status → List ℕ → Type 0
MakeCourse count texts end line = (text : List ℕ) × MadeOut count text end × (texts ≡ text ∷ []) × (line ≡ [])

-- a yes is written, and a no is said
abbrev pub TellAnswer : Result Proved No → List (List ℕ) → Status → List ℕ → Type 0
TellAnswer (Ok proved) texts end line = OneText (yes_line proved) Done texts end line
TellAnswer (Err fault) texts end line = Stops texts end line (stop NotProved (no_line fault))

-- the output text is tested
abbrev pub CheckOutput : StyleValue → GalleyValue → Output → List (List ℕ) → Status → List ℕ → Type 0
CheckOutput style galley output texts end line =
    (answer : Result Proved No) × Answers galley style output answer × TellAnswer answer texts end line

-- the output text is read last
abbrev pub CheckText : StyleValue → GalleyValue → Result Output Stop → List (List ℕ) → Status → List ℕ → Type 0
CheckText style galley (Err stop) texts end line = Stops texts end line stop
CheckText style galley (Ok output) texts end line = CheckOutput style galley output texts end line

-- the galley is read behind the style, and has to be taken before the output text is read
abbrev pub CheckGalley : StyleValue → Result GalleyValue Stop → Result Output Stop → List (List ℕ) → Status → List ℕ
    → Type 0
CheckGalley style (Err stop) output texts end line = Stops texts end line stop
CheckGalley style (Ok galley) output texts end line =
    OnTaken style galley texts end line (CheckText style galley output texts end line)

-- the style is read first
abbrev pub CheckCourse : Result StyleValue Stop → Result GalleyValue Stop → Result Output Stop → List (List ℕ)
    → Status → List ℕ → Type 0
CheckCourse (Err stop) galley output texts end line = Stops texts end line stop
CheckCourse (Ok style) galley output texts end line = CheckGalley style galley output texts end line

-- how paragraphs are broken
abbrev pub rule_of : ℤ → ℕ → ℕ → LineRule
rule_of width tolerance around = record { width = width; tolerance = tolerance; around = around }

-- the galley of the paragraphs' variants is printed, and what is printed reads back to it; or a paragraph is at fault
abbrev pub LinesEnd : List ℕ → Result GalleyValue LineFault → List (List ℕ) → Status → List ℕ → Type 0
LinesEnd name (Ok galley) texts end line =
    ShowGalley galley texts end line × (galley_of (galley_text galley) None ≡ Ok galley)
LinesEnd name (Err LineMemory) texts end line = ⊥
LinesEnd name (Err fault) texts end line = Stops texts end line (stop Refused (paragraph_line name fault))

-- the paragraphs of a file are broken into lines
abbrev pub LinesCourse : LineRule → List ℕ → Result (List (List HItem)) Stop → List (List ℕ) → Status → List ℕ → Type 0
LinesCourse rule name (Err stop) texts end line = Stops texts end line stop
LinesCourse rule name (Ok paras) texts end line =
    (made : Result GalleyValue LineFault) × Broken rule paras made × LinesEnd name made texts end line

-- the course of a command, over the files that are held
abbrev pub Course : Option Command → Held → List (List ℕ) → Status → List ℕ → Type 0
Course None held texts end line = Stops texts end line (stop Usage usage_line)
Course (Some (run style galley labels wrap)) held texts end line =
    StyledCourse (Pages labels) (opened_style style held) (opened galley wrap (held galley)) texts end line
Course (Some (edit style galley script labels wrap)) held texts end line =
    EditCourse labels (opened_style (named style) held) (opened galley wrap (held galley))
    (opened_script script (held script)) texts end line
Course (Some (show galley wrap)) held texts end line = ShowCourse (opened galley wrap (held galley)) texts end line
Course (Some (make count)) held texts end line = MakeCourse count texts end line
Course (Some (check style galley output wrap)) held texts end line =
    CheckCourse (opened_style (named style) held) (opened galley wrap (held galley))
    (opened_output output (held output)) texts end line
Course (Some (lines width tolerance around file)) held texts end line =
    LinesCourse (rule_of width tolerance around) file (opened_paras file (held file)) texts end line
Course (Some (heads style galley wrap)) held texts end line =
    StyledCourse Heads (opened_style (named style) held) (opened galley wrap (held galley)) texts end line
Course (Some (compare style galley wrap)) held texts end line =
    StyledCourse Comparison (opened_style (named style) held) (opened galley wrap (held galley)) texts end line
Course (Some (fold style galley folds nest wrap)) held texts end line =
    StyledCourse (Sheets folds nest) (opened_style (named style) held) (opened galley wrap (held galley)) texts end line

-- the first steps of a script that is read
abbrev pub first_steps : ℕ → Result (List ScriptStep) Stop → Result (List ScriptStep) Stop
first_steps count (Err stop) = Err stop
first_steps count (Ok steps) = Ok (take count steps)

-- a front of the course of a command: of an edit the first steps of its script are made, of any other command there is
-- but the whole course
abbrev pub CourseFront : Option Command → Held → List (List ℕ) → Status → List ℕ → Type 0
CourseFront None held texts end line = Course None held texts end line
CourseFront (Some (run style galley labels wrap)) held texts end line =
    Course (Some (run style galley labels wrap)) held texts end line
CourseFront (Some (edit style galley script labels wrap)) held texts end line = (count : ℕ) ×
    EditCourse labels (opened_style (named style) held) (opened galley wrap (held galley))
    (first_steps count (opened_script script (held script))) texts end line
CourseFront (Some (show galley wrap)) held texts end line = Course (Some (show galley wrap)) held texts end line
CourseFront (Some (make count)) held texts end line = Course (Some (make count)) held texts end line
CourseFront (Some (check style galley output wrap)) held texts end line =
    Course (Some (check style galley output wrap)) held texts end line
CourseFront (Some (lines width tolerance around file)) held texts end line =
    Course (Some (lines width tolerance around file)) held texts end line
CourseFront (Some (heads style galley wrap)) held texts end line =
    Course (Some (heads style galley wrap)) held texts end line
CourseFront (Some (compare style galley wrap)) held texts end line =
    Course (Some (compare style galley wrap)) held texts end line
CourseFront (Some (fold style galley folds nest wrap)) held texts end line =
    Course (Some (fold style galley folds nest wrap)) held texts end line

-- ---- facts for some ends

-- where it ended by itself
abbrev pub OnSettled : Status → Type 0 → Type 0
OnSettled ReadFault P = ⊤
OnSettled WriteFault P = ⊤
OnSettled Memory P = ⊤
OnSettled status P = P

-- where a file could not be read
abbrev pub OnReadFault : Status → Type 0 → Type 0
OnReadFault ReadFault P = P
OnReadFault status P = ⊤

-- where the output failed
abbrev pub OnWriteFault : Status → Type 0 → Type 0
OnWriteFault WriteFault P = P
OnWriteFault status P = ⊤

-- where memory ran out
abbrev pub OnMemory : Status → Type 0 → Type 0
OnMemory Memory P = P
OnMemory status P = ⊤

-- ---- how a call went

-- a course ends with this status and line, and its texts are what was written, each in one write
pub record EndsBy (C : List (List ℕ) → Status → List ℕ → Type 0) (old new : Sent) (status : Status)
    (line : List ℕ) : Type 0 where
  pub texts : List (List ℕ)
  pub course : C texts status line
  pub written : Sends old new texts

-- a course has texts of which a front was written, in as many writes as they are
pub record BeginsBy (C : List (List ℕ) → Status → List ℕ → Type 0) (old new : Sent) : Type 0 where
  pub texts : List (List ℕ)
  pub end : Status
  pub line : List ℕ
  pub course : C texts end line
  pub front : SendsFront old new texts

-- the command's course ends so
abbrev pub Ended : Option Command → Held → Sent → Sent → Status → List ℕ → Type 0
Ended command held old new status line = EndsBy (Course command held) old new status line

-- the command's course begins so: a front of the texts of a front of it was written
abbrev pub EndedBefore : Option Command → Held → Sent → Sent → Type 0
EndedBefore command held old new = BeginsBy (CourseFront command held) old new

-- a name is the file of a style
abbrev pub IsStyleFile : StyleName → List ℕ → Type 0
IsStyleFile (named style) name = name ≡ style
IsStyleFile (plain height) name = ⊥

-- a name is a file of the command
abbrev pub IsFileOf : Option Command → List ℕ → Type 0
IsFileOf None name = ⊥
IsFileOf (Some (run style galley labels wrap)) name = IsStyleFile style name ⊎ (name ≡ galley)
IsFileOf (Some (edit style galley script labels wrap)) name = (name ≡ style) ⊎ ((name ≡ galley) ⊎ (name ≡ script))
IsFileOf (Some (show galley wrap)) name = name ≡ galley
IsFileOf (Some (make count)) name = ⊥
IsFileOf (Some (check style galley output wrap)) name = (name ≡ style) ⊎ ((name ≡ galley) ⊎ (name ≡ output))
IsFileOf (Some (lines width tolerance around file)) name = name ≡ file
IsFileOf (Some (heads style galley wrap)) name = (name ≡ style) ⊎ (name ≡ galley)
IsFileOf (Some (compare style galley wrap)) name = (name ≡ style) ⊎ (name ≡ galley)
IsFileOf (Some (fold style galley folds nest wrap)) name = (name ≡ style) ⊎ (name ≡ galley)

-- the shelf failed in this call, at a file of the command, and the line says so
abbrev pub FailedAt : Option Command → ℕ → ℕ → Option (List ℕ) → List ℕ → Type 0
FailedAt command before after None line = ⊥
FailedAt command before after (Some name) line = Rose before after × IsFileOf command name
    × (line ≡ unread_line name)

-- why a file was not read, and the line that tells it: the shelf failed, or the course ends so
abbrev pub ReadLine : Option Command → Option Held → ℕ → ℕ → Option (List ℕ) → List ℕ → Type 0
ReadLine command told before after last line =
    FailedAt command before after last line ⊎ IsSomeAnd told (λ held. Course command held [] ReadFault line)

-- the same of one file, whatever the command
abbrev pub FailedFile : List ℕ → ℕ → ℕ → Option (List ℕ) → List ℕ → Type 0
FailedFile name before after None line = ⊥
FailedFile name before after (Some failed) line = Rose before after × (failed ≡ name) × (line ≡ unread_line failed)

-- why a file was not read, and the line that tells it
abbrev pub UnreadFile : List ℕ → Option Held → ℕ → ℕ → Option (List ℕ) → List ℕ → Type 0
UnreadFile name told before after last line =
    FailedFile name before after last line
    ⊎ IsSomeAnd told (λ held. fetched name (held name) ≡ Err (stop ReadFault line))

-- why the style of a name was not read: its file was not
abbrev pub UnreadStyle : StyleName → Option Held → ℕ → ℕ → Option (List ℕ) → List ℕ → Type 0
UnreadStyle (named name) told before after last line = UnreadFile name told before after last line
UnreadStyle (plain height) told before after last line = ⊥
