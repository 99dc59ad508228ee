-- The texts that are drawn, and how a run of the program may end.
use Rattle.std.specs.Prelude.{◌≡◌, ℕ, List, ◌++◌, Option, Some, None, Result, Ok, Err, ⊤, ◌⊎◌, codes}
use Rattle.pg_drawing.specs.Drawn.{drawing_of}
use Rattle.pg_drawing.specs.Laws.{IsFaithfulDrawing}
use Rattle.pg_drawing.specs.declared.model.Drawing.{Drawing}
use Rattle.pg_labels.specs.Reading.{output_of}
use Rattle.pg_labels.specs.declared.output.Output.{Output}
use Rattle.pg_style.specs.Values.{StyleValue}
use Rattle.pg_stylefile.specs.Faults.{kind_number}
use Rattle.pg_stylefile.specs.Style.{style_of_text}
use Rattle.pg_stylefile.specs.declared.fault.StyleFault.{StyleFault}
use Rattle.pg_stylefile.specs.declared.fault.StyleKind.{StyleKind}
use Rattle.pg_stylefile.specs.declared.fault.StyleKind.TheVariants as kind
use Rattle.std.specs.Io.KnownBytes.{Appends}
use Rattle.pg_outside.specs.Outside.{AppendsFront, Held, IsFile, IsTooLong, OverSink, Rose}
use Rattle.pg_draw.specs.Lines.{help_text, line_of, status_of, version_text}
use Rattle.pg_draw.specs.Words.{Asked, Draw, Help, Names, Version}
use Rattle.pg_draw.specs.declared.ending.Ending.{Ending}
use Rattle.pg_draw.specs.declared.ending.Status.{Status}
use Rattle.pg_draw.specs.declared.ending.Ending.TheVariants.{Done, Usage, TooLong, BadOutput, BadStyle, Unread, WriteFault, Memory}

-- the first that is an output text, or the line at which the first is none
abbrev pub output_in : Result Output ℕ → Result Output ℕ → Result Output ℕ
output_in (Ok output) other = Ok output
output_in (Err line) (Ok output) = Ok output
output_in (Err line) (Err other) = Err line

-- what an output text says, or one that lacks its labels; else the line at which it is no output text
unfoldable pub said_of : List ℕ → Result Output ℕ
said_of text = output_in (output_of text) (output_of (text ++ codes "labels 0\n"))

-- the file of this name says this
abbrev pub HasOutput : Option Held → List ℕ → Output → Type 0
HasOutput told name output = (text : List ℕ) × IsFile told name text × (said_of text ≡ Ok output)

-- the file of this name stops the program, where it is to be an output text
abbrev pub Stops : Option Held → List ℕ → Ending → Type 0
Stops told name Done = ⊥
Stops told name Usage = ⊥
Stops told name (TooLong file) = (file.now ≡ name) × (bytes : List ℕ) × IsTooLong told name 67108864 bytes
Stops told name (BadOutput file line) =
    (file.now ≡ name) × (text : List ℕ) × IsFile told name text × (said_of text ≡ Err line)
Stops told name (BadStyle file number) = ⊥
Stops told name (Unread file) = file.now ≡ name
Stops told name WriteFault = ⊥
Stops told name Memory = ⊤

-- the file of this name says this, and has this drawing, in which each item of an area has its mark
pub record HasDrawing (told : Option Held) (name : List ℕ) (output : Output) (drawing : Drawing) : Type 0 where
  pub says : HasOutput told name output
  pub drawn : drawing ≡ drawing_of output.page_text
  pub shows : IsFaithfulDrawing drawing

-- the file of this name is drawn
abbrev pub IsDrawn : Option Held → List ℕ → Type 0
IsDrawn told name = (output : Output) × (drawing : Drawing) × HasDrawing told name output drawing

-- the other file is drawn, where there is one
abbrev pub IsOtherDrawn : Option Held → Option (List ℕ) → Type 0
IsOtherDrawn told None = ⊤
IsOtherDrawn told (Some name) = IsDrawn told name

-- the number of a fault of a style; want of memory is none
abbrev pub fault_number : StyleKind → Option ℕ
fault_number kind.Memory = None
fault_number other = Some (kind_number other)

-- the file of this name is this style
abbrev pub HasStyle : Option Held → List ℕ → StyleValue → Type 0
HasStyle told name style = (text : List ℕ) × IsFile told name text × (style_of_text text ≡ Ok style)

-- the text is no style, by the fault of this number
pub record IsBadStyle (text : List ℕ) (number : ℕ) : Type 0 where
  pub fault : StyleFault
  pub said : style_of_text text ≡ Err fault
  pub is : fault_number fault.kind ≡ Some number

-- the file of this name stops the program, where it is to be a style
abbrev pub StyleStops : Option Held → List ℕ → Ending → Type 0
StyleStops told name Done = ⊥
StyleStops told name Usage = ⊥
StyleStops told name (TooLong file) = (file.now ≡ name) × (bytes : List ℕ) × IsTooLong told name 67108864 bytes
StyleStops told name (BadOutput file line) = ⊥
StyleStops told name (BadStyle file number) =
    (file.now ≡ name) × (text : List ℕ) × IsFile told name text × IsBadStyle text number
StyleStops told name (Unread file) = file.now ≡ name
StyleStops told name WriteFault = ⊥
StyleStops told name Memory = ⊤

-- the style is read, where one is named
abbrev pub IsStyled : Option Held → Option (List ℕ) → Type 0
IsStyled told None = ⊤
IsStyled told (Some name) = (style : StyleValue) × HasStyle told name style

-- all named files are drawn, under the style that is named
pub record AllDrawn (told : Option Held) (names : Names) : Type 0 where
  pub output : IsDrawn told names.output
  pub other : IsOtherDrawn told names.options.other
  pub style : IsStyled told names.options.style

-- the other file stops the program, where there is one
abbrev pub OtherStops : Option Held → Option (List ℕ) → Ending → Type 0
OtherStops told None ending = ⊥
OtherStops told (Some name) ending = Stops told name ending

-- the style stops the program, where one is named
abbrev pub NamedStyleStops : Option Held → Option (List ℕ) → Ending → Type 0
NamedStyleStops told None ending = ⊥
NamedStyleStops told (Some name) ending = StyleStops told name ending

-- one of the named files stops the program
abbrev pub SomeStops : Option Held → Names → Ending → Type 0
SomeStops told names ending = Stops told names.output ending
    ⊎ (OtherStops told names.options.other ending ⊎ NamedStyleStops told names.options.style ending)

-- how the program may end that draws these: a file of theirs stops it, or all were drawn and written or not
abbrev pub MayDraw : Option Held → Names → Ending → Type 0
MayDraw told names Done = AllDrawn told names
MayDraw told names WriteFault = AllDrawn told names
MayDraw told names Memory = ⊤
MayDraw told names ending = SomeStops told names ending

-- how it may end that tells of itself
abbrev pub MayTell : Ending → Type 0
MayTell Done = ⊤
MayTell WriteFault = ⊤
MayTell ending = ⊥

-- how the program may end over these words
abbrev pub MayEnd : Option Held → Option Asked → Ending → Type 0
MayEnd told None Usage = ⊤
MayEnd told None ending = ⊥
MayEnd told (Some Help) ending = MayTell ending
MayEnd told (Some Version) ending = MayTell ending
MayEnd told (Some (Draw names)) ending = MayDraw told names ending

-- what may be written for what is asked: a page, or what the program tells of itself
abbrev pub IsAnswer : Option Asked → List ℕ → Type 0
IsAnswer None text = ⊥
IsAnswer (Some Help) text = text ≡ help_text
IsAnswer (Some Version) text = text ≡ version_text
IsAnswer (Some (Draw names)) text = ⊤

-- what was written: all of it where the program is done, a front of it where the output failed, and else nothing
abbrev pub Written : Option Asked → Ending → Option (List ℕ) → Option (List ℕ) → Type 0
Written asked Done old new = (text : List ℕ) × IsAnswer asked text × Appends old new text
Written asked WriteFault old new = (text : List ℕ) × IsAnswer asked text × AppendsFront old new text
Written asked ending old new = new ≡ old

-- the line of an ending is written, or a front of it and a fault was counted
abbrev pub SaysLine : Ending → OverSink → Type 0
SaysLine ending say = Appends say.old say.new (line_of ending)
    ⊎ (Rose say.before say.after × AppendsFront say.old say.new (line_of ending))

-- the line of an ending is said, with its status; or there was no memory for the line, and that is said
abbrev pub Said : Ending → OverSink → Status → Type 0
Said ending say end = ((end ≡ status_of ending) × SaysLine ending say)
    ⊎ ((end ≡ status_of Memory) × SaysLine Memory say)

-- the program over the files that a shelf tells, asked this by its words: some ending that may be, with what was written
-- for it, and what was said
pub record Serves (told : Option Held) (asked : Option Asked) (out say : OverSink) (end : Status) : Type 0 where
  pub ending : Ending
  pub may : MayEnd told asked ending
  pub written : Written asked ending out.old out.new
  pub said : Said ending say end
