-- What is told of the files of a shelf, and how the program ends.
use Rattle.std.specs.Prelude.{◌≡◌, ◌<◌, ◌^◌, ℕ, ◌⊎◌, List, [], length, ⊤, Option, Some, None, Ok, Err}
use Rattle.std.specs.Io.KnownBytes.{Appends}
use Rattle.pg_alone.specs.Alone.{FindsAlone}
use Rattle.pg_alone.specs.Notes.{high_note}
use Rattle.pg_changes.specs.Changes.{AreHelping}
use Rattle.pg_command.specs.Lines.{Says, status_of}
use Rattle.pg_command.specs.Words.{StyleName, named, plain}
use Rattle.pg_command.specs.declared.ending.Ending.{Ending}
use Rattle.pg_command.specs.declared.ending.Ending.TheVariants as ending
use Rattle.pg_command.specs.declared.status.Status.{Status}
use Rattle.pg_floats.specs.AreFloats.{float_total, unknown_class}
use Rattle.pg_furthest.specs.Furthest.{StandsAt}
use Rattle.pg_list.specs.GalleyValue.{GalleyValue}
use Rattle.pg_outside.specs.Outside.{AppendsFront, Held, IsFile, IsTooLong, OverSink}
use Rattle.pg_pieces.specs.declared.letters.Form.{Form}
use Rattle.pg_parts.specs.Parts.{part_sum}
use Rattle.pg_plan.specs.Order.{columns}
use Rattle.pg_plan.specs.declared.pages.Pagination.{Pagination}
use Rattle.pg_rules.specs.Best.{Best}
use Rattle.pg_rules.specs.Cost.{cost}
use Rattle.pg_rules.specs.Legal.{Legal, document}
use Rattle.pg_showbox.specs.Reading.{galley_of}
use Rattle.pg_style.specs.Plain as plain_values
use Rattle.pg_style.specs.Values.{StyleValue}
use Rattle.pg_stylefile.specs.Style.{style_of_text}
use Rattle.pg_tell.specs.Lines.{Begins, none_front, own_line, pages_front, refusal_front}
use Rattle.pg_tell.specs.Words.{Command, pages}
use Rattle.pg_tell.specs.declared.findings.Findings.{Findings}

-- ---- files

-- the file of this name has so many bytes that it is not read
abbrev pub IsLong : Option Held → List ℕ → Type 0
IsLong told name = (bytes : List ℕ) × IsTooLong told name 67108864 bytes

-- the style of this name: that of its file, or the plain one of its height
abbrev pub HasStyle : Option Held → StyleName → StyleValue → Type 0
HasStyle told (named name) style = (text : List ℕ) × IsFile told name text × (style_of_text text ≡ Ok style)
HasStyle told (plain height) style = style ≡ plain_values.plain height

-- the galley of this name, with lines joined at this width
abbrev pub HasGalley : Option Held → List ℕ → Option ℕ → GalleyValue → Type 0
HasGalley told name wrap galley = (text : List ℕ) × IsFile told name text × (galley_of text wrap ≡ Ok galley)

-- this ending, or want of memory
abbrev pub OrMemory : Ending → Ending → Type 0
OrMemory cause end = (end ≡ cause) ⊎ (end ≡ ending.Memory)

-- a file that is not fetched stops the program
abbrev pub FetchStops : Option Held → List ℕ → Ending → Type 0
FetchStops told name (ending.TooLong file) = (file.now ≡ name) × IsLong told name
FetchStops told name (ending.Unread file) = file.now ≡ name
FetchStops told name ending.Memory = ⊤
FetchStops told name cause = ⊥

-- the file of a style stops the program
abbrev pub FileStops : Option Held → List ℕ → Ending → Type 0
FileStops told name (ending.BadStyle file fault) =
    (file.now ≡ name) × (text : List ℕ) × IsFile told name text × (style_of_text text ≡ Err fault)
FileStops told name cause = FetchStops told name cause

abbrev pub StyleStops : Option Held → StyleName → Ending → Type 0
StyleStops told (named name) cause = FileStops told name cause
StyleStops told (plain height) cause = ⊥

-- the file of a galley stops the program
abbrev pub GalleyStops : Option Held → List ℕ → Option ℕ → Ending → Type 0
GalleyStops told name wrap (ending.BadList file fault) =
    (file.now ≡ name) × (text : List ℕ) × IsFile told name text × (galley_of text wrap ≡ Err fault)
GalleyStops told name wrap cause = FetchStops told name cause

-- a galley that cannot be paginated under a style stops the program: the style lacks a class, or there are too many
-- floats
abbrev pub ClassesStop : GalleyValue → StyleValue → Ending → Type 0
ClassesStop galley style (ending.UnknownClass number) = unknown_class galley.blocks style ≡ Some number
ClassesStop galley style (ending.TooManyFloats count) =
    (unknown_class galley.blocks style ≡ None) × (count ≡ float_total galley.blocks style) × (2 ^ 12 < count)
ClassesStop galley style ending.Memory = ⊤
ClassesStop galley style cause = ⊥

-- a style and a galley stop the program: the style first, then the galley, then both together
abbrev pub Stops : Option Held → StyleName → List ℕ → Option ℕ → Ending → Type 0
Stops told style_name name wrap cause = StyleStops told style_name cause
    ⊎ ((style : StyleValue) × HasStyle told style_name style × (GalleyStops told name wrap cause
    ⊎ ((galley : GalleyValue) × HasGalley told name wrap galley × ClassesStop galley style cause)))

-- ---- what is written

-- all of a text that begins so
abbrev pub WritesAll : List ℕ → Option (List ℕ) → Option (List ℕ) → Type 0
WritesAll front old new = (text : List ℕ) × Begins front text × Appends old new text

-- a front of some text
abbrev pub WritesFront : Option (List ℕ) → Option (List ℕ) → Type 0
WritesFront old new = (text : List ℕ) × AppendsFront old new text

-- a text that begins so is told, and the program ends in this way: all of it is written; or a front, where the output
-- failed; or nothing, where memory ran out
abbrev pub IsTold : List ℕ → Ending → Ending → Option (List ℕ) → Option (List ℕ) → Type 0
IsTold front cause end old new = ((end ≡ cause) × WritesAll front old new)
    ⊎ (((end ≡ ending.WriteFault) × WritesFront old new) ⊎ ((end ≡ ending.Memory) × (new ≡ old)))

-- what is found of a galley under a style that has no legal pagination: a float that no column can hold and a note above
-- its limit, if there are some; changes that help; and the furthest place of a beginning
pub record AreFindings (galley : GalleyValue) (style : StyleValue) (found : Findings) : Type 0 where
  pub alone : FindsAlone galley style found.alone
  pub note : found.note ≡ high_note galley style
  pub helping : AreHelping galley style found.helping
  pub standing : StandsAt galley style found.standing

-- it is told, or nothing, where memory ran out
abbrev pub TellsNone : Form → GalleyValue → StyleValue → Ending → Option (List ℕ) → Option (List ℕ) → Type 0
TellsNone form galley style end old new = ((found : Findings) × AreFindings galley style found
    × IsTold (none_front form found) ending.NoLegal end old new) ⊎ ((end ≡ ending.Memory) × (new ≡ old))

-- of a galley under a style: how many pages the best pagination has, with its cost and the parts of that; or that none is
-- legal; or nothing, where memory ran out
abbrev pub TellsPages : Form → GalleyValue → StyleValue → Ending → Option (List ℕ) → Option (List ℕ) → Type 0
TellsPages form galley style end old new =
    ((plan : Pagination) × Best galley style plan
    × IsTold (pages_front form (length plan.pages) (cost galley style plan)
    (part_sum (document galley style) (columns plan))) ending.Done end old new)
    ⊎ ((((plan : Pagination) → Legal galley style plan → ⊥) × TellsNone form galley style end old new)
    ⊎ ((end ≡ ending.Memory) × (new ≡ old)))

-- these files have this galley and style
abbrev pub HasFiles : Option Held → StyleName → List ℕ → Option ℕ → GalleyValue → StyleValue → Type 0
HasFiles told style_name name wrap galley style = HasStyle told style_name style × HasGalley told name wrap galley

-- of files: what stops the program, or the pages
abbrev pub TellsFiles : Option Held → StyleName → List ℕ → Option ℕ → Form → Ending → Option (List ℕ) → Option (List ℕ) →
    Type 0
TellsFiles told style_name name wrap form end old new =
    ((cause : Ending) × Stops told style_name name wrap cause × IsTold (refusal_front form cause) cause end old new)
    ⊎ ((galley : GalleyValue) × (style : StyleValue) × HasFiles told style_name name wrap galley style
    × TellsPages form galley style end old new)

-- what the words ask for
abbrev pub Tells : Option Held → Option Command → Ending → Option (List ℕ) → Option (List ℕ) → Type 0
Tells told None end old new = (end ≡ ending.Usage) × (new ≡ old)
Tells told (Some (pages style name wrap form)) end old new = TellsFiles told style name wrap form end old new
Tells told (Some itself) end old new = IsTold [] ending.Done end old new

-- the program over the files that a shelf tells: what its words ask for is told, the line of its end is said, and it
-- ends with the status of that
pub record Serves (told : Option Held) (command : Option Command) (out say : OverSink) (end : Status) : Type 0 where
  pub ending : Ending
  pub tells : Tells told command ending out.old out.new
  pub says : Says say.old say.new say.before say.after (own_line ending)
  pub status : end ≡ status_of ending
