-- How a run ends: its status, and its line for the user.
use Rattle.std.specs.Prelude.{ℕ, List, [], ◌∷◌, ◌++◌, codes, decimal, Option, ⊤, ◌⊎◌, ℤ}
use Rattle.std.specs.Io.KnownBytes.{Appends}
use Rattle.pg_outside.specs.Outside.{Rose, AppendsFront}
use Rattle.pg_showbox.specs.declared.kinds.ListFault.{ListFault}
use Rattle.pg_showbox.specs.declared.kinds.ListKind.{ListKind}
use Rattle.pg_showbox.specs.Kinds.{kind_number}
use Rattle.pg_stylefile.specs.declared.fault.StyleFault.{StyleFault}
use Rattle.pg_stylefile.specs.Faults as style_faults
use Rattle.pg_list.specs.declared.galley.Place.{Place}
use Rattle.pg_edits.specs.Kinds.{edit_number, script_number}
use Rattle.pg_edits.specs.declared.fault.EditFault.{EditFault}
use Rattle.pg_edits.specs.declared.kinds.ScriptFault.{ScriptFault}
use Rattle.pg_edits.specs.declared.kinds.ScriptKind.{ScriptKind}
use Rattle.pg_edits.specs.declared.kinds.ScriptKind.TheVariants.{Blocks}
use Rattle.pg_words.specs.Written.{place_text, whole_text}
use Rattle.law_check.specs.declared.answers.No.{No}
use Rattle.law_check.specs.declared.answers.No.TheVariants as fails
use Rattle.law_lines.specs.declared.rule.LineFault.{LineFault}
use Rattle.law_lines.specs.declared.rule.LineFault.TheVariants as breaks
use Rattle.pg_floats.specs.declared.fault.FloatFault.{FloatFault}
use Rattle.pg_floats.specs.declared.fault.FloatFault.TheVariants as floats
use Rattle.pg_greedy.specs.declared.fault.GreedyFault.{GreedyFault}
use Rattle.pg_greedy.specs.declared.fault.GreedyFault.TheVariants as fits
use Rattle.pg_command.specs.declared.ending.Ending.{Ending}
use Rattle.pg_command.specs.declared.ending.Ending.TheVariants as ending
use Rattle.pg_command.specs.declared.line.Piece.{Piece}
use Rattle.pg_command.specs.declared.line.Piece.TheVariants.{Text, Bytes, Number, Long, Whole}
use Rattle.pg_command.specs.declared.status.Status.{Status}
use Rattle.pg_command.specs.declared.status.Status.TheVariants as status

-- how the program ends with an ending
abbrev pub status_of : Ending → Status
status_of ending.Done = status.Done
status_of ending.NoLegal = status.NoLegal
status_of ending.Usage = status.Usage
status_of (ending.TooLong name) = status.Refused
status_of (ending.BadList name fault) = status.Refused
status_of (ending.BadStyle name fault) = status.Refused
status_of (ending.UnknownClass class) = status.Refused
status_of (ending.TooManyFloats count) = status.Refused
status_of (ending.BadScript name fault) = status.Refused
status_of (ending.BadEdit step fault) = status.Refused
status_of (ending.BadOutput name line) = status.Refused
status_of (ending.BadParagraph name fault) = status.Refused
status_of (ending.NoFirstFit fault) = status.Refused
status_of (ending.Unread name) = status.ReadFault
status_of ending.WriteFault = status.WriteFault
status_of ending.Memory = status.Memory
status_of (ending.NotProved fault) = status.NotProved

-- how a run ends where a galley has no list of floats
abbrev pub ending_of : FloatFault → Ending
ending_of (floats.Class number) = ending.UnknownClass number
ending_of (floats.Limit count) = ending.TooManyFloats count
ending_of floats.Memory = ending.Memory

-- the numbers of the ends, in their order
abbrev pub exit_number : Status → ℕ
exit_number status.Done = 0
exit_number status.NoLegal = 1
exit_number status.Usage = 2
exit_number status.Refused = 3
exit_number status.ReadFault = 4
exit_number status.WriteFault = 5
exit_number status.Memory = 6
exit_number status.NotProved = 7

-- a line about a file
abbrev pub file_line : List ℕ → List ℕ → List ℕ
file_line name text = codes "pg: " ++ (name ++ (text ++ 10 ∷ []))

-- the words are no command
unfoldable pub usage_line : List ℕ
usage_line = codes "usage: pg run|edit|check|show|make|lines|heads|compare|fold" ++ 10 ∷ []

-- a file has more bytes than it may have
unfoldable pub long_line : List ℕ → List ℕ
long_line name = file_line name (codes ": longer than 67108864 bytes")

-- a galley's text has a fault in this line, of the kind of this number
unfoldable pub list_line : List ℕ → ListFault → List ℕ
list_line name fault =
    codes "pg: " ++ (name ++ (codes ": line " ++ (decimal fault.line ++
    (codes ": list fault " ++ (decimal (kind_number fault.kind) ++ 10 ∷ [])))))

-- an empty key is printed as `-`
abbrev pub key_text : List ℕ → List ℕ
key_text [] = codes "-"
key_text (c ∷ cs) = c ∷ cs

-- a style's text has a fault of the kind of this number at this key
unfoldable pub style_line : List ℕ → StyleFault → List ℕ
style_line name fault =
    codes "pg: " ++ (name ++ (codes ": style fault " ++ (decimal (style_faults.kind_number fault.kind) ++
    (codes " at " ++ (key_text fault.key ++ 10 ∷ [])))))

-- an insert's class is not in the style
unfoldable pub class_line : ℕ → List ℕ
class_line class = codes "pg: class " ++ (decimal class ++ codes " is not in the style\n")

-- a galley has so many floats, which are more than are allowed
unfoldable pub many_line : ℕ → List ℕ
many_line count = codes "pg: " ++ (decimal count ++ codes " floats are too many\n")

-- a script has a fault in this line, of the kind of this number
unfoldable pub order_line : List ℕ → ℕ → ℕ → List ℕ
order_line name line number =
    codes "pg: " ++ (name ++ (codes ": line " ++ (decimal line ++
    (codes ": script fault " ++ (decimal number ++ 10 ∷ [])))))

-- its item lines have a fault in this line, of this kind of a galley's text
unfoldable pub blocks_line : List ℕ → ℕ → ListKind → List ℕ
blocks_line name line kind =
    codes "pg: " ++ (name ++ (codes ": line " ++ (decimal line ++
    (codes ": script fault 4 list fault " ++ (decimal (kind_number kind) ++ 10 ∷ [])))))

-- a script has a fault of this kind in this line
abbrev pub script_kind_line : List ℕ → ℕ → ScriptKind → List ℕ
script_kind_line name line (Blocks kind) = blocks_line name line kind
script_kind_line name line kind = order_line name line (script_number kind)

-- a script has this fault
abbrev pub script_line : List ℕ → ScriptFault → List ℕ
script_line name fault = script_kind_line name fault.line fault.kind

-- a step of a script is refused, of all its steps counted from 1, for the cause of this number
unfoldable pub edit_line : ℕ → EditFault → List ℕ
edit_line step fault =
    codes "pg: step " ++ (decimal step ++ (codes ": edit fault " ++ (decimal (edit_number fault) ++ 10 ∷ [])))

-- the lines of an output text's file up to this one begin none, or it ends in front of it
unfoldable pub no_output_line : List ℕ → ℕ → List ℕ
no_output_line name line =
    codes "pg: " ++ (name ++ (codes ": line " ++ (decimal line ++ codes ": not an output text\n")))

-- a file could not be read
unfoldable pub unread_line : List ℕ → List ℕ
unread_line name = file_line name (codes ": cannot be read")

-- the output failed
unfoldable pub output_line : List ℕ
output_line = codes "pg: output failed" ++ 10 ∷ []

-- memory ran out
unfoldable pub memory_line : List ℕ
memory_line = codes "pg: out of memory" ++ 10 ∷ []

-- a paragraph of a file, counted from 1, has no legal way to be broken into lines
unfoldable pub unbroken_line : List ℕ → ℕ → List ℕ
unbroken_line name paragraph =
    codes "pg: " ++ (name ++ (codes ": paragraph " ++ (decimal paragraph ++ codes " cannot be broken\n")))

-- a file's galley has so many items up to a paragraph, which are more than are allowed
unfoldable pub many_items_line : List ℕ → ℕ → List ℕ
many_items_line name count =
    codes "pg: " ++ (name ++ (codes ": " ++ (decimal count ++ codes " items are too many\n")))

-- the paragraphs of a file make no galley
abbrev pub paragraph_line : List ℕ → LineFault → List ℕ
paragraph_line name (breaks.NoBreak paragraph) = unbroken_line name paragraph
paragraph_line name (breaks.Limit count) = many_items_line name count
paragraph_line name breaks.Memory = memory_line

-- a text about first fit, and the number of a block
unfoldable pub block_line : List ℕ → ℕ → List ℕ
block_line before block = codes "pg: first fit: " ++ (before ++ (codes " at block " ++ (decimal block ++ 10 ∷ [])))

-- a galley has no first fit under a style
abbrev pub no_fit_line : GreedyFault → List ℕ
no_fit_line fits.Columns = codes "pg: first fit: two columns\n"
no_fit_line (fits.Choice block) = block_line (codes "choice") block
no_fit_line (fits.Float block) = block_line (codes "float") block
no_fit_line fits.Memory = memory_line

-- a rule that is broken, and the first column that breaks it
unfoldable pub broken_line : ℕ → ℕ → List ℕ
broken_line rule column =
    codes "pg: not proved 1: rule " ++ (decimal rule ++ (codes " column " ++ (decimal column ++ 10 ∷ [])))

-- the printed cost and the judged one
unfoldable pub costs_line : ℤ → ℤ → List ℕ
costs_line printed judged =
    codes "pg: not proved 2: printed " ++ (whole_text printed ++ (codes " judged " ++ (whole_text judged ++ 10 ∷ [])))

-- a label, and the cost at which it is finished
unfoldable pub undercut_line : ℕ → ℤ → List ℕ
undercut_line label cost =
    codes "pg: not proved 7: label " ++ (decimal label ++ (codes " cost " ++ (whole_text cost ++ 10 ∷ [])))

-- a text and a number
abbrev pub with_number : List ℕ → ℕ → List ℕ
with_number before number = before ++ (decimal number ++ 10 ∷ [])

-- a label, and a place that a column behind it leads to
unfoldable pub open_line : ℕ → Place → List ℕ
open_line label to =
    codes "pg: not proved 6: label " ++ (decimal label ++ (codes " to " ++ (place_text to ++ 10 ∷ [])))

-- the number of the test that fails, and what it names
abbrev pub no_line : No → List ℕ
no_line (fails.Broken rule column) = broken_line rule column
no_line (fails.CostDiffers printed judged) = costs_line printed judged
no_line (fails.PagesDiffer line) = with_number (codes "pg: not proved 3: page text line ") line
no_line (fails.BadLabel label) = with_number (codes "pg: not proved 4: label ") label
no_line fails.NoStart = codes "pg: not proved 5: no start\n"
no_line (fails.NotClosed label to) = open_line label to
no_line (fails.Undercut label cost) = undercut_line label cost
no_line (fails.FinalInNone label) = with_number (codes "pg: not proved 8: label ") label
no_line fails.Memory = memory_line

-- the line of an ending, or nothing
abbrev pub line_of : Ending → List ℕ
line_of ending.Done = []
line_of ending.NoLegal = []
line_of ending.Usage = usage_line
line_of (ending.TooLong name) = long_line name.now
line_of (ending.BadList name fault) = list_line name.now fault
line_of (ending.BadStyle name fault) = style_line name.now fault
line_of (ending.UnknownClass class) = class_line class
line_of (ending.TooManyFloats count) = many_line count
line_of (ending.BadScript name fault) = script_line name.now fault
line_of (ending.BadEdit step fault) = edit_line step fault
line_of (ending.BadOutput name line) = no_output_line name.now line
line_of (ending.BadParagraph name fault) = paragraph_line name.now fault
line_of (ending.NoFirstFit fault) = no_fit_line fault
line_of (ending.Unread name) = unread_line name.now
line_of ending.WriteFault = output_line
line_of ending.Memory = memory_line
line_of (ending.NotProved fault) = no_line fault

-- the line was written, or a front of it and a count rose
abbrev pub Says : Option (List ℕ) → Option (List ℕ) → ℕ → ℕ → List ℕ → Type 0
Says old new before now line = Appends old new line ⊎ (Rose before now × AppendsFront old new line)

-- a fact for the ends at which nothing is said
abbrev pub OnQuiet : Status → Type 0 → Type 0
OnQuiet status.Done P = P
OnQuiet status.NoLegal P = P
OnQuiet end P = ⊤

-- the bytes of a piece; a number is written in decimal digits
abbrev pub piece_text : Piece → List ℕ
piece_text (Text text) = text.now
piece_text (Bytes bytes) = bytes.now
piece_text (Number number) = decimal number
piece_text (Long number) = decimal number
piece_text (Whole number) = whole_text number.now

-- the bytes of all pieces, in turn
abbrev pub line_text : List Piece → List ℕ
line_text [] = []
line_text (piece ∷ pieces) = piece_text piece ++ line_text pieces
