-- The kinds of faults of a script, and of edits.
use Rattle.std.specs.Prelude.{ℕ, ◌≤◌, ⊤}
use Rattle.pg_showbox.specs.Kinds.{kind_number}
use Rattle.pg_showbox.specs.declared.kinds.ListKind.{ListKind}
use Rattle.pg_showbox.specs.declared.kinds.ListKind.TheVariants as list
use Rattle.pg_edits.specs.declared.fault.EditFault.{EditFault}
use Rattle.pg_edits.specs.declared.fault.EditFault.TheVariants as edit
use Rattle.pg_edits.specs.declared.kinds.ScriptKind.{ScriptKind}
use Rattle.pg_edits.specs.declared.kinds.ScriptKind.TheVariants.{UnknownWord, BadNumber, NoBlocks, Blocks, Memory}

-- in their order
abbrev pub script_number : ScriptKind → ℕ
script_number UnknownWord = 1
script_number BadNumber = 2
script_number NoBlocks = 3
script_number (Blocks kind) = 4
script_number Memory = 5

-- item lines are at fault by a kind from 2 to 12
abbrev pub IsScriptKind : ScriptKind → Type 0
IsScriptKind (Blocks kind) = (2 ≤ kind_number kind) × (kind_number kind ≤ 12)
IsScriptKind _ = ⊤

-- how a kind of item lines is told where memory may run out
abbrev pub script_kind : ListKind → ScriptKind
script_kind list.Memory = Memory
script_kind kind = Blocks kind

-- the causes for which an edit is refused, in their order
abbrev pub edit_number : EditFault → ℕ
edit_number (edit.Range at gone len) = 1
edit_number (edit.Limit count) = 2
edit_number (edit.Class number) = 3
edit_number (edit.Floats count) = 4
edit_number edit.Memory = 5
