-- What a script says: the steps of its parts, one behind the other, and the blocks of its item lines.
use Rattle.std.specs.Prelude.{◌≡◌, ◌≤◌, ℕ, ◌+◌, take_while, List, [], ◌++◌, length, Result, Ok, Err}
use Rattle.pg_list.specs.Counts.{item_count, item_limit}
use Rattle.pg_list.specs.declared.blocks.Block.{Block}
use Rattle.pg_scan.specs.Lines.{has_point, raw_lines}
use Rattle.pg_edits.specs.Script.{blocks_at, script_of}
use Rattle.pg_edits.specs.declared.kinds.ScriptFault.{ScriptFault}
use Rattle.pg_edits.specs.declared.script.ScriptStep.{ScriptStep}
use Rattle.law_readers.specs.Galleys.{SaysBlock}
use Rattle.law_readers.specs.InOrder.{InOrder}

-- the script has the lines of the first part, and behind them those of the second, which begins with no item line
pub record IsCutScript (script first second : List ℕ) : Type 0 where
  pub lines : raw_lines script ≡ raw_lines first ++ raw_lines second
  pub begins : take_while has_point (raw_lines second) ≡ []

-- a fault so many lines further down
abbrev pub further_down : ℕ → ScriptFault → ScriptFault
further_down lines fault = record fault { line = fault.line + lines }

-- the steps of both parts, or the first fault; the second part stands so many lines further down
abbrev pub Both : ℕ → Result (List ScriptStep) ScriptFault → Result (List ScriptStep) ScriptFault →
    Result (List ScriptStep) ScriptFault → Type 0
Both lines (Ok first) (Ok second) all = all ≡ Ok (first ++ second)
Both lines (Ok first) (Err fault) all = all ≡ Err (further_down lines fault)
Both lines (Err fault) second all = all ≡ Err fault

-- what is read of a script is what is read of its parts
abbrev pub ReadsPartByPart : Type 0
ReadsPartByPart = (script first second : List ℕ) → IsCutScript script first second →
    Both (length (raw_lines first)) (script_of first) (script_of second) (script_of script)

-- the blocks that are read of item lines are those that they say, as in a listing
abbrev pub ReadsItsItemLines : Type 0
ReadsItsItemLines = (first : ℕ) (lines : List (List ℕ)) (blocks : List Block) → blocks_at first lines ≡ Ok blocks →
    InOrder SaysBlock lines blocks

-- and what they say is read, where these are no more items than a galley may have
abbrev pub ItemLinesAreRead : Type 0
ItemLinesAreRead = (first : ℕ) (lines : List (List ℕ)) (blocks : List Block) → InOrder SaysBlock lines blocks →
    item_count blocks ≤ item_limit → blocks_at first lines ≡ Ok blocks
