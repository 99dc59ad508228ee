-- What an edit script says, or its first line at fault.
use Rattle.std.specs.Prelude.{◌≡◌, ⊤, ℕ, ◌+◌, ◌==◌, Bool, false, if◌then◌else◌, List, [], ◌∷◌, length, take_while, Option, Some, None, Result, Ok, Err}
use Rattle.std.specs.List.{cons_option}
use Rattle.pg_list.specs.declared.blocks.Block.{Block}
use Rattle.pg_scan.specs.Lines.{joined, raw_lines, has_point}
use Rattle.pg_showbox.specs.Reading.{at_line, run, then_ok}
use Rattle.pg_showbox.specs.State.{ended, started}
use Rattle.pg_showbox.specs.declared.kinds.ListFault.{ListFault}
use Rattle.pg_showbox.specs.declared.state.Within.TheVariants.{Listing}
use Rattle.pg_edits.specs.Instructions.{instruction_of}
use Rattle.pg_edits.specs.declared.instruction.Instruction.{Instruction}
use Rattle.pg_edits.specs.declared.instruction.Instruction.TheVariants as said
use Rattle.pg_edits.specs.declared.kinds.ScriptFault.{ScriptFault}
use Rattle.pg_edits.specs.declared.kinds.ScriptKind.{ScriptKind}
use Rattle.pg_edits.specs.declared.kinds.ScriptKind.TheVariants.{UnknownWord, NoBlocks, Blocks, Memory}
use Rattle.pg_edits.specs.declared.script.ScriptStep.{ScriptStep}
use Rattle.pg_edits.specs.declared.script.ScriptStep.TheVariants.{Change, Show}

-- a fault of this line
abbrev pub fault_at : ℕ → ScriptKind → ScriptFault
fault_at line kind = record { line = line; kind = kind }

-- what is read behind what was read
infixl 10 ◌>>=◌
abbrev pub ◌>>=◌ : {A B : Type 0} → Result A ScriptFault → (A → Result B ScriptFault) → Result B ScriptFault
(Ok x) >>= f = f x
(Err fault) >>= f = Err fault

-- ---- item lines

-- no item line stands behind the line of this number
abbrev pub no_items : ℕ → List (List ℕ) → Result (Unit {0}) ScriptFault
no_items number [] = Ok tt
no_items number (item ∷ items) = Err (fault_at (number + 1) UnknownWord)

-- the blocks of item lines, the first of which has this number
unfoldable pub blocks_at : ℕ → List (List ℕ) → Result (List Block) ListFault
blocks_at first items = then_ok (then_ok (run false (started Listing) (joined None first items))
    (λ s. at_line (first + length items) (ended s s.within))) (λ s. Ok s.blocks)

-- a fault of item lines is told with its kind
abbrev pub as_blocks : Result (List Block) ListFault → Result (List Block) ScriptFault
as_blocks (Ok blocks) = Ok blocks
as_blocks (Err fault) = Err (fault_at fault.line (Blocks fault.kind))

-- the blocks of the item lines behind the line of this number, of which there is one at least
abbrev pub items_said : ℕ → List (List ℕ) → Result (List Block) ScriptFault
items_said number [] = Err (fault_at number NoBlocks)
items_said number (item ∷ items) = as_blocks (blocks_at (number + 1) (item ∷ items))

-- ---- one line, with the item lines behind it

-- the edit that puts these blocks in the place of others
abbrev pub change : ℕ → ℕ → List Block → Option ScriptStep
change at gone fresh = Some (Change (record { at = at; gone = gone; fresh = fresh }))

-- the step of an instruction with this number
unfoldable pub step_said : ℕ → Instruction → List (List ℕ) → Result (Option ScriptStep) ScriptFault
step_said number said.Nothing items = no_items number items >>= (λ _. Ok None)
step_said number said.Show items = no_items number items >>= (λ _. Ok (Some Show))
step_said number (said.Delete at gone) items = no_items number items >>= (λ _. Ok (change at gone []))
step_said number (said.Put at gone) items = items_said number items >>= (λ fresh. Ok (change at gone fresh))

-- a fault of the line of this number
abbrev pub told : {A : Type 0} → ℕ → Result A ScriptKind → Result A ScriptFault
told number (Ok x) = Ok x
told number (Err kind) = Err (fault_at number kind)

-- the step of a line with this number
unfoldable pub line_said : ℕ → List ℕ → List (List ℕ) → Result (Option ScriptStep) ScriptFault
line_said number line items =
    told number (instruction_of line) >>= (λ instruction. step_said number instruction items)

-- ---- all lines

-- the steps of lines, the first of which has this number: of each line without a point, with the item lines directly
-- behind it
unfoldable pub steps_from : ℕ → List (List ℕ) → Result (List ScriptStep) ScriptFault
steps_from number [] = Ok []
steps_from number (line ∷ lines) = if has_point line then steps_from (number + 1) lines
    else (line_said number line (take_while has_point lines)
    >>= (λ step. steps_from (number + 1) lines >>= (λ later. Ok (cons_option step later))))

-- the steps of a script, or its first fault; item lines in front stand behind no line
unfoldable pub script_of : List ℕ → Result (List ScriptStep) ScriptFault
script_of text = no_items 0 (take_while has_point (raw_lines text)) >>= (λ _. steps_from 1 (raw_lines text))

-- ---- answers

abbrev pub OrMemory : ScriptKind → Type 0 → Type 0
OrMemory Memory P = ⊤
OrMemory _ P = P

-- the answer, unless memory ran out
abbrev pub Gives : {X : Type 0} → Result X ScriptFault → Result X ScriptFault → Type 0
Gives (Ok x) said = said ≡ Ok x
Gives (Err fault) said = OrMemory fault.kind (said ≡ Err fault)
