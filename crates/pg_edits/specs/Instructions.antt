-- What a line of a script says that has no point in front.
use Rattle.std.specs.Prelude.{ℕ, ◌^◌, ◌-◌, if◌then◌else◌, List, [], ◌∷◌, codes, Option, Some, None, Result, Ok, Err}
use Rattle.std.specs.Option.{option_map}
use Rattle.std.specs.Str.{bytes_eq}
use Rattle.pg_scan.specs.Parts.{word_number}
use Rattle.pg_words.specs.InOrder.{words_of, next, ended}
use Rattle.pg_words.specs.Read.{◌>>=◌}
use Rattle.pg_edits.specs.declared.instruction.Instruction.{Instruction}
use Rattle.pg_edits.specs.declared.instruction.Instruction.TheVariants.{Nothing, Show, Delete, Put}
use Rattle.pg_edits.specs.declared.kinds.ScriptKind.{ScriptKind}
use Rattle.pg_edits.specs.declared.kinds.ScriptKind.TheVariants.{UnknownWord, BadNumber}

-- 1 to 10 digits with a value below 2^32
abbrev pub number_word : List ℕ → Option ℕ
number_word word = word_number 0 (2 ^ 32 - 1) word

-- one number, and no word behind it
unfoldable pub one_number : List (List ℕ) → Option ℕ
one_number words = do
  at ← next number_word words
  end ← ended at.1
  Some at.0

-- two numbers, and no word behind them
unfoldable pub two_numbers : List (List ℕ) → Option (ℕ × ℕ)
two_numbers words = do
  at ← next number_word words
  gone ← next number_word at.1
  end ← ended gone.1
  Some (at.0, gone.0)

-- ---- what the words behind the first say

abbrev pub show_words : List (List ℕ) → Option Instruction
show_words words = option_map (λ _. Show) (ended words)

abbrev pub delete_words : List (List ℕ) → Option Instruction
delete_words words = option_map (λ it. Delete it.0 it.1) (two_numbers words)

abbrev pub insert_words : List (List ℕ) → Option Instruction
insert_words words = option_map (λ at. Put at 0) (one_number words)

abbrev pub replace_words : List (List ℕ) → Option Instruction
replace_words words = option_map (λ it. Put it.0 it.1) (two_numbers words)

-- ---- the whole line

-- words that say nothing are no numbers, or too few or too many
abbrev pub or_bad : Option Instruction → Result Instruction ScriptKind
or_bad None = Err BadNumber
or_bad (Some said) = Ok said

-- the first word tells what the others are
unfoldable pub words_said : List (List ℕ) → Result Instruction ScriptKind
words_said [] = Err UnknownWord
words_said (word ∷ words) =
    if bytes_eq word (codes "show") then or_bad (show_words words)
    else if bytes_eq word (codes "delete") then or_bad (delete_words words)
    else if bytes_eq word (codes "insert") then or_bad (insert_words words)
    else if bytes_eq word (codes "replace") then or_bad (replace_words words)
    else Err UnknownWord

-- an empty line says nothing
unfoldable pub instruction_of : List ℕ → Result Instruction ScriptKind
instruction_of line = if bytes_eq line [] then Ok Nothing else words_said (words_of line)
