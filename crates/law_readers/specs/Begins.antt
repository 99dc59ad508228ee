-- Lines that begin an output text.
use Rattle.std.specs.Prelude.{◌≡◌, ◌<◌, ◌^◌, ℕ, suc, Bool, List, length, take, Some, Ok, Err}
use Rattle.std.specs.List.{AllByRecursion}
use Rattle.std.specs.Str.Parse.{digits_value}
use Rattle.pg_scan.specs.Parts.{parts_of}
use Rattle.pg_words.specs.InOrder.{words_of}
use Rattle.pg_labels.specs.LabelLines.{count_of}
use Rattle.pg_labels.specs.Reading.{output_of}
use Rattle.pg_labels.specs.declared.output.Output.{Output}

-- some output text has these lines in front, each with its line feed
pub record BeginsOutput (lines : List (List ℕ)) : Type 0 where
  pub text : List ℕ
  pub output : Output
  pub is : output_of text ≡ Ok output
  pub has_lines : length lines < length (parts_of 10 text)
  pub same : take (length lines) (parts_of 10 text) ≡ lines

-- where the line says how many labels follow, these are fewer than 2^64
abbrev pub SaysFewLabels : List ℕ → Type 0
SaysFewLabels line = (fitness : Bool) (count : List ℕ) → count_of (words_of line) ≡ Some (fitness, count) →
    digits_value 10 count < 2 ^ 64

-- the lines in front of a fault begin an output text
abbrev pub OutputsBeginBeforeFaults : Type 0
OutputsBeginBeforeFaults = (text : List ℕ) (before : ℕ) → output_of text ≡ Err (suc before) →
    AllByRecursion SaysFewLabels (take before (parts_of 10 text)) → BeginsOutput (take before (parts_of 10 text))

-- with the line at fault they begin none
abbrev pub NoOutputsBeginAtFaults : Type 0
NoOutputsBeginAtFaults = (text : List ℕ) (line : ℕ) → output_of text ≡ Err line → line < length (parts_of 10 text) →
    BeginsOutput (take line (parts_of 10 text)) → ⊥
