-- What a check of an output text answers, and what it tells.
use Rattle.std.specs.Prelude.{ℕ, List, ◌++◌, codes, Option, Some, None, Result, Ok, Err, ℤ}
use Rattle.pg_list.specs.GalleyValue.{GalleyValue}
use Rattle.pg_style.specs.Values.{StyleValue}
use Rattle.pg_words.specs.Written.{whole_text}
use Rattle.pg_labels.specs.declared.output.Output.{Output}
use Rattle.law_check.specs.Faults.{IsFirstFault, IsProved}
use Rattle.law_check.specs.CheckLaws.{ShowsSolution, ShowsTruth}
use Rattle.law_check.specs.declared.answers.No.{No}
use Rattle.law_check.specs.declared.answers.Proved.{Proved}
use Rattle.pg_course.specs.Made.{made_labels}

-- all tests pass, and what the output shows is true: its pagination is legal, has the cost and the page text that stand
-- there, and no legal one costs less; or no pagination is legal
pub record IsYes (galley : GalleyValue) (style : StyleValue) (output : Output) (proved : Proved) : Type 0 where
  pub passes : IsProved galley style output proved
  pub truth : ShowsTruth galley style output proved.cost

-- this test is the first that fails, and the output does not show what solving the galley tells
pub record IsNo (galley : GalleyValue) (style : StyleValue) (output : Output) (fault : No) : Type 0 where
  pub first : IsFirstFault galley style output fault
  pub unsolved : ShowsSolution galley style output → ⊥

-- the answer of a check
abbrev pub Answers : GalleyValue → StyleValue → Output → Result Proved No → Type 0
Answers galley style output (Ok proved) = IsYes galley style output proved
Answers galley style output (Err fault) = IsNo galley style output fault

-- this cost is proved
unfoldable pub proved_cost : ℤ → List ℕ
proved_cost cost = codes "proved cost " ++ whole_text cost

-- it is proved that none is legal
unfoldable pub proved_none : List ℕ
proved_none = codes "proved no legal pagination"

-- what is proved
abbrev pub proved_text : Option ℤ → List ℕ
proved_text (Some cost) = proved_cost cost
proved_text None = proved_none

-- the line of a yes: what is proved, and by how many labels
abbrev pub yes_line : Proved → List ℕ
yes_line proved = proved_text proved.cost ++ made_labels proved.labels
