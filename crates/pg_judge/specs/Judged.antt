-- What is judged of one column by itself.
use Rattle.std.specs.Prelude.{◌≡◌, ℕ, if◌then◌else◌, Option, Some, None, Result, Ok, Err}
use Rattle.pg_rules.specs.Cost.{column_demerits}
use Rattle.pg_rules.specs.History.{column_fitness}
use Rattle.pg_rules.specs.Room.{ColumnContext, is_text}
use Rattle.pg_column.specs.Judged.{text_fault}
use Rattle.pg_judge.specs.declared.judged.ColumnCost.{ColumnCost}

-- the fitness of a text
abbrev pub own_fitness : ColumnContext → Option ℕ
own_fitness it = if is_text it then Some (column_fitness it) else None

-- what a column costs by itself
pub record IsColumnCost (it : ColumnContext) (cost : ColumnCost) : Type 0 where
  pub demerits : cost.demerits ≡ column_demerits it
  pub fitness : cost.fitness ≡ own_fitness it

-- the cost of a column, or the least rule on its text that it breaks
abbrev pub JudgesColumn : ColumnContext → Result ColumnCost ℕ → Type 0
JudgesColumn it (Ok cost) = (text_fault it ≡ None) × IsColumnCost it cost
JudgesColumn it (Err rule) = text_fault it ≡ Some rule
