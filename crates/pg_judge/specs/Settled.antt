-- What is answered of a whole pagination.
use Rattle.std.specs.Prelude.{◌≡◌, ℕ, Bool, not, if◌then◌else◌, List, Option, Some, None, Result, Ok, Err, ℤ}
use Rattle.pg_list.specs.GalleyValue.{GalleyValue}
use Rattle.pg_plan.specs.declared.pages.PageMove.{PageMove}
use Rattle.pg_plan.specs.declared.pages.Pagination.{Pagination}
use Rattle.pg_style.specs.Values.{StyleValue}
use Rattle.pg_rules.specs.Cost.{cost, cost_of}
use Rattle.pg_rules.specs.Legal.{breach}
use Rattle.pg_rules.specs.Room.{Document}
use Rattle.pg_judge.specs.Verdict.{broken_at_end}
use Rattle.pg_judge.specs.declared.rule.JudgeFault.{JudgeFault}
use Rattle.pg_judge.specs.declared.rule.JudgeFault.TheVariants.{Broken, Memory}

-- the rule that is broken behind the last column
abbrev pub end_fault : Bool → Bool → Option ℕ
end_fault spent dealt = if not spent then Some 2 else (if not dealt then Some 8 else None)

-- the cost of all columns, or the least of rules 2 to 14 that is broken; or memory ran out
abbrev pub Settles : Document → List PageMove → Result ℤ JudgeFault → Type 0
Settles doc ms (Ok paid) = (broken_at_end doc ms ≡ None) × (paid ≡ cost_of doc ms)
Settles doc ms (Err (Broken rule column)) = broken_at_end doc ms ≡ Some (rule, column)
Settles doc ms (Err Memory) = Unit {0}

-- the cost where no rule is broken, or the least rule that is broken and its least column; or memory ran out
abbrev pub JudgesPlan : GalleyValue → StyleValue → Pagination → Result ℤ JudgeFault → Type 0
JudgesPlan galley style plan (Ok paid) = (breach galley style plan ≡ None) × (paid ≡ cost galley style plan)
JudgesPlan galley style plan (Err (Broken rule column)) = breach galley style plan ≡ Some (rule, column)
JudgesPlan galley style plan (Err Memory) = Unit {0}

-- what is broken, or the cost
abbrev pub answered : Option (ℕ × ℕ) → ℤ → Result ℤ JudgeFault
answered None paid = Ok paid
answered (Some (rule, column)) paid = Err (Broken rule column)
