-- What is kept of the columns judged so far.
use Rattle.std.specs.Prelude.{◌≡◌, ℕ, ◌+◌, ◌*◌, ◌^◌, ◌≤◌, Bool, false, ◌==◌, if◌then◌else◌, List, [], ◌∷◌, ◌++◌, length, ℤ, reverse, Option, Some, None, option_map, nat_abs}
use Rattle.pg_plan.specs.declared.pages.Column.{Column}
use Rattle.pg_plan.specs.declared.pages.PageMove.{PageMove}
use Rattle.pg_style.specs.Values.{StyleValue}
use Rattle.pg_rules.specs.Cost.{cost_of}
use Rattle.pg_rules.specs.Floats.{float_numbers, plus_counts}
use Rattle.pg_rules.specs.History.{fitness_of, last_run, next_column, next_page, place_of, placed_after, placed_of, wide_of, with_wide}
use Rattle.pg_rules.specs.Legal.{first_at_fault, is_chained}
use Rattle.pg_rules.specs.Room.{Document}
use Rattle.pg_floats.specs.Counts.{capped}
use Rattle.pg_floats.specs.Given.{IsWideHeight}
use Rattle.pg_judge.specs.Moves.{page_ends}
use Rattle.pg_judge.specs.Verdict.{broken_by, first_false, lesser, tests_on}
use Rattle.pg_judge.specs.declared.added.Counted.{Counted}
use Rattle.pg_judge.specs.declared.progress.Broken.{Broken}
use Rattle.pg_judge.specs.declared.progress.Progress.{Progress}

-- the rule and the column
abbrev pub broken_pair : Option Broken → Option (ℕ × ℕ)
broken_pair broken = option_map (λ (it : Broken). (it.rule, it.column)) broken

-- a column was found that does not go on from the one before
abbrev pub is_lost : Option Broken → Bool
is_lost None = false
is_lost (Some broken) = broken.rule == 2

-- numbers within their ranges
pub record IsKept (style : StyleValue) (it : Progress) : Type 0 where
  pub slots : it.slots ≡ length (float_numbers style)
  pub few : it.slots ≤ 8
  pub column : it.column ≤ style.columns
  pub page : it.page ≤ it.number + 1
  pub wide : IsWideHeight it.wide
  pub cost : nat_abs it.cost ≤ 2 ^ 70 * it.number

-- the fitness of the last text, and what is paid
pub record IsPaid (doc : Document) (ms : List PageMove) (it : Progress) : Type 0 where
  pub fitness : it.fitness ≡ fitness_of doc ms
  pub cost : it.cost ≡ cost_of doc ms

-- what the columns so far say of the next one
pub record IsGoing (doc : Document) (ms : List PageMove) (it : Progress) : Type 0 where
  pub chained : first_at_fault (is_chained doc) ms ≡ None
  pub column : it.column ≡ next_column doc.style ms
  pub page : it.page ≡ next_page doc.style ms
  pub at : it.at ≡ place_of ms
  pub run : it.run ≡ last_run ms
  pub wide : it.wide ≡ wide_of doc ms
  pub placed : it.placed ≡ capped (placed_of doc.style ms)
  pub turns : reverse it.turns.items ≡ page_ends doc.style ms
  pub paid : it.broken ≡ None → IsPaid doc ms it

-- the least rule broken so far, and what goes on where each column goes on from the one before
pub record IsProgress (doc : Document) (ms : List PageMove) (it : Progress) : Type 0 where
  pub number : it.number ≡ length ms
  pub broken : broken_pair it.broken ≡ broken_by doc ms
  pub going : is_lost it.broken ≡ false → IsGoing doc ms it

-- the floats placed before a column's top area, before its bottom area, and behind it
pub record AreCounted (style : StyleValue) (placed : List ℕ) (m : PageMove) (it : Counted) : Type 0 where
  pub before : it.before ≡ capped (with_wide style placed m)
  pub below : it.below ≡ capped (plus_counts style (with_wide style placed m) m.column.top)
  pub after : it.after ≡ capped (placed_after style placed m)

-- the least rule that a column behind others breaks, and where it breaks none the last text's fitness and what is paid
pub record IsOutcome (doc : Document) (m : PageMove) (ms : List PageMove) (old : Progress) (fitness rule : Option ℕ)
    (cost : ℤ) : Type 0 where
  pub rule_is : rule ≡ first_false 2 (tests_on doc m ms)
  pub fitness_is : rule ≡ None → IsPaid doc ms old → fitness ≡ fitness_of doc (m ∷ ms)
  pub cost_is : rule ≡ None → IsPaid doc ms old → cost ≡ cost_of doc (m ∷ ms)

-- one column on
pub record IsAdvanced (style : StyleValue) (column : Column) (run : ℕ) (wide : Option ℤ) (after : List ℕ)
    (fitness rule : Option ℕ) (cost : ℤ) (old new : Progress) : Type 0 where
  pub slots : new.slots ≡ old.slots
  pub number_is : new.number ≡ old.number + 1
  pub column_is : new.column ≡ (if old.column == style.columns then 1 else old.column + 1)
  pub page_is : new.page ≡ (if old.column == style.columns then old.page + 1 else old.page)
  pub at_is : new.at ≡ column.to
  pub run_is : new.run ≡ Some run
  pub wide_is : new.wide ≡ wide
  pub placed_is : new.placed ≡ after
  pub turns_are : new.turns.items ≡ (if old.column == style.columns then old.turns.items ++ column.to ∷ [] else old.turns.items)
  pub fitness_is : new.fitness ≡ fitness
  pub broken_is : broken_pair new.broken ≡ lesser (broken_pair old.broken) rule (old.number + 1)
  pub cost_is : new.cost ≡ cost

-- a column of a page with this run and these wide counts
abbrev pub the_move : Column → ℕ → List ℕ → PageMove
the_move column run wide = record { column = column; run = run; wide = wide }
