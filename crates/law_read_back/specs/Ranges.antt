-- The labels whose text reads back.
use Rattle.std.specs.Prelude.{◌≡◌, ◌<◌, ◌≤◌, ◌^◌, ℕ, Bool, true, false, List, Some, None, ℤ, nat_abs}
use Rattle.std.specs.List.{AllByRecursion}
use Rattle.pg_plan.specs.declared.states.Label.{Label}
use Rattle.pg_plan.specs.declared.states.State.{State}
use Rattle.pg_style.specs.Ranges.{max_columns}
use Rattle.law_words.specs.Ranges.{AllBelow, IsPrintedPlace, is_wide}

-- a state's fields are in their ranges; its fitness is there only where it is told
pub record IsPrintedState (fitness : Bool) (u : State) : Type 0 where
  pub place : IsPrintedPlace u.place
  pub column : (1 ≤ u.column) × (u.column ≤ max_columns)
  pub run : (n : ℕ) → u.run ≡ Some n → n < 2 ^ 8
  pub wide : (z : ℤ) → u.wide ≡ Some z → nat_abs z ≤ 2 ^ 60
  pub fitness_in : (n : ℕ) → u.fitness ≡ Some n → n < 4
  pub told : fitness ≡ false → u.fitness ≡ None
  pub placed : AllBelow (2 ^ 16) u.placed
  pub ages : AllBelow (2 ^ 8) u.ages

-- and its cost is one of 128 bits
pub record IsPrintedLabel (fitness : Bool) (label : Label) : Type 0 where
  pub state : IsPrintedState fitness label.state
  pub cost : is_wide label.cost ≡ true

-- all of these labels are
abbrev pub ArePrintedLabels : Bool → List Label → Type 0
ArePrintedLabels fitness labels = AllByRecursion (IsPrintedLabel fitness) labels
