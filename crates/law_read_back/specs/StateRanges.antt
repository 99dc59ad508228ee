-- The labels that are states.
use Rattle.std.specs.Prelude.{◌≡◌, true, List}
use Rattle.std.specs.List.{AllByRecursion}
use Rattle.pg_plan.specs.declared.states.Label.{Label}
use Rattle.pg_rules.specs.IsState.{IsState}
use Rattle.pg_rules.specs.Room.{Document}
use Rattle.law_words.specs.Ranges.{is_wide}

-- a label that is a state, with a cost of 128 bits
pub record IsStateInRange (doc : Document) (label : Label) : Type 0 where
  pub is_state : IsState doc label.state
  pub cost : is_wide label.cost ≡ true

-- all of these labels are
abbrev pub AreStatesInRange : Document → List Label → Type 0
AreStatesInRange doc labels = AllByRecursion (IsStateInRange doc) labels
