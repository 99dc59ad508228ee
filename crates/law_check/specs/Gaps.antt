-- Labels that are closed but for the columns with other than best picks; and columns that no label covers.
use Rattle.std.specs.Prelude.{◌≡◌, true, List, [], ℤ, pos, ◌+ℤ◌, ◌≤ℤ◌, Contains}
use Rattle.pg_list.specs.GalleyValue.{GalleyValue}
use Rattle.pg_list.specs.declared.galley.Place.{Place}
use Rattle.pg_plan.specs.declared.pages.PageMove.{PageMove}
use Rattle.pg_plan.specs.declared.states.Label.{Label}
use Rattle.pg_plan.specs.declared.states.State.{State}
use Rattle.pg_style.specs.Values.{StyleValue}
use Rattle.pg_rules.specs.Closed.{Covers}
use Rattle.pg_rules.specs.IsState.{IsState}
use Rattle.pg_rules.specs.Legal.{document}
use Rattle.pg_rules.specs.Room.{Document}
use Rattle.pg_rules.specs.States.{state_at, is_done}
use Rattle.law_space.specs.PageSpace.{FollowBest}

-- nothing is left to do in the label's state
abbrev pub is_finished : Document → Label → Type 0
is_finished doc label = is_done doc label.state ≡ true

-- no finished label costs less
abbrev pub NoneCheaper : Document → List Label → ℤ → Type 0
NoneCheaper doc labels n = (label : Label) → Contains labels label → is_finished doc label → n ≤ℤ label.cost

-- no label is finished
abbrev pub NoneFinished : Document → List Label → Type 0
NoneFinished doc labels = (label : Label) → Contains labels label → is_finished doc label → ⊥

-- as `Closed`, with best picks alone
pub record ClosedByBest (galley : GalleyValue) (style : StyleValue) (labels : List Label) : Type 0 where
  pub states : (label : Label) → Contains labels label → IsState (document galley style) label.state
  pub start : Covers labels (state_at (document galley style) []) (pos 0)
  pub steps : (label : Label) (move : PageMove) (next : State) (cost : ℤ) → Contains labels label
      → FollowBest (document galley style) label.state move next cost → Covers labels next (label.cost +ℤ cost)

-- a column that may follow the label ends here, and no label covers what it leads to
pub record Gap (Steps : State → PageMove → State → ℤ → Type 0) (labels : List Label) (label : Label)
    (to : Place) : Type 0 where
  pub move : PageMove
  pub next : State
  pub cost : ℤ
  pub follow : Steps label.state move next cost
  pub ends : move.column.to ≡ to
  pub uncovered : Covers labels next (label.cost +ℤ cost) → ⊥
