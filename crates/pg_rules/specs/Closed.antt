-- Labels that by themselves show that no pagination costs less.
use Rattle.std.specs.Prelude.{◌≡◌, true, List, [], ℤ, pos, ◌+ℤ◌, ◌≤ℤ◌, Contains}
use Rattle.pg_list.specs.GalleyValue.{GalleyValue}
use Rattle.pg_plan.specs.declared.pages.PageMove.{PageMove}
use Rattle.pg_plan.specs.declared.states.Label.{Label}
use Rattle.pg_plan.specs.declared.states.State.{State}
use Rattle.pg_style.specs.Values.{StyleValue}
use Rattle.pg_rules.specs.Follow.{Follow}
use Rattle.pg_rules.specs.IsState.{IsState}
use Rattle.pg_rules.specs.Legal.{document}
use Rattle.pg_rules.specs.NoWorse.{is_no_worse}
use Rattle.pg_rules.specs.States.{state_at}

-- some label has a state that is no worse, at no greater cost
pub record Covers (labels : List Label) (state : State) (cost : ℤ) : Type 0 where
  pub label : Label
  pub listed : Contains labels label
  pub no_worse : is_no_worse label.state state ≡ true
  pub no_dearer : label.cost ≤ℤ cost

-- each label is a state; the start is covered, and whatever follows a label
pub record Closed (galley : GalleyValue) (style : StyleValue) (labels : List Label) : Type 0 where
  pub states : (label : Label) → Contains labels label → IsState (document galley style) label.state
  pub start : Covers labels (state_at (document galley style) []) (pos 0)
  pub steps : (label : Label) (move : PageMove) (next : State) (cost : ℤ) → Contains labels label
      → Follow (document galley style) label.state move next cost → Covers labels next (label.cost +ℤ cost)
