-- A column that follows a state where it follows a worse one.
use Rattle.std.specs.Prelude.{◌≡◌, true, ℤ, ◌≤ℤ◌}
use Rattle.pg_plan.specs.declared.pages.PageMove.{PageMove}
use Rattle.pg_plan.specs.declared.states.State.{State}
use Rattle.pg_rules.specs.Follow.{Follow}
use Rattle.pg_rules.specs.NoWorse.{is_no_worse}
use Rattle.pg_rules.specs.Room.{Document}

-- the column follows the state too, at a cost that is not greater, to a state that is no worse
pub record FollowsToo (doc : Document) (u : State) (m : PageMove) (v : State) (c : ℤ) : Type 0 where
  pub to : State
  pub cost : ℤ
  pub follow : Follow doc u m to cost
  pub cheap : cost ≤ℤ c
  pub no_worse : is_no_worse to v ≡ true
