-- What contracts see of a session.
use Rattle.std.specs.Prelude.{ℕ, Bool, List}
use Rattle.pg_floats.specs.FloatsValue.{ClassFloatsValue}
use Rattle.pg_list.specs.GalleyValue.{GalleyValue}
use Rattle.pg_plan.specs.declared.states.Label.{Label}
use Rattle.pg_style.specs.Values.{StyleValue}

-- a galley under a style with its floats; whether it is solved as it stands, and then its labels; and the block below
-- which an earlier solution still holds
pub record SessionValue : Type 0 where
  pub galley : GalleyValue
  pub style : StyleValue
  pub floats : List ClassFloatsValue
  pub is_solved : Bool
  pub labels : List Label
  pub touched : ℕ
