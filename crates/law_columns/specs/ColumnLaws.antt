-- How states that are no worse go on, in the words of the contract.
use Rattle.std.specs.Prelude.{◌≡◌, true, ℤ}
use Rattle.pg_list.specs.GalleyValue.{GalleyValue}
use Rattle.pg_plan.specs.declared.pages.PageMove.{PageMove}
use Rattle.pg_plan.specs.declared.states.State.{State}
use Rattle.pg_style.specs.Values.{StyleValue}
use Rattle.pg_rules.specs.Follow.{Follow}
use Rattle.pg_rules.specs.Legal.{document}
use Rattle.pg_rules.specs.NoWorse.{is_no_worse}
use Rattle.pg_rules.specs.States.{is_done}
use Rattle.pg_rules.specs.IsState.{IsState}
use Rattle.law_columns.specs.FollowsToo.{FollowsToo}

-- what follows a state follows each that is no worse
abbrev pub NoWorseFollow : GalleyValue → StyleValue → Type 0
NoWorseFollow galley style = (u v : State) (m : PageMove) (x : State) (c : ℤ) →
    IsState (document galley style) v → is_no_worse u v ≡ true → Follow (document galley style) v m x c →
    FollowsToo (document galley style) u m x c

-- nothing is left to do in a state that is no worse than one with nothing left
abbrev pub NoWorseDone : GalleyValue → StyleValue → Type 0
NoWorseDone galley style = (u v : State) → is_no_worse u v ≡ true → is_done (document galley style) v ≡ true →
    is_done (document galley style) u ≡ true
