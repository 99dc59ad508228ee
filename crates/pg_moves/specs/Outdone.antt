-- What is remembered of the states behind a column.
use Rattle.std.specs.Prelude.{◌≡◌, ◌≤◌, ◌^◌, ℤ, ◌+ℤ◌, nat_abs, Bool, true, false, List, ◌++◌, Option, Some, None, IfSome}
use Rattle.std.specs.List.{AllByRecursion}
use Rattle.law_moves.specs.Steps.{fitness_cost, kept_fitness}
use Rattle.pg_candidates.specs.declared.room_end.RoomEnd.{RoomEnd}
use Rattle.pg_plan.specs.declared.states.State.{State}
use Rattle.pg_states.specs.LineOf.{IsLineOf}
use Rattle.pg_states.specs.Marks.{along, is_marked}
use Rattle.pg_style.specs.Values.{StyleValue}
use Rattle.pg_moves.specs.declared.behind.Behind.{Behind}
use Rattle.pg_moves.specs.declared.behind.Reached.{Reached}

-- the line is that of the state, and the cost is small
pub record IsAsked (u : State) (it : Reached) : Type 0 where
  pub line : IsLineOf it.line u
  pub small : nat_abs it.cost ≤ 2 ^ 65

-- a state no worse was reached at a lower cost than a column that pays so much beside what is paid already
abbrev pub marked_at : Option Reached → State → ℤ → Bool
marked_at None v c = false
marked_at (Some it) v c = is_marked it.line.marks.now v (it.cost +ℤ c)

-- the same marks are asked, at the same cost
pub record AreSameMarks (a b : Reached) : Type 0 where
  pub marks : b.line.marks ≡ a.line.marks
  pub cost : b.cost ≡ a.cost

-- a state of this line, that behind a column to this end, was reached at a lower cost, as is remembered
abbrev pub IsLateBy : StyleValue → State → State → Option Reached → RoomEnd → Type 0
IsLateBy style u line reached end = marked_at reached (along line end.to (kept_fitness style end.cost.fitness))
    ((end.cost.demerits +ℤ end.pick_demerits) +ℤ fitness_cost style u.fitness end.cost.fitness) ≡ true

-- the state behind a column to this end was reached at a lower cost, as is remembered
abbrev pub IsLate : StyleValue → State → Behind → RoomEnd → Type 0
IsLate style u it end = IsLateBy style u it.state it.reached end

-- the ends that are left behind some that come too late
pub record AreLeft (style : StyleValue) (u : State) (it : Behind) (ends left : List RoomEnd) : Type 0 where
  pub first : List RoomEnd
  pub whole : ends ≡ first ++ left
  pub late : AllByRecursion (IsLate style u it) first

-- while ends that come too late are passed over: those that are left, and whom is asked
pub record IsSkipping (style : StyleValue) (u : State) (it : Behind) (ends : List RoomEnd) (reached : Reached)
    (rest : List RoomEnd) : Type 0 where
  pub left : AreLeft style u it ends rest
  pub asked : IsAsked it.state reached
  pub own : (own : Reached) × ((it.reached ≡ Some own) × AreSameMarks own reached)

-- what is remembered is of the line of the state, and moves that come later than it tells are spared
pub record AreSpared (spared : State → ℤ → Bool) (it : Behind) : Type 0 where
  pub asked : IfSome it.reached (IsAsked it.state)
  pub late : (v : State) (c : ℤ) → marked_at it.reached v c ≡ true → spared v (it.page +ℤ c) ≡ true
