-- What stands behind the front of a choice, for all places whose columns come there alike but for their height.
use Rattle.std.specs.Prelude.{◌≡◌, ◌&&◌, ℕ, ◌+◌, Bool, true, List, [], ◌++◌, map, Option, ℤ}
use Rattle.std.specs.declared.cmp.Ordering.TheVariants.{Less}
use Rattle.pg_list.specs.declared.galley.Place.{Place}
use Rattle.pg_plan.specs.Order.{place_cmp}
use Rattle.pg_rules.specs.Floats.{gap_stretch}
use Rattle.pg_rules.specs.IsState.{IsPlace}
use Rattle.pg_rules.specs.Reach.{IsReach, greatest_areas}
use Rattle.pg_rules.specs.Room.{Document}
use Rattle.pg_hops.specs.declared.state.State.{State}
use Rattle.pg_candidates.specs.Nears.{AreNear}
use Rattle.law_walk.specs.Best.{IsAmong}
use Rattle.law_walk.specs.Candidates.{AreCandidates, Candidate}
use Rattle.law_walk.specs.Reached.{quiet, tallest}
use Rattle.law_walk.specs.Space.{WalkState, is_no_worse}
use Rattle.pg_walk.specs.Blocks.{IsBegun}
use Rattle.pg_walk.specs.Collected.{Collects}
use Rattle.pg_walk.specs.Furthest.{GoesTo}
use Rattle.pg_walk.specs.Meaning.{state_of}
use Rattle.pg_walk.specs.Moved.{IsMoved, moved_candidate}
use Rattle.pg_walk.specs.declared.front.Front.{Front}
use Rattle.pg_walk.specs.Straight.{Tells, straight_candidates}
use Rattle.pg_walk.specs.declared.front.FrontWalk.{FrontWalk}
use Rattle.pg_walk.specs.declared.place.FirstWalk.{FirstWalk}

-- each is no worse than the other: one front, the same sums and notes, the same bound
abbrev pub is_same_state : WalkState → WalkState → Bool
is_same_state u v = is_no_worse u v && is_no_worse v u

-- so columns from a place come to the first front, with their notes and without, in the tallest room
pub record IsAhead (doc : Document) (from : Place) (front : Front) : Type 0 where
  pub start : IsBegun doc (tallest doc.style) from front.start
  pub quiet : IsBegun (quiet doc) (tallest doc.style) from front.quiet

-- the first stretch from a place: what is told of its ends, and how columns come to the front behind it
pub record ComesTo (doc : Document) (from : Place) (first : FirstWalk) (front : Front) : Type 0 where
  pub tells : Tells doc from (straight_candidates doc from) first
  pub ahead : IsAhead doc from front

-- what stands behind a state at a front: these candidates, along the picks of the labels, with what no room changes
pub record IsFrontWalkOf (doc : Document) (cs : List Candidate) (it : FrontWalk) : Type 0 where
  pub ends : Collects doc (tallest doc.style) it.base [] cs
  pub near : AreNear doc (greatest_areas gap_stretch doc.style) cs it.near

-- some candidates
pub record IsFrontWalk (doc : Document) (it : FrontWalk) : Type 0 where
  pub candidates : List Candidate
  pub are : IsFrontWalkOf doc candidates it

-- each of the one stands before each of the other
abbrev pub AreApart : List Candidate → List Candidate → Type 0
AreApart cs ds = (c d : Candidate) → IsAmong c cs → IsAmong d ds → place_cmp c.to d.to ≡ Less

-- with the candidates along the first stretch from a place those behind a front, moved, suffice, and they stand behind them
pub record Serves (doc : Document) (from : Place) (by : ℤ) (bound : Option ℤ) (cs : List Candidate) : Type 0 where
  pub candidates : AreCandidates doc from (tallest doc.style)
      (straight_candidates doc from ++ map (moved_candidate by bound) cs)
  pub apart : AreApart (straight_candidates doc from) (map (moved_candidate by bound) cs)

-- so it is for each place whose columns come to the front as the walk behind it does, but for their height
abbrev pub FrontsServe : Document → Type 0
FrontsServe doc = (from : Place) (front : Front) (by : ℤ) (bound : Option ℤ) (cs : List Candidate)
    (it : FrontWalk) → IsPlace doc.blocks from → IsAhead doc from front →
    IsMoved by bound (state_of it.base) (state_of front.start) → IsFrontWalkOf doc cs it → Serves doc from by bound cs

-- ---- how far columns go

-- one more than the greatest block behind the state before a front, where no notes are passed
pub record IsReachBehind (doc : Document) (start : State) (reach : ℕ) : Type 0 where
  pub greatest : ℕ
  pub goes : GoesTo (quiet doc) (tallest doc.style) start start.block greatest
  pub is : reach ≡ greatest + 1

-- it is the reach of each place whose columns come to the front in this state, where they pass no notes
abbrev pub ReachesServe : Document → Type 0
ReachesServe doc = (from : Place) (start kept : State) (reach : ℕ) → IsPlace doc.blocks from →
    IsBegun (quiet doc) (tallest doc.style) from start → is_same_state (state_of kept) (state_of start) ≡ true →
    IsReachBehind doc kept reach → IsReach doc from reach
