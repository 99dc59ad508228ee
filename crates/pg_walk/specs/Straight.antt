-- The ends along the first stretch from a place: of candidates with what no room changes, or in a room.
use Rattle.std.specs.Prelude.{◌≡◌, List, [], None, IfSome, ◌+ℤ◌, pos}
use Rattle.pg_column.specs.declared.cost.TextRoom.{TextRoom}
use Rattle.pg_list.specs.declared.galley.Place.{Place}
use Rattle.pg_rules.specs.Floats.{gap_stretch}
use Rattle.pg_rules.specs.Reach.{greatest_areas, greatest_extra}
use Rattle.pg_rules.specs.Room.{Document}
use Rattle.pg_style.specs.Values.{StyleValue}
use Rattle.pg_candidates.specs.Nears.{AreNear}
use Rattle.pg_candidates.specs.RoomEnds.{ends_of}
use Rattle.law_walk.specs.Best.{AreBest}
use Rattle.law_walk.specs.Candidates.{AreCandidates, Candidate, text_ends}
use Rattle.law_walk.specs.Reached.{tallest}
use Rattle.law_walk.specs.Space.{first_ends}
use Rattle.pg_walk.specs.declared.place.FirstWalk.{FirstWalk}
use Rattle.pg_walk.specs.declared.straight.StraightEnds.{StraightEnds}

-- the room of the tallest run, with no areas
abbrev pub tallest_room : StyleValue → TextRoom
tallest_room style = record {
  size = style.height +ℤ greatest_extra style.runs;
  give = record { stretch = pos 0; shrink = pos 0 };
}

-- the candidates along the first stretch from a place, none of which has picks
abbrev pub straight_candidates : Document → Place → List Candidate
straight_candidates doc from = first_ends doc (tallest doc.style) from

-- the best of their ends in a room
abbrev pub AreStraight : Document → Place → StraightEnds → Type 0
AreStraight doc from it = AreBest (text_ends doc it.room (straight_candidates doc from)) (ends_of [] it.ends.items)

-- the ends of these candidates, what no room changes of each, or the best in the one room that the style has
pub record Tells (doc : Document) (from : Place) (cs : List Candidate) (walk : FirstWalk) : Type 0 where
  pub near : walk.straight ≡ None → AreNear doc (greatest_areas gap_stretch doc.style) cs walk.near
  pub straight : IfSome walk.straight (λ it. (walk.near.picks ≡ []) × ((cs ≡ straight_candidates doc from)
      × ((it.room ≡ tallest_room doc.style) × AreStraight doc from it)))

-- of candidates that suffice
pub record TellsAll (doc : Document) (from : Place) (walk : FirstWalk) : Type 0 where
  pub candidates : List Candidate
  pub found : AreCandidates doc from (tallest doc.style) candidates
  pub tells : Tells doc from candidates walk
